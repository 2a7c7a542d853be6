-- A finite set of exit codes.
use Rattle.std.specs.Ordering.{nat_cmp}
use Rattle.std.specs.FinSet as set

abbrev pub CodeSet : Type 0
CodeSet = set.FinSet nat_cmp
