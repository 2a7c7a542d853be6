-- Laws of Flags.
use Rattle.std.proofs.Common.{◌≡◌, ℕ, Bool, false, List, get_or, arith}
use Rattle.exit_codes.specs.Flags.{set_of, contains-set_from}
use Rattle.std.specs.FinSet as set

pub contains-set_of : (flags : List Bool) (q : ℕ) → set.contains (set_of flags) q ≡ get_or flags q false
contains-set_of flags q = contains-set_from 0 q q flags (omega arith)
