use Rattle.std.proofs.Common.{◌≡◌, reverse, take}
use Rattle.std.specs.FinMap.{get}
use Rattle.host_mem.specs.Journal.{first_held}
use Rattle.host_mem.proofs.journal.look_up_first.Given as goal

abbrev pub invariant-loop-i : goal.invariant-loop-i
invariant-loop-i l = get (first_held (reverse (take l.i l.first))) l.name ≡ get (first_held (reverse l.first)) l.name
