use Rattle.std.proofs.Common.{◌≡◌, reverse, take}
use Rattle.std.specs.FinMap.{get}
use Rattle.host_mem.specs.Journal.{holds, first_held}
use Rattle.host_mem.proofs.journal.look_up.Given as goal

abbrev pub invariant-loop-i : goal.invariant-loop-i
invariant-loop-i l = get (holds (first_held (reverse l.first)) (reverse (take l.i l.journal))) l.name ≡ get (holds (first_held (reverse l.first)) (reverse l.journal)) l.name
