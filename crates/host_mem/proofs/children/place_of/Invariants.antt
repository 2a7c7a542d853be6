use Rattle.std.proofs.Common.{◌≡◌, drop}
use Rattle.host_mem.specs.Scripts.{script_in}
use Rattle.host_mem.proofs.children.place_of.Given as goal

abbrev pub invariant-loop-i : goal.invariant-loop-i
invariant-loop-i l = script_in (drop l.i l.running) l.slot ≡ script_in l.running l.slot
