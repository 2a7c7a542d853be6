use Rattle.std.proofs.Common.{◌≡◌, map, take}
use Rattle.axiom_eval.specs.Building.{head_of}
use Rattle.axiom_eval.proofs.building.heads_of.Given as goal

abbrev pub invariant-loop-slot : goal.invariant-loop-slot
invariant-loop-slot l = l.heads.items ≡ map (head_of l.rules) (take l.slot-index l.slots)
