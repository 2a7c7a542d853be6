use Rattle.std.proofs.Common.{◌≡◌, map, take}
use Rattle.axiom_eval.specs.Building.{conds_of}
use Rattle.axiom_eval.proofs.building.conds_of.Given as goal

abbrev pub invariant-loop-slot : goal.invariant-loop-slot
invariant-loop-slot l = l.rows ≡ map (conds_of l.rules) (take l.slot-index l.slots)
