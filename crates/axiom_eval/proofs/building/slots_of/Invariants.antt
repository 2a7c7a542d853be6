use Rattle.axiom_eval.proofs.RuleTables.{AreSlotsTo}
use Rattle.axiom_eval.proofs.building.slots_of.Given as goal

abbrev pub invariant-loop-i : goal.invariant-loop-i
invariant-loop-i l = AreSlotsTo l.parts l.i l.slots.items
