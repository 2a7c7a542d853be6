use Rattle.axiom_eval.proofs.DefaultValues.{AreDerivedTo}
use Rattle.axiom_eval.proofs.building.derived_of.Given as goal

abbrev pub invariant-loop-i : goal.invariant-loop-i
invariant-loop-i l = AreDerivedTo l.parts l.i l.derived.items
