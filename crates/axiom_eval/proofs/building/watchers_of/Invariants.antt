use Rattle.axiom_eval.specs.Building.{AreWatchers}
use Rattle.axiom_eval.proofs.building.watchers_of.Given as goal

abbrev pub invariant-loop-place : goal.invariant-loop-place
invariant-loop-place l = AreWatchers l.variables l.heads l.conds l.place l.lists.items
