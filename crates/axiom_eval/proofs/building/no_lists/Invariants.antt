use Rattle.std.proofs.Common.{◌≡◌, replicate, []}
use Rattle.axiom_eval.proofs.building.no_lists.Given as goal

abbrev pub invariant-loop-variable : goal.invariant-loop-variable
invariant-loop-variable l = l.lists.items ≡ replicate l._variable []
