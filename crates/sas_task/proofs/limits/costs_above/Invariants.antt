use Rattle.std.specs.Prelude.{◌≡◌, drop, map}
use Rattle.sas_task.specs.Limits.{highest_cost}
use Rattle.sas_task.specs.Refusals.{above}
use Rattle.sas_task.proofs.limits.costs_above.Given as goal

abbrev pub invariant-loop-operator : goal.invariant-loop-operator
invariant-loop-operator l = above highest_cost (map (λ o. o.cost) (drop l.operator-index l.operators)) ≡ above highest_cost (map (λ o. o.cost) l.operators)
