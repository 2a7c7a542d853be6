use Rattle.std.specs.Prelude.{◌≡◌, drop, map, length}
use Rattle.sas_task.specs.Limits.{most_listed}
use Rattle.sas_task.specs.Refusals.{above}
use Rattle.sas_task.proofs.limits.effects_above.Given as goal

abbrev pub invariant-loop-operator : goal.invariant-loop-operator
invariant-loop-operator l = above most_listed (map (λ o. length o.effects) (drop l.operator-index l.operators)) ≡ above most_listed (map (λ o. length o.effects) l.operators)
