use Rattle.std.specs.Prelude.{◌≡◌, drop, map, length}
use Rattle.sas_task.specs.Limits.{longest_name}
use Rattle.sas_task.specs.Refusals.{above}
use Rattle.sas_task.proofs.limits.operator_names_above.Given as goal

abbrev pub invariant-loop-operator : goal.invariant-loop-operator
invariant-loop-operator l = above longest_name (map (λ o. length o.name) (drop l.operator-index l.operators)) ≡ above longest_name (map (λ o. length o.name) l.operators)
