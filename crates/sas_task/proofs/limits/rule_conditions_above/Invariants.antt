use Rattle.std.specs.Prelude.{◌≡◌, drop, map, length}
use Rattle.sas_task.specs.Limits.{most_listed}
use Rattle.sas_task.specs.Refusals.{above}
use Rattle.sas_task.proofs.limits.rule_conditions_above.Given as goal

abbrev pub invariant-loop-rule : goal.invariant-loop-rule
invariant-loop-rule l = above most_listed (map (λ r. length r.conds) (drop l.rule-index l.rules)) ≡ above most_listed (map (λ r. length r.conds) l.rules)
