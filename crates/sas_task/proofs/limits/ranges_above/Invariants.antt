use Rattle.std.specs.Prelude.{◌≡◌, drop, map, length}
use Rattle.sas_task.specs.Limits.{most_listed}
use Rattle.sas_task.specs.Refusals.{above}
use Rattle.sas_task.proofs.limits.ranges_above.Given as goal

abbrev pub invariant-loop-variable : goal.invariant-loop-variable
invariant-loop-variable l = above most_listed (map (λ v. length v.values) (drop l.variable-index l.variables)) ≡ above most_listed (map (λ v. length v.values) l.variables)
