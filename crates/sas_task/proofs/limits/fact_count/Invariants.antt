use Rattle.std.specs.Prelude.{◌≡◌, ◌≤◌, ◌*◌, take}
use Rattle.sas_task.specs.Limits.{most_listed}
use Rattle.sas_task.specs.WellFormed.{fact_count}
use Rattle.sas_task.proofs.limits.fact_count.Given as goal

abbrev pub invariant-loop-variable : goal.invariant-loop-variable
invariant-loop-variable l = record {
  small : l.facts ≤ most_listed * l.variable-index;
  same : l.facts ≡ fact_count (take l.variable-index l.variables);
}
