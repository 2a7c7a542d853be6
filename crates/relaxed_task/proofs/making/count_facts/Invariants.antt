use Rattle.std.specs.Prelude.{◌≡◌, take}
use Rattle.sas_task.specs.WellFormed.{fact_count}
use Rattle.relaxed_task.proofs.making.count_facts.Given as goal

abbrev pub invariant-loop-variable : goal.invariant-loop-variable
invariant-loop-variable l = l.count ≡ fact_count (take l.variable-index l.variables)
