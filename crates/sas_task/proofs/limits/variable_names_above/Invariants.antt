use Rattle.std.specs.Prelude.{◌≡◌, drop, flat_map}
use Rattle.sas_task.specs.Limits.{longest_name}
use Rattle.sas_task.specs.Refusals.{names_of, above}
use Rattle.sas_task.proofs.limits.variable_names_above.Given as goal

abbrev pub invariant-loop-variable : goal.invariant-loop-variable
invariant-loop-variable l = above longest_name (flat_map names_of (drop l.variable-index l.variables)) ≡ above longest_name (flat_map names_of l.variables)
