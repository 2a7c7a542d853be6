use Rattle.std.specs.Prelude.{◌≡◌, drop, filter_map}
use Rattle.sas_task.specs.Limits.{highest_layer}
use Rattle.sas_task.specs.Refusals.{above}
use Rattle.sas_task.proofs.limits.layers_above.Given as goal

abbrev pub invariant-loop-variable : goal.invariant-loop-variable
invariant-loop-variable l = above highest_layer (filter_map (λ v. v.layer) (drop l.variable-index l.variables)) ≡ above highest_layer (filter_map (λ v. v.layer) l.variables)
