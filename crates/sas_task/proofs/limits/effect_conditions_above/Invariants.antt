use Rattle.std.specs.Prelude.{◌≡◌, drop, map, length}
use Rattle.sas_task.specs.Limits.{most_listed}
use Rattle.sas_task.specs.Refusals.{above}
use Rattle.sas_task.proofs.limits.effect_conditions_above.Given as goal

abbrev pub invariant-loop-effect : goal.invariant-loop-effect
invariant-loop-effect l = above most_listed (map (λ e. length e.conds) (drop l.effect-index l.effects)) ≡ above most_listed (map (λ e. length e.conds) l.effects)
