-- Effects of a state's variables, and what is said of steps.
use Rattle.std.specs.Prelude.{ℕ, Bool, ◌&&◌}
use Rattle.std.specs.List.{list_all}
use Rattle.sas_task.specs.declared.contents.Effect.{Effect}
use Rattle.axiom_eval.specs.Within.{is_within}
pub use Rattle.sas_task.specs.States.{is_applicable}

-- the variables of an effect are among so many
abbrev pub effect_is_within : ℕ → Effect → Bool
effect_is_within n effect = list_all (is_within n) effect.conds && is_within n effect.fact
