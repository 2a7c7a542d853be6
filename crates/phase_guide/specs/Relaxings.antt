-- What a phase takes from the relaxation, and what that tells of a state.
use Rattle.std.specs.Prelude.{◌≡◌, ℕ, List, [], Bool, true, false, filter, Option, Some, None}
use Rattle.lama_num.specs.declared.estimates.Estimate.TheVariants.{Finite}
use Rattle.sas_task.specs.declared.contents.CostKind.{CostKind}
use Rattle.sas_task.specs.declared.contents.Parts.{Parts}
use Rattle.relaxed_task.specs.Reached.{IsDead}
use Rattle.relaxed_task.specs.Relaxations.{IsRelaxed}
use Rattle.h_add.specs.Values.{IsValueOfGoals}
use Rattle.h_ff.specs.RelaxedPlans.{HasPlan}
use Rattle.conf_text.specs.Grammar.{has_guide}
use Rattle.conf_text.specs.declared.config.GuideKind.TheVariants.{Ff}
use Rattle.conf_text.specs.declared.config.Phase.{Phase}
use Rattle.guide.specs.Operators.{applicable_operators, is_among}
use Rattle.phase_guide.specs.Kinds.{is_relaxing}
use Rattle.phase_guide.specs.declared.relaxing.Relaxing.{Relaxing}
use Rattle.phase_guide.specs.declared.relaxing.Relaxing.TheVariants.{Nothing, Additive, Planning}
use Rattle.phase_guide.specs.declared.relaxing.RelaxedCosts.{RelaxedCosts}

-- of a task and a kind of cost
abbrev pub IsRelaxingFor : Parts → CostKind → Relaxing → Type 0
IsRelaxingFor parts kind Nothing = Unit {0}
IsRelaxingFor parts kind (Additive add) = IsRelaxed parts kind add.relaxed
IsRelaxingFor parts kind (Planning ff) = IsRelaxed parts kind ff.relaxed × (ff.kind ≡ kind)

-- it finds dead states and the additive estimate
abbrev pub relaxes : Relaxing → Bool
relaxes Nothing = false
relaxes (Additive add) = true
relaxes (Planning ff) = true

-- it finds relaxed plans
abbrev pub plans : Relaxing → Bool
plans Nothing = false
plans (Additive add) = false
plans (Planning ff) = true

-- the operators of the relaxed plan that was found last, and those of them that are applicable
abbrev pub plan_of : Relaxing → List ℕ
plan_of Nothing = []
plan_of (Additive add) = []
plan_of (Planning ff) = ff.plan

abbrev pub helpful_of : Relaxing → List ℕ
helpful_of Nothing = []
helpful_of (Additive add) = []
helpful_of (Planning ff) = ff.preferred

-- It is of the task and of the phase's kind of cost, finds dead states exactly where a guide of the phase goes by the relaxation, and
-- relaxed plans where FF is among them.
pub record Serves (parts : Parts) (phase : Phase) (relaxing : Relaxing) : Type 0 where
  pub made : IsRelaxingFor parts phase.estimate relaxing
  pub relaxing_is : is_relaxing phase ≡ relaxes relaxing
  pub planning : has_guide phase.guides Ff ≡ true → plans relaxing ≡ true

-- The state isn't dead, as far as that is found, and has these costs. What is helpful of the relaxed plan is some of the applicable
-- operators, in their order.
pub record IsAlive (parts : Parts) (kind : CostKind) (state : List ℕ) (relaxing : Relaxing) (costs : RelaxedCosts) : Type 0 where
  pub alive : relaxes relaxing ≡ true → IsDead parts state → ⊥
  pub add : relaxes relaxing ≡ true → IsValueOfGoals parts kind state (Finite costs.add)
  pub ff : plans relaxing ≡ true → HasPlan parts kind state costs.ff (plan_of relaxing) (helpful_of relaxing)
  pub helpful : helpful_of relaxing ≡ filter (is_among (helpful_of relaxing)) (applicable_operators parts state)

-- what is told of a state; nothing where it is dead
abbrev pub Tells : Parts → CostKind → List ℕ → Relaxing → Option RelaxedCosts → Type 0
Tells parts kind state relaxing None = IsDead parts state × (relaxes relaxing ≡ true)
Tells parts kind state relaxing (Some costs) = IsAlive parts kind state relaxing costs
