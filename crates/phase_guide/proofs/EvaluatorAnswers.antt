-- What evaluators answer is what is told of a state.
use Rattle.std.proofs.Common.{◌≡◌, sym, subst, refl, ℕ, List, [], filter, ◌⊎◌, ◌↔◌, inl, inr, Option, Some, None, IfSome, IfNone, length}
use Rattle.lama_num.proofs.ListLaws.{list_all_get}
use Rattle.lama_num.specs.declared.estimates.Estimate.{Estimate}
use Rattle.lama_num.specs.declared.estimates.Estimate.TheVariants.{Finite, Infinite}
use Rattle.sas_task.proofs.RunLaws.{applicable-within, goal-facts}
use Rattle.sas_task.specs.States.{is_applicable}
use Rattle.sas_task.specs.WellFormed.{IsWellFormed, is_fact}
use Rattle.sas_task.specs.declared.contents.CostKind.{CostKind}
use Rattle.sas_task.specs.declared.contents.Parts.{Parts}
use Rattle.relaxed_task.specs.AdditiveCosts.{IsGoalValue}
use Rattle.relaxed_task.specs.Reached.{IsDead}
use Rattle.h_add.specs.Values.{Evaluator, IsValueOfGoals}
use Rattle.h_ff.specs.Ready.{Planner}
use Rattle.h_ff.specs.RelaxedPlans.{IsFf, HasPlan}
use Rattle.guide.specs.Operators.{applicable_operators, is_among}
use Rattle.guide.proofs.OperatorLaws.{none_preferred}
use Rattle.phase_guide.specs.declared.relaxing.Relaxing.{Relaxing}
use Rattle.phase_guide.specs.declared.relaxing.Relaxing.TheVariants.{Nothing, Additive, Planning}
use Rattle.phase_guide.specs.declared.relaxing.RelaxedCosts.{RelaxedCosts}
use Rattle.phase_guide.specs.Relaxings.{IsAlive, Tells}
use Rattle.phase_guide.proofs.Sublists.{sublist}

-- what all facts cost, told of the goal facts alone
pub of_goals : (parts : Parts) (kind : CostKind) (state : List ℕ) (value : Estimate) → IsWellFormed parts → IsGoalValue parts kind state [] value → IsValueOfGoals parts kind state value
of_goals parts kind state value formed is = record {
  costs = is.costs;
  each = λ place goal at. is.each goal (list_all_get (is_fact parts.variables) parts.goal place goal (goal-facts parts formed) at);
  sum = is.sum;
}

pub tells_nothing : (parts : Parts) (kind : CostKind) (state : List ℕ) (costs : RelaxedCosts) (relaxing : Relaxing) → relaxing ≡ Nothing → IsAlive parts kind state relaxing costs
tells_nothing parts kind state costs relaxing is = subst (λ (r : Relaxing). IsAlive parts kind state r costs) (sym is) (record {
  alive = λ is. absurd (cc);
  add = λ is. absurd (cc);
  ff = λ is. absurd (cc);
  helpful = none_preferred [] (applicable_operators parts state) refl;
})

pub tells_additive : (parts : Parts) (kind : CostKind) (state : List ℕ) (add : Evaluator) (found : Estimate) (result : Option RelaxedCosts) →
    IfSome result (λ costs. (found ≡ Finite costs.add) × (Finite 0 ≡ Finite costs.ff)) → IfNone result ((found ≡ Infinite) ⊎ (Finite 0 ≡ Infinite)) →
    IsValueOfGoals parts kind state found → ((found ≡ Infinite) ↔ IsDead parts state) → Tells parts kind state (Additive add) result
tells_additive parts kind state add found None some (inl is) value dead = (dead.0 is, refl)
tells_additive parts kind state add found None some (inr is) value dead = absurd (cc)
tells_additive parts kind state add found (Some costs) same none value dead = record {
  alive = λ is gone. let k : found ≡ Infinite = dead.1 gone in let same_add : found ≡ Finite costs.add = same.0 in absurd (cc);
  add = λ is. subst (λ (e : Estimate). IsValueOfGoals parts kind state e) same.0 value;
  ff = λ is. absurd (cc);
  helpful = none_preferred [] (applicable_operators parts state) refl;
}

-- what of a relaxed plan is applicable is some of the applicable operators
helpful_is : (parts : Parts) (kind : CostKind) (state : List ℕ) (value : ℕ) (plan preferred : List ℕ) → HasPlan parts kind state value plan preferred → preferred ≡ filter (is_among preferred) (applicable_operators parts state)
helpful_is parts kind state value plan preferred has =
    sublist (is_applicable parts state) (length parts.operators) plan preferred has.operators.ascending (applicable-within parts state) has.applicable

pub tells_planning : (parts : Parts) (kind : CostKind) (state : List ℕ) (ff : Planner) (add value : Estimate) (result : Option RelaxedCosts) →
    IfSome result (λ costs. (add ≡ Finite costs.add) × (value ≡ Finite costs.ff)) → IfNone result ((add ≡ Infinite) ⊎ (value ≡ Infinite)) →
    IsValueOfGoals parts kind state add → ((add ≡ Infinite) ↔ IsDead parts state) → IsFf parts kind state value ff.plan ff.preferred → Tells parts kind state (Planning ff) result
tells_planning parts kind state ff add value None some (inl is) goals dead plan = (dead.0 is, refl)
tells_planning parts kind state ff add value None some (inr is) goals dead plan = ((subst (λ (e : Estimate). IsFf parts kind state e ff.plan ff.preferred) is plan).0, refl)
tells_planning parts kind state ff add value (Some costs) same none goals dead plan =
    let has : HasPlan parts kind state costs.ff ff.plan ff.preferred = subst (λ (e : Estimate). IsFf parts kind state e ff.plan ff.preferred) same.1 plan in
    record {
      alive = λ is. has.alive;
      add = λ is. subst (λ (e : Estimate). IsValueOfGoals parts kind state e) same.0 goals;
      ff = λ is. has;
      helpful = helpful_is parts kind state costs.ff ff.plan ff.preferred has;
    }
