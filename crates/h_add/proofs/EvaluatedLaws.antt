-- Laws of evaluated states, for those who build on the estimate.
use Rattle.std.specs.Prelude.{◌≡◌, ℕ, List, length, [], ◌∷◌, ◌++◌, true, not, ◌↔◌, nat_eq, Some, slice_get}
use Rattle.std.specs.List.{list_all, list_any}
use Rattle.std.proofs.Common.{refl, sym, ap, ◌∙◌, arith}
use Rattle.std.proofs.lemmas.Bool.{both_ways, eq-eqb, false_from_ne_true, not-false, not-true, not_from_false, not_from_true, true_from_ne_false}
use Rattle.std.proofs.lemmas.List.Elements.{filter_map-append}
use Rattle.std.proofs.lemmas.List.Folds.{Any-from_list_any}
use Rattle.std.proofs.lemmas.Option.{slice_get_read}
use Rattle.lama_num.proofs.ListLaws.{list_all_get}
use Rattle.lama_num.specs.declared.estimates.Estimate.{Estimate}
use Rattle.lama_num.specs.declared.estimates.Estimate.TheVariants.{Infinite}
use Rattle.sas_task.proofs.RunLaws.{goal-facts}
use Rattle.sas_task.specs.States.{IsState}
use Rattle.sas_task.specs.WellFormed.{IsWellFormed, is_fact}
use Rattle.sas_task.specs.declared.contents.CostKind.{CostKind}
use Rattle.sas_task.specs.declared.contents.Fact.{Fact}
use Rattle.sas_task.specs.declared.contents.Parts.{Parts}
use Rattle.relaxed_task.specs.AdditiveCosts.{IsAdditiveCost}
use Rattle.relaxed_task.proofs.CostLaws.{sum_finite}
use Rattle.relaxed_task.proofs.Elements.{any_at}
use Rattle.relaxed_task.proofs.EstimateLaws.{finite_plus, infinite_where_not}
use Rattle.relaxed_task.specs.Estimates.{is_finite}
use Rattle.relaxed_task.specs.Facts.{distinct_facts}
use Rattle.relaxed_task.proofs.NumberLaws.{any_of_facts, cost_of_fact, sum_by_number}
use Rattle.relaxed_task.specs.Numbers.{number_of, numbers_of, costs_by, is_among}
use Rattle.relaxed_task.proofs.ReachLaws.{finite_exactly}
use Rattle.relaxed_task.specs.Reached.{IsDead, IsReached}
use Rattle.relaxed_task.specs.Relaxations.{IsRelaxed}
use Rattle.relaxed_task.specs.Relaxing.{sum_of as total}
use Rattle.relaxed_task.specs.declared.relaxation.Lists.{Lists}
use Rattle.relaxed_task.specs.declared.unary.Unary.{Unary}
use Rattle.h_add.specs.ByNumber.{IsAdd}
use Rattle.h_add.specs.Orders.{chosen}
use Rattle.h_add.specs.Values.{value_at, IsEvaluated, IsEvaluatedByNumber, IsValueOfGoals}

-- what is evaluated by number is evaluated
pub evaluated_facts : (parts : Parts) (kind : CostKind) (state : List ℕ) (without : List Fact) (costs : List ℕ) → IsWellFormed parts → IsState parts.variables state → list_all (is_fact parts.variables) without ≡ true →
    IsEvaluatedByNumber parts kind state (numbers_of parts.variables without) costs → IsEvaluated parts kind state without costs
evaluated_facts parts kind state without costs formed of all each = record {
  of_task = of;
  each = λ fact h. cost_of_fact parts kind state without fact (costs_by parts.variables (value_at costs) fact) formed of all h (each (number_of parts.variables fact));
}

-- the goal facts cost what they do
abbrev pub AreGoalCosts : Parts → CostKind → List ℕ → List ℕ → Type 0
AreGoalCosts parts kind state costs = (place : ℕ) (goal : Fact) → slice_get parts.goal place ≡ Some goal → IsAdditiveCost parts kind state [] goal (costs_by parts.variables (value_at costs) goal)

pub goals_by_number : (parts : Parts) (kind : CostKind) (relaxed : Lists) (state costs : List ℕ) → IsRelaxed parts kind relaxed → IsState parts.variables state → ((fact : ℕ) → is_among relaxed.goals fact ≡ true → IsAdd parts kind state [] fact (value_at costs fact)) →
    AreGoalCosts parts kind state costs
goals_by_number parts kind relaxed state costs is of each place goal at =
    cost_of_fact parts kind state [] goal (costs_by parts.variables (value_at costs) goal) is.well_formed of refl (list_all_get (is_fact parts.variables) parts.goal place goal (goal-facts parts is.well_formed) at)
    (each (number_of parts.variables goal) (ap (λ (goals : List ℕ). is_among goals (number_of parts.variables goal)) is.goals
    ∙ (any_of_facts parts.variables (nat_eq (number_of parts.variables goal)) parts.goal
    ∙ any_at (λ g. nat_eq (number_of parts.variables goal) (number_of parts.variables g)) parts.goal place goal at (eq-eqb (number_of parts.variables goal) (number_of parts.variables goal) refl))))

pub value_of_goals : (parts : Parts) (kind : CostKind) (relaxed : Lists) (state costs : List ℕ) (value : Estimate) → IsRelaxed parts kind relaxed → AreGoalCosts parts kind state costs → value ≡ total (value_at costs) relaxed.goals → IsValueOfGoals parts kind state value
value_of_goals parts kind relaxed state costs value is each sums = record {
  costs = costs_by parts.variables (value_at costs);
  each = each;
  sum = sums ∙ (ap (total (value_at costs)) is.goals ∙ sum_by_number parts.variables (value_at costs) (distinct_facts parts.goal));
}

-- a sum is finite where no summand is infinite
total_finite : (value : ℕ → Estimate) (facts : List ℕ) → is_finite (total value facts) ≡ not (list_any (λ fact. not (is_finite (value fact))) facts)
total_finite value [] = refl
total_finite value (fact ∷ facts) = grind (arith, finite_plus (value fact) (total value facts), total_finite value facts)

-- the sum over the goal facts is infinite exactly where the state is dead
pub dead_by_goals : (parts : Parts) (kind : CostKind) (relaxed : Lists) (state costs : List ℕ) (value : Estimate) → IsRelaxed parts kind relaxed → AreGoalCosts parts kind state costs → value ≡ total (value_at costs) relaxed.goals → (value ≡ Infinite) ↔ IsDead parts state
dead_by_goals parts kind relaxed state costs value is each sums = (
  λ infinite.
      (let found = Any-from_list_any (λ fact. not (is_finite (costs_by parts.variables (value_at costs) fact))) parts.goal (sym goals ∙ not-false _ (sym finite ∙ ap is_finite infinite)) in
      let at = slice_get_read parts.goal (length parts.goal) found.0 found.1 refl found.2 (sym found.3) in
      record { place = found.0; goal = found.1; at = at; unreached = λ n. false_from_ne_true _ (λ reached. both_ways _ (not-true _ found.4) ((exactly found.0 found.1 at).1 (record { round = n; reached = reached }))) }),
  λ dead. (let any = any_at (λ fact. not (is_finite (costs_by parts.variables (value_at costs) fact))) parts.goal dead.place dead.goal dead.at
      (not_from_false _ (false_from_ne_true _ (λ finite. (let r = (exactly dead.place dead.goal dead.at).0 finite in both_ways _ (dead.unreached r.round) r.reached)))) in
      infinite_where_not value (finite ∙ not_from_true _ (goals ∙ any))),
)
  where
    goals : list_any (λ fact. not (is_finite (value_at costs fact))) relaxed.goals ≡ list_any (λ fact. not (is_finite (costs_by parts.variables (value_at costs) fact))) parts.goal
    goals = ap (list_any (λ fact. not (is_finite (value_at costs fact)))) is.goals ∙ any_of_facts parts.variables (λ fact. not (is_finite (value_at costs fact))) parts.goal

    finite : is_finite value ≡ not (list_any (λ fact. not (is_finite (value_at costs fact))) relaxed.goals)
    finite = ap is_finite sums ∙ total_finite (value_at costs) relaxed.goals

    exactly : (place : ℕ) (goal : Fact) → slice_get parts.goal place ≡ Some goal → (is_finite (costs_by parts.variables (value_at costs) goal) ≡ true) ↔ IsReached parts state [] goal
    exactly place goal at = finite_exactly parts kind state [] goal (costs_by parts.variables (value_at costs) goal) (each place goal at)

pub dead_of_all : (parts : Parts) (kind : CostKind) (relaxed : Lists) (state costs : List ℕ) (value : Estimate) → IsRelaxed parts kind relaxed → IsEvaluated parts kind state [] costs → value ≡ total (value_at costs) relaxed.goals → (value ≡ Infinite) ↔ IsDead parts state
dead_of_all parts kind relaxed state costs value is evaluated sums = dead_by_goals parts kind relaxed state costs value is (λ place goal at. evaluated.each goal (list_all_get (is_fact parts.variables) parts.goal place goal (goal-facts parts is.well_formed) at)) sums

-- the goal facts are reached where the state isn't dead
pub finite_if_alive : (parts : Parts) (kind : CostKind) (relaxed : Lists) (state costs : List ℕ) → IsRelaxed parts kind relaxed → IsEvaluated parts kind state [] costs → (IsDead parts state → ⊥) → list_all (λ fact. is_finite (value_at costs fact)) relaxed.goals ≡ true
finite_if_alive parts kind relaxed state costs is evaluated alive =
    sym (sum_finite (value_at costs) relaxed.goals)
    ∙ true_from_ne_false _ (λ none. alive ((dead_of_all parts kind relaxed state costs (total (value_at costs) relaxed.goals) is evaluated refl).0 (infinite_where_not _ none)))

-- one place more of an order
pub chosen_grows : (unaries : List Unary) (order : List ℕ) (i : ℕ) (u : Unary) → slice_get unaries i ≡ Some u → chosen unaries (order ++ i ∷ []) ≡ chosen unaries order ++ u ∷ []
chosen_grows unaries order i u at =
    let one : chosen unaries (i ∷ []) ≡ u ∷ [] = rw at refl in
    filter_map-append (λ k. slice_get unaries k) order (i ∷ []) ∙ ap (λ (xs : List Unary). chosen unaries order ++ xs) one
