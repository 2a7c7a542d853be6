-- What is needed of an order of best supporters is a relaxed plan.
use Rattle.std.proofs.Common.{◌≡◌, refl, ℕ, false, ◌<◌, List, length, get_or, true, Some, slice_get, ap, ◌+◌, ◌≤◌, [], ◌∷◌, ◌++◌, drop, nat_lt, arith, Bool, ◌↔◌, ◌-◌, map, filter}
use Rattle.std.specs.List.{cons_option}
use Rattle.std.proofs.lemmas.Bool.{ltb-true}
use Rattle.std.proofs.lemmas.List.{get_or_default}
use Rattle.std.proofs.lemmas.Option.{slice_get_read}
use Rattle.relaxed_task.specs.Numbers.{over_numbers, is_among, by_number, costs_by}
use Rattle.lama_num.proofs.ListLaws.{list_all_get}
use Rattle.sas_task.specs.declared.contents.Parts.{Parts}
use Rattle.state_step.specs.Steps.{is_applicable}
use Rattle.relaxed_task.specs.declared.unary.Unary.{Unary}
use Rattle.h_ff.specs.Orders.{ops_of}
use Rattle.h_add.specs.Orders.{chosen, are_places, given_by, IsOrder}
use Rattle.h_add.proofs.EvaluatedLaws.{finite_if_alive}
use Rattle.relaxed_task.proofs.Elements.{drop_within}
use Rattle.relaxed_task.specs.Relaxing.{kept}
use Rattle.sas_task.specs.declared.contents.CostKind.{CostKind}
use Rattle.sas_task.specs.declared.contents.Variable.{Variable}
use Rattle.relaxed_task.specs.declared.relaxation.Lists.{Lists}
use Rattle.relaxed_task.specs.Estimates.{is_finite}
use Rattle.relaxed_task.specs.Facts.{UnaryOperator}
use Rattle.relaxed_task.proofs.NumberLaws.{supported_by_facts, weaker}
use Rattle.relaxed_task.proofs.PlanLaws.{kept_is_supported}
use Rattle.relaxed_task.specs.Reached.{IsDead}
use Rattle.relaxed_task.specs.Relaxations.{IsRelaxed}
use Rattle.h_add.specs.ByNumber.{start_facts}
use Rattle.h_add.specs.Values.{value_at, IsEvaluated}
use Rattle.h_ff.specs.RelaxedPlans.{operators_of, AreEachOnce, HasPlan, cost_of}

at_place : {X : Type 0} (xs : List X) (i : ℕ) (x : X) → i < length xs → x ≡ get_or xs i x → slice_get xs i ≡ Some x
at_place xs i x lt is = slice_get_read xs (length xs) i x refl lt is

-- one more of an order, the last first
pub one_more : (unaries : List Unary) (order : List ℕ) (k : ℕ) (u : Unary) → are_places (length unaries) order ≡ true → 0 < k → k ≤ length order → u ≡ get_or unaries (get_or order (k - 1) 0) u → chosen unaries (drop (k - 1) order) ≡ u ∷ chosen unaries (drop k order)
one_more unaries order k u all some few at =
    let place = get_or order (k - 1) 0 in
    let within = list_all_get (λ i. nat_lt i (length unaries)) order (k - 1) place all (at_place order (k - 1) place (omega arith) (get_or_default order (k - 1) 0 place (omega arith))) in
    let rest : (k - 1) + 1 ≡ k = omega arith in
    rw (drop_within order (k - 1) place (omega arith) refl, at_place unaries place u (ltb-true place (length unaries) within) at, rest) refl

same_ops : (variables : List Variable) (list : List UnaryOperator) → ops_of (map (by_number variables) list) ≡ operators_of list
same_ops variables [] = refl
same_ops variables (u ∷ list) = ap (cons_option u.op) (same_ops variables list)

-- what FF answers where the state isn't dead
pub has_plan : {parts : Parts} {kind : CostKind} {state costs : List ℕ} {lists : Lists} {order ops preferred : List ℕ} {value : ℕ} {dead : Bool} → IsRelaxed parts kind lists → IsEvaluated parts kind state [] costs → (dead ≡ true) ↔ IsDead parts state → dead ≡ false →
    IsOrder lists.unaries (start_facts parts state) (value_at costs) order → AreEachOnce (ops_of (kept over_numbers lists.goals (chosen lists.unaries order))) ops → value ≡ cost_of parts kind ops →
    preferred ≡ filter (is_applicable parts state) ops → HasPlan parts kind state value ops preferred
has_plan {parts} {kind} {state} {costs} {lists} {order} is evaluated exact alive ordered operators cost applicable =
    let living : IsDead parts state → ⊥ = λ d. (let k = exact.1 d in absurd cc) in
    let list : List Unary = kept over_numbers lists.goals (chosen lists.unaries order) in
    let finite = weaker (λ fact. is_finite (value_at costs fact)) (is_among (start_facts parts state ++ given_by (chosen lists.unaries order))) lists.goals ordered.given (finite_if_alive parts kind lists state costs is evaluated living) in
    let by_numbers = kept_is_supported over_numbers lists.goals lists.unaries (start_facts parts state) (value_at costs) (chosen lists.unaries order) ordered.best ordered.in_order finite in
    let named = supported_by_facts parts kind state (value_at costs) list is.well_formed evaluated.of_task (rw (← is.unaries, ← is.goals) by_numbers) in
    record {
      alive = living;
      list = named.list;
      plan = record { costs = costs_by parts.variables (value_at costs); each = evaluated.each; supported = named.supported };
      operators = rw (← same_ops parts.variables named.list, named.same) operators;
      cost = cost;
      applicable = applicable;
    }
