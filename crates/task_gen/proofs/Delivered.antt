-- The delivery task is admissible, and its preconditions stand in order.
use Rattle.std.proofs.Common.{◌≡◌, ◌∙◌, ap, refl, ℕ, zero, suc, ◌+◌, ◌<◌, ◌≤◌, List, [], ◌∷◌, ◌++◌, length, true, false, ◌&&◌, not, nat_eq, nat_le, nat_lt, map, arith, length-append}
use Rattle.std.specs.Prelude.{slice_get, codes, decimal, Some, None}
use Rattle.std.specs.List.{list_all}
use Rattle.std.proofs.lemmas.Bool.Decides.{nat_tests}
use Rattle.std.proofs.lemmas.Fmt.{length-decimal-le}
use Rattle.std.proofs.lemmas.List.Folds.{list_all-append}
use Rattle.std.proofs.lemmas.List.{map-append}
use Rattle.sas_task.specs.Limits.{most_listed, most_variables, most_facts, most_operators, longest_name, highest_cost}
use Rattle.std.proofs.lemmas.List.Sums.{sum_by-cons}
use Rattle.sas_task.proofs.TestLaws.{and_true, test-le}
use Rattle.sas_task.specs.WellFormed.{is_short, is_few, is_variable, is_fact, are_facts, is_derived, is_effect, starts, fact_count}
use Rattle.sas_task.specs.Order.{in_order, has_few_prevail}
use Rattle.sas_task.proofs.Admissible.{IsAdmissible, is_admissible_operator}
use Rattle.sas_task.proofs.Admission.{admitted}
use Rattle.sas_task.specs.Refusals.{refusal_of, canonical_parts}
use Rattle.sas_task.specs.declared.contents.Fact.{Fact}
use Rattle.sas_task.specs.declared.contents.Variable.{Variable}
use Rattle.sas_task.specs.declared.contents.Operator.{Operator}
use Rattle.task_gen.specs.Delivery.{IsPackageCount, places, packages, truck_at, at_place, inside, truck_of, package_of, starts_at, ends_at, fact_of, move_to, load, unload, moves, loads_of, loads, delivery}
use Rattle.lama_num.proofs.BoolLaws.{nat_eq-refl as same_test}
use Rattle.task_gen.proofs.Ranges.{all-map, all-flat_map, all-zip, map-flat_map, length-map_range, length-flat_map_range, sum_by-map_range, slice_get-map_range}

lt-test : (a b : ℕ) → a < b → nat_lt a b ≡ true
lt-test a b lt = grind (arith, nat_tests, lt)

few : {X : Type 0} (xs : List X) → length xs ≤ most_listed → is_few xs ≡ true
few xs le = test-le (length xs) most_listed le

-- names

short : (i : ℕ) → i ≤ 101 → length (decimal i) ≤ 20
short i low = length-decimal-le 20 i (omega arith) (omega arith) (omega arith)

between : (front back : List ℕ) (i : ℕ) → i ≤ 101 → length front + length back ≤ 4000 → is_short (front ++ (decimal i ++ back)) ≡ true
between front back i low le =
    let digits = short i low in
    let inner = length-append (decimal i) back in
    let whole = length-append front (decimal i ++ back) in
    test-le (length (front ++ (decimal i ++ back))) longest_name (omega arith)

two_between : (front middle back : List ℕ) (k i : ℕ) → k ≤ 101 → i ≤ 101 → length front + length middle + length back ≤ 4000 → is_short (front ++ (decimal k ++ (middle ++ (decimal i ++ back)))) ≡ true
two_between front middle back k i low_k low_i le =
    let first = short k low_k in
    let second = short i low_i in
    let a = length-append (decimal i) back in
    let b = length-append middle (decimal i ++ back) in
    let c = length-append (decimal k) (middle ++ (decimal i ++ back)) in
    let d = length-append front (decimal k ++ (middle ++ (decimal i ++ back))) in
    test-le (length (front ++ (decimal k ++ (middle ++ (decimal i ++ back))))) longest_name (omega arith)

numbered : (front : List ℕ) (k : ℕ) → k ≤ 101 → length front ≤ 2000 → is_short (front ++ decimal k) ≡ true
numbered front k low le =
    let digits = short k low in
    let whole = length-append front (decimal k) in
    test-le (length (front ++ decimal k)) longest_name (omega arith)

two_numbers : (front middle : List ℕ) (k i : ℕ) → k ≤ 101 → i ≤ 101 → length front + length middle ≤ 2000 → is_short (front ++ (decimal k ++ (middle ++ decimal i))) ≡ true
two_numbers front middle k i low_k low_i le =
    let first = short k low_k in
    let second = short i low_i in
    let a = length-append middle (decimal i) in
    let b = length-append (decimal k) (middle ++ decimal i) in
    let c = length-append front (decimal k ++ (middle ++ decimal i)) in
    test-le (length (front ++ (decimal k ++ (middle ++ decimal i)))) longest_name (omega arith)

-- variables

abbrev variables : ℕ → List Variable
variables n = truck_of n ∷ map (package_of n) (packages n)

truck_long : (n : ℕ) → length (truck_of n).values ≡ n + 1
unfolding truck_of
truck_long n = length-map_range truck_at 0 (n + 1)

package_long : (n k : ℕ) → length (package_of n k).values ≡ n + 2
unfolding package_of
package_long n k =
    let front = length-map_range (at_place k) 0 (n + 1) in
    let whole = length-append (map (at_place k) (places n)) (inside k ∷ []) in
    omega arith

good_variable : (v : Variable) (m : ℕ) → is_short v.name ≡ true → v.layer ≡ None → length v.values ≡ m → 0 < m → m ≤ most_listed → list_all is_short v.values ≡ true → is_variable v ≡ true
good_variable v m name layer long some few_values values =
    and_true (is_short v.name) _ name
    (and_true _ _ (rw layer refl)
    (and_true (nat_lt 0 (length v.values)) _ (lt-test 0 (length v.values) (omega arith))
    (and_true (is_few v.values) _ (few v.values (omega arith)) values)))

truck_good : (n : ℕ) → n ≤ 100 → is_variable (truck_of n) ≡ true
unfolding truck_of
truck_good n low =
    good_variable (truck_of n) (n + 1) refl refl (truck_long n) (omega arith) (omega arith)
    (all-map is_short truck_at 0 (n + 1) (λ i from to. between (codes "Atom truck-at(") (codes ")") i (omega arith) (omega arith)))

package_good : (n k : ℕ) → n ≤ 100 → k ≤ 100 → is_variable (package_of n k) ≡ true
unfolding package_of
package_good n k low_n low_k =
    good_variable (package_of n k) (n + 2) (numbered (codes "package") k (omega arith) (omega arith)) refl (package_long n k) (omega arith) (omega arith)
    (list_all-append is_short (map (at_place k) (places n)) (inside k ∷ [])
    ∙ and_true (list_all is_short (map (at_place k) (places n))) _
    (all-map is_short (at_place k) 0 (n + 1) (λ i from to. two_between (codes "Atom at(") (codes ", ") (codes ")") k i (omega arith) (omega arith) (omega arith)))
    (and_true (is_short (inside k)) true (between (codes "Atom in(") (codes ")") k (omega arith) (omega arith)) refl))

variables_good : (n : ℕ) → n ≤ 100 → list_all is_variable (variables n) ≡ true
variables_good n low = and_true (is_variable (truck_of n)) _ (truck_good n low) (all-map is_variable (package_of n) 1 n (λ k from to. package_good n k low (omega arith)))

facts_few : (n : ℕ) → n ≤ 100 → fact_count (variables n) ≤ most_facts
facts_few n low =
    let first = truck_long n in
    let rest = sum_by-map_range (λ v. length v.values) (package_of n) 102 1 n (λ k from to. let long = package_long n k in omega arith) in
    let whole = sum_by-cons (λ v. length v.values) (truck_of n) (map (package_of n) (packages n)) in
    omega arith

-- package k is variable k
package_at : (n k : ℕ) → 1 ≤ k → k ≤ n → slice_get (variables n) k ≡ Some (package_of n k)
package_at n zero low high = absurd (omega arith)
package_at n (suc m) low high = slice_get-map_range (package_of n) 1 n m (omega arith) ∙ ap (λ k. Some (package_of n k)) (let e : 1 + m ≡ suc m = omega arith in e)

truck_fact : (n i : ℕ) → i ≤ n → is_fact (variables n) (fact_of 0 i) ≡ true
truck_fact n i low = let long = truck_long n in lt-test i (length (truck_of n).values) (omega arith)

package_fact : (n k i : ℕ) → 1 ≤ k → k ≤ n → i ≤ n + 1 → is_fact (variables n) (fact_of k i) ≡ true
package_fact n k i low high within =
    let long = package_long n k in
    rw (package_at n k low high) (lt-test i (length (package_of n k).values) (omega arith))

truck_free : (n : ℕ) → not (is_derived (variables n) 0) ≡ true
unfolding truck_of
truck_free n = refl

package_free : (n k : ℕ) → 1 ≤ k → k ≤ n → not (is_derived (variables n) k) ≡ true
unfolding package_of
package_free n k low high = rw (package_at n k low high) refl

-- the initial state and the goal

starts_good : (n : ℕ) → starts (variables n) (0 ∷ map (starts_at n) (packages n)) ≡ true
starts_good n =
    let inits = length-map_range (starts_at n) 1 n in
    let items = length-map_range (package_of n) 1 n in
    let first = truck_long n in
    and_true (nat_eq (length (0 ∷ map (starts_at n) (packages n))) (length (variables n))) _ (rw (inits, items) (same_test (suc n)))
    (and_true (nat_lt 0 (length (truck_of n).values)) _ (lt-test 0 (length (truck_of n).values) (omega arith))
    (all-zip (λ p. nat_lt p.0 (length p.1.values)) (starts_at n) (package_of n) 1 n (λ k from to. let long = package_long n k in lt-test (starts_at n k) (length (package_of n k).values) (omega arith))))

goal_good : (n : ℕ) → n ≤ 100 → are_facts (variables n) (map (λ k. fact_of k (ends_at n k)) (packages n)) ≡ true
goal_good n low =
    let long = length-map_range (λ k. fact_of k (ends_at n k)) 1 n in
    and_true (is_few (map (λ k. fact_of k (ends_at n k)) (packages n))) _ (few (map (λ k. fact_of k (ends_at n k)) (packages n)) (omega arith))
    (all-map (is_fact (variables n)) (λ k. fact_of k (ends_at n k)) 1 n (λ k from to. package_fact n k (ends_at n k) from (omega arith) (omega arith)))

-- operators

move_in_order : (i j : ℕ) → in_order (move_to i j) ≡ move_to i j
unfolding move_to
move_in_order i j = rw (same_test i) refl

low : (k : ℕ) → 1 ≤ k → nat_eq 0 k ≡ false
low k some = grind (arith, nat_tests, some)

high : (k : ℕ) → 1 ≤ k → nat_eq k 0 ≡ false
high k some = grind (arith, nat_tests, some)

load_in_order : (n k i : ℕ) → 1 ≤ k → in_order (load n k i) ≡ load n k i
unfolding load
load_in_order n k i some = grind (arith, nat_tests, low k some, high k some, same_test k, same_test i)

unload_in_order : (n k i : ℕ) → 1 ≤ k → in_order (unload n k i) ≡ unload n k i
unfolding unload
unload_in_order n k i some = grind (arith, nat_tests, low k some, high k some, same_test k, same_test (n + 1))

in_order_moves : (n : ℕ) → map in_order (moves n) ≡ moves n
in_order_moves n = map-flat_map in_order (λ i. move_to i (i + 1) ∷ move_to (i + 1) i ∷ []) 0 n (λ i from to. rw (move_in_order i (i + 1), move_in_order (i + 1) i) refl)

in_order_loads : (n : ℕ) → map in_order (loads n) ≡ loads n
in_order_loads n =
    map-flat_map in_order (loads_of n) 1 n (λ k from to.
    map-flat_map in_order (λ i. load n k i ∷ unload n k i ∷ []) 0 (n + 1) (λ i _ _. rw (load_in_order n k i from, unload_in_order n k i from) refl))

-- few prevail conditions: the operator has at most two preconditions
move_prevails : (i j : ℕ) → has_few_prevail (move_to i j) ≡ true
unfolding move_to
move_prevails i j = simp (same_test i) refl

load_prevails : (n k i : ℕ) → 1 ≤ k → has_few_prevail (load n k i) ≡ true
unfolding load
load_prevails n k i some = grind (arith, nat_tests, low k some, high k some, same_test k, same_test i)

unload_prevails : (n k i : ℕ) → 1 ≤ k → has_few_prevail (unload n k i) ≡ true
unfolding unload
unload_prevails n k i some = grind (arith, nat_tests, low k some, high k some, same_test k, same_test (n + 1))

good_operator : (vs : List Variable) (o : Operator) → is_short o.name ≡ true → has_few_prevail o ≡ true → list_all (is_fact vs) o.pre ≡ true → is_few o.effects ≡ true → list_all (is_effect vs) o.effects ≡ true → nat_le o.cost highest_cost ≡ true → is_admissible_operator vs o ≡ true
good_operator vs o name prevails pre few_effects effects cost =
    and_true (is_short o.name) _ name
    (and_true (has_few_prevail o) _ prevails
    (and_true (list_all (is_fact vs) o.pre) _ pre
    (and_true (is_few o.effects) _ few_effects
    (and_true (list_all (is_effect vs) o.effects) _ effects cost))))

good_effect : (vs : List Variable) (fact : Fact) → is_fact vs fact ≡ true → not (is_derived vs fact.var) ≡ true → list_all (is_effect vs) (record { conds = []; fact = fact } ∷ []) ≡ true
good_effect vs fact there free = and_true (is_fact vs fact && not (is_derived vs fact.var)) true (and_true (is_fact vs fact) _ there free) refl

move_good : (n i j : ℕ) → n ≤ 100 → i ≤ n → j ≤ n → is_admissible_operator (variables n) (move_to i j) ≡ true
unfolding move_to
move_good n i j low from to =
    good_operator (variables n) (move_to i j) (two_numbers (codes "move ") (codes " ") i j (omega arith) (omega arith) (omega arith)) (move_prevails i j)
    (and_true (is_fact (variables n) (fact_of 0 i)) true (truck_fact n i from) refl) refl
    (good_effect (variables n) (fact_of 0 j) (truck_fact n j to) (truck_free n)) refl

load_good : (n k i : ℕ) → n ≤ 100 → 1 ≤ k → k ≤ n → i ≤ n → is_admissible_operator (variables n) (load n k i) ≡ true
unfolding load
load_good n k i low from to at =
    good_operator (variables n) (load n k i) (two_numbers (codes "load ") (codes " ") k i (omega arith) (omega arith) (omega arith)) (load_prevails n k i from)
    (and_true (is_fact (variables n) (fact_of 0 i)) _ (truck_fact n i at) (and_true (is_fact (variables n) (fact_of k i)) true (package_fact n k i from to (omega arith)) refl)) refl
    (good_effect (variables n) (fact_of k (n + 1)) (package_fact n k (n + 1) from to (omega arith)) (package_free n k from to)) refl

unload_good : (n k i : ℕ) → n ≤ 100 → 1 ≤ k → k ≤ n → i ≤ n → is_admissible_operator (variables n) (unload n k i) ≡ true
unfolding unload
unload_good n k i low from to at =
    good_operator (variables n) (unload n k i) (two_numbers (codes "unload ") (codes " ") k i (omega arith) (omega arith) (omega arith)) (unload_prevails n k i from)
    (and_true (is_fact (variables n) (fact_of 0 i)) _ (truck_fact n i at) (and_true (is_fact (variables n) (fact_of k (n + 1))) true (package_fact n k (n + 1) from to (omega arith)) refl)) refl
    (good_effect (variables n) (fact_of k i) (package_fact n k i from to (omega arith)) (package_free n k from to)) refl

moves_good : (n : ℕ) → n ≤ 100 → list_all (is_admissible_operator (variables n)) (moves n) ≡ true
moves_good n low = all-flat_map (is_admissible_operator (variables n)) (λ i. move_to i (i + 1) ∷ move_to (i + 1) i ∷ []) 0 n (λ i from to.
    and_true (is_admissible_operator (variables n) (move_to i (i + 1))) _ (move_good n i (i + 1) low (omega arith) (omega arith))
    (and_true (is_admissible_operator (variables n) (move_to (i + 1) i)) true (move_good n (i + 1) i low (omega arith) (omega arith)) refl))

loads_good : (n : ℕ) → n ≤ 100 → list_all (is_admissible_operator (variables n)) (loads n) ≡ true
loads_good n low = all-flat_map (is_admissible_operator (variables n)) (loads_of n) 1 n (λ k from to.
    all-flat_map (is_admissible_operator (variables n)) (λ i. load n k i ∷ unload n k i ∷ []) 0 (n + 1) (λ i first last.
    and_true (is_admissible_operator (variables n) (load n k i)) _ (load_good n k i low from (omega arith) (omega arith))
    (and_true (is_admissible_operator (variables n) (unload n k i)) true (unload_good n k i low from (omega arith) (omega arith)) refl)))

costs_one : (n : ℕ) → list_all (λ o. nat_eq o.cost 1) (moves n ++ loads n) ≡ true
unfolding move_to load unload
costs_one n =
    list_all-append (λ o. nat_eq o.cost 1) (moves n) (loads n)
    ∙ and_true (list_all (λ o. nat_eq o.cost 1) (moves n)) _ (all-flat_map (λ o. nat_eq o.cost 1) (λ i. move_to i (i + 1) ∷ move_to (i + 1) i ∷ []) 0 n (λ i from to. refl))
    (all-flat_map (λ o. nat_eq o.cost 1) (loads_of n) 1 n (λ k from to. all-flat_map (λ o. nat_eq o.cost 1) (λ i. load n k i ∷ unload n k i ∷ []) 0 (n + 1) (λ i first last. refl)))

operators_few : (n : ℕ) → n ≤ 100 → length (moves n ++ loads n) ≤ most_operators
operators_few n low =
    let front = length-flat_map_range (λ i. move_to i (i + 1) ∷ move_to (i + 1) i ∷ []) 2 0 n (λ i from to. omega arith) in
    let back = length-flat_map_range (loads_of n) 202 1 n (λ k from to. let one = length-flat_map_range (λ i. load n k i ∷ unload n k i ∷ []) 2 0 (n + 1) (λ i first last. omega arith) in omega arith) in
    let whole = length-append (moves n) (loads n) in
    omega arith

-- all together

delivery_admissible : (n : ℕ) → n ≤ 100 → IsAdmissible (delivery n)
unfolding delivery
delivery_admissible n low = record {
  few_variables = let long = length-map_range (package_of n) 1 n in test-le (length (variables n)) most_variables (omega arith);
  variables = variables_good n low;
  few_facts = facts_few n low;
  few_groups = refl;
  groups = refl;
  init = starts_good n;
  goal = goal_good n low;
  few_operators = operators_few n low;
  operators = list_all-append (is_admissible_operator (variables n)) (moves n) (loads n) ∙ and_true (list_all (is_admissible_operator (variables n)) (moves n)) _ (moves_good n low) (loads_good n low);
  costs = λ _. costs_one n;
  few_rules = omega arith;
  rules = refl;
}

pub delivery_accepted : (n : ℕ) → IsPackageCount n → refusal_of (delivery n) ≡ None
delivery_accepted n count = admitted (delivery n) (delivery_admissible n count.high)

pub delivery_brought : (n : ℕ) → canonical_parts (delivery n) ≡ delivery n
unfolding delivery
delivery_brought n = let ordered : map in_order (moves n ++ loads n) ≡ moves n ++ loads n = map-append in_order (moves n) (loads n) ∙ ap (λ xs. xs ++ map in_order (loads n)) (in_order_moves n) ∙ ap (λ xs. moves n ++ xs) (in_order_loads n) in rw ordered refl

pub ruleset delivered = (delivery_accepted, delivery_brought)
