-- A tree that is made for a task.
use Rattle.std.proofs.Common.{◌≡◌, ◌∙◌, refl, ap, subst, ℕ, ◌+◌, ◌<◌, ◌≤◌, List, [], length, Bool, true, false, nat_lt, arith, slice_get, Some, None}
use Rattle.std.specs.List.{list_all, range_with_len}
use Rattle.std.specs.List.Sorted.{IsPermutation}
use Rattle.std.proofs.lemmas.Bool.Decides.{nat_tests}
use Rattle.std.proofs.lemmas.List.{length-map, get_or_past}
use Rattle.std.proofs.lemmas.List.FromFn.{length-range_with_len}
use Rattle.std.proofs.lemmas.List.Sorted.{All-permutation, IsPermutation-sym, length_permutation}
use Rattle.std.proofs.lemmas.List.Sums.{AllPass-from_list_all, list_all-from_AllPass}
use Rattle.lama_num.proofs.ListLaws.{list_all_get}
use Rattle.lama_num.specs.Rows.{row_at}
use Rattle.sas_task.specs.WellFormed.{IsWellFormed}
use Rattle.sas_task.specs.Within.{is_within}
use Rattle.sas_task.proofs.WithinLaws.{all_facts_within}
use Rattle.sas_task.specs.States.{holds, all_hold, is_applicable}
use Rattle.sas_task.proofs.RunLaws.{operator-at, applicable-within}
use Rattle.sas_task.specs.declared.contents.Fact.{Fact}
use Rattle.sas_task.specs.declared.contents.Operator.{Operator}
use Rattle.sas_task.specs.declared.contents.Parts.{Parts}
use Rattle.succ_gen.specs.declared.growing.Branch.{Branch}
use Rattle.succ_gen.specs.declared.growing.Home.{Home}
use Rattle.succ_gen.specs.declared.nodes.Node.{Node}
use Rattle.succ_gen.specs.Conditions.{AreConditions}
use Rattle.succ_gen.proofs.ConditionLaws.{AreFactsBelow}
use Rattle.succ_gen.specs.Growing.{operators_at, IsWhole}
use Rattle.succ_gen.specs.Nodes.{AreNodes}
use Rattle.succ_gen.specs.Trees.{IsFor}
use Rattle.succ_gen.proofs.Shapes.{op_found, found_op, tree_shape, operators_inside, has_variables}
use Rattle.lama_num.proofs.ListLaws.{found_at as there}

all_moved : {X : Type 0} (p : X → Bool) (xs ys : List X) → IsPermutation xs ys → list_all p xs ≡ true → list_all p ys ≡ true
all_moved p xs ys moved all = list_all-from_AllPass p ys (All-permutation (λ x. p x ≡ true) xs ys moved (AllPass-from_list_all p xs all))

-- the conditions of an operator hold where it is applicable
applicable_holds : (parts : Parts) (conditions : List (List Fact)) (state : List ℕ) (op : ℕ) → AreConditions parts.operators conditions → op < length parts.operators → is_applicable parts state op ≡ true → all_hold state (row_at conditions op) ≡ true
applicable_holds parts conditions state op are lt applicable =
    let o = there parts.operators op lt in
    let pre : all_hold state o.0.pre ≡ true = rw o.1 at applicable in
    all_moved (holds state) o.0.pre (row_at conditions op) (are.each op o.0 o.1) pre

holds_applicable : (parts : Parts) (conditions : List (List Fact)) (state : List ℕ) (op : ℕ) → AreConditions parts.operators conditions → op < length parts.operators → all_hold state (row_at conditions op) ≡ true → is_applicable parts state op ≡ true
holds_applicable parts conditions state op are lt all =
    let o = there parts.operators op lt in
    let pre : all_hold state o.0.pre ≡ true = all_moved (holds state) (row_at conditions op) o.0.pre (IsPermutation-sym o.0.pre (row_at conditions op) (are.each op o.0 o.1)) all in
    rw o.1 pre

row_within : (parts : Parts) (conditions : List (List Fact)) (op place : ℕ) (fact : Fact) → IsWellFormed parts → AreConditions parts.operators conditions → op < length parts.operators → slice_get (row_at conditions op) place ≡ Some fact → fact.var < length parts.variables
row_within parts conditions op place fact formed are lt at =
    let o = there parts.operators op lt in
    let pre = all_facts_within parts.variables o.0.pre (operator-at parts op o.0 formed o.1).pre in
    let row = all_moved (is_within (length parts.variables)) o.0.pre (row_at conditions op) (are.each op o.0 o.1) pre in
    let within : nat_lt fact.var (length parts.variables) ≡ true = list_all_get (is_within (length parts.variables)) (row_at conditions op) place fact row at in
    grind (arith, nat_tests, within)

facts_below : (parts : Parts) (conditions : List (List Fact)) → IsWellFormed parts → AreConditions parts.operators conditions → AreFactsBelow conditions (length parts.variables)
facts_below parts conditions formed are = record {
  below = λ fact is. elim (nat_lt is.operator (length parts.operators)) as (λ t. nat_lt is.operator (length parts.operators) ≡ t → fact.var < length parts.variables) [
    | true ↦ λ lt. row_within parts conditions is.operator is.place fact formed are (grind (arith, nat_tests, lt)) is.at
    | false ↦ λ ge.
        let past : length parts.operators ≤ is.operator = grind (arith, nat_tests, ge) in
        let long = are.long in
        let none : row_at conditions is.operator ≡ [] = get_or_past conditions is.operator [] (omega arith) in
        let k : ◌≡◌ {A = _} None (Some fact) = rw none at is.at in
        absurd (cc)
  ] refl;
}

pub homes_long : (conditions : List (List Fact)) (branches : List Branch) (homes : List Home) → IsWhole conditions branches homes → length homes ≡ length conditions
homes_long conditions branches homes whole =
    let same = length_permutation (range_with_len 0 (length conditions)) (operators_at homes) whole.all in
    let long = length-range_with_len 0 (length conditions) in
    let mapped = length-map homes (λ (h : Home). h.operator) in
    omega arith

made_for : (parts : Parts) (conditions : List (List Fact)) (branches : List Branch) (homes : List Home) (nodes : List Node) (room : ℕ) → IsWellFormed parts → AreConditions parts.operators conditions → IsWhole conditions branches homes → AreNodes branches homes nodes → length nodes ≤ room + 1 →
    IsFor (record { nodes = nodes; operators = operators_at homes; room = room }) parts
made_for parts conditions branches homes nodes room formed are whole laid enough = record {
  shape = tree_shape conditions branches homes nodes whole.grown laid;
  variables = has_variables conditions branches homes nodes (length parts.variables) whole.grown laid (facts_below parts conditions formed are);
  inside = operators_inside branches homes nodes (operators_at homes) laid refl;
  few = (let long = homes_long conditions branches homes whole in let mapped = length-map homes (λ (h : Home). h.operator) in let rows = are.long in omega arith);
  room = enough;
  found = λ state op applicable.
      let lt = applicable-within parts state op applicable in
      op_found conditions branches homes nodes (operators_at homes) state op whole laid refl (let rows = are.long in omega arith) (applicable_holds parts conditions state op are lt applicable);
  only = λ state op found.
      let has = found_op conditions branches homes nodes (operators_at homes) state op whole laid refl found in
      let lt = has.0 in
      holds_applicable parts conditions state op are (let rows = are.long in omega arith) has.1;
}

-- the same with the slices and lists in between
pub tree_for : (parts : Parts) (ops : List Operator) (conditions : List (List Fact)) (branches some_branches : List Branch) (homes some_homes more_homes : List Home) (nodes kept_nodes : List Node) (operators kept_operators : List ℕ) (room : ℕ) →
    IsWellFormed parts → ops ≡ parts.operators → AreConditions ops conditions → IsWhole conditions branches homes → some_branches ≡ branches → some_homes ≡ homes → AreNodes some_branches some_homes nodes → more_homes ≡ homes → operators ≡ operators_at more_homes →
    kept_nodes ≡ nodes → kept_operators ≡ operators → length nodes ≤ room + 1 → IsFor (record { nodes = kept_nodes; operators = kept_operators; room = room }) parts
tree_for parts ops conditions branches some_branches homes some_homes more_homes nodes kept_nodes operators kept_operators room formed ops_are are whole branches_are homes_are laid more_are operators_are nodes_kept operators_kept enough =
    let conditions_are = subst (λ os. AreConditions os conditions) ops_are are in
    let nodes_are = subst (λ bs. AreNodes bs homes nodes) branches_are (subst (λ hs. AreNodes some_branches hs nodes) homes_are laid) in
    rw (nodes_kept, operators_kept ∙ (operators_are ∙ ap operators_at more_are)) (made_for parts conditions branches homes nodes room formed conditions_are whole nodes_are enough)
