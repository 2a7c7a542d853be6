-- What nodes tell of the branches and operators that they stand for.
use Rattle.std.proofs.Common.{◌≡◌, ◌∙◌, refl, sym, ap, ℕ, zero, suc, ◌+◌, ◌-◌, ◌<◌, ◌≤◌, List, [], ◌∷◌, length, drop, get_or, true, false, ◌&&◌, nat_lt, arith, slice_get, slice_range, option_map, Some}
use Rattle.std.specs.List.{Contains, range_with_len}
use Rattle.std.proofs.lemmas.Bool.Decides.{nat_tests}
use Rattle.std.proofs.lemmas.List.{length-take, length-drop, length-map, get_or-take, get_or-drop}
use Rattle.std.proofs.lemmas.List.Folds.{list_all-append}
use Rattle.std.proofs.lemmas.List.FromFn.{length-range_with_len, get_or-range_with_len}
use Rattle.std.proofs.lemmas.List.Sorted.{Contains-permutation}
use Rattle.std.proofs.lemmas.Option.{slice_get_within, slice_get-get_or, get_or_from_slice_get, slice_get-map}
use Rattle.lama_num.proofs.ListLaws.{both, found_at as there}
use Rattle.lama_num.specs.Rows.{row_at}
use Rattle.sas_task.specs.States.{holds, all_hold}
use Rattle.sas_task.specs.declared.contents.Fact.{Fact}
use Rattle.succ_gen.specs.declared.growing.Branch.{Branch}
use Rattle.succ_gen.specs.declared.growing.Home.{Home}
use Rattle.succ_gen.specs.declared.nodes.Node.{Node}
use Rattle.succ_gen.specs.Branches.{ways}
use Rattle.succ_gen.proofs.ConditionLaws.{AreFactsBelow}
use Rattle.succ_gen.specs.Growing.{parent_of, node_of, operators_at, IsGrown, IsWhole}
use Rattle.succ_gen.specs.Nodes.{IsCut, IsRun, IsNodeAt, AreNodes}
use Rattle.succ_gen.specs.Trees.{node_at, IsChild, IsOpen, IsFound, IsTree, HasVariables, AreInside}
use Rattle.succ_gen.specs.Trees.IsOpen.{root, child}
use Rattle.succ_gen.proofs.Ways.{way-root, way-branch}

-- ---- cuts

cut_rises : {X : Type 0} (key : X → ℕ) (xs : List X) (i j a b : ℕ) → i ≤ j → IsCut key xs i a → IsCut key xs j b → a ≤ b
cut_rises key xs i j a b le at_i at_j = elim (nat_lt b a) as (λ t. nat_lt b a ≡ t → a ≤ b) [
  | true ↦ λ is. (let lt : b < a = grind (arith, nat_tests, is) in absurd (none lt))
  | false ↦ λ is. grind (arith, nat_tests, is)
] refl
  where
    none : b < a → ⊥
    none lt =
        let within = at_i.below.within in
        let x = there xs b (omega arith) in
        let low = at_i.below.before b x.0 x.1 lt in
        let high = at_j.after b x.0 x.1 (omega arith) in
        omega arith

-- what lies between two cuts has the number
cut_between : {X : Type 0} (key : X → ℕ) (xs : List X) (n a b k : ℕ) (x : X) → IsCut key xs n a → IsCut key xs (n + 1) b → slice_get xs k ≡ Some x → a ≤ k → k < b → key x ≡ n
cut_between key xs n a b k x at_n at_next at le lt =
    let low = at_n.after k x at le in
    let high = at_next.below.before k x at lt in
    omega arith

-- and what has the number lies between
cut_has : {X : Type 0} (key : X → ℕ) (xs : List X) (n a b k : ℕ) (x : X) → IsCut key xs n a → IsCut key xs (n + 1) b → slice_get xs k ≡ Some x → key x ≡ n → (a ≤ k) × (k < b)
cut_has key xs n a b k x at_n at_next at is = (
  elim (nat_lt k a) as (λ t. nat_lt k a ≡ t → a ≤ k) [
    | true ↦ λ lt. (let below = at_n.below.before k x at (grind (arith, nat_tests, lt)) in absurd (omega arith))
    | false ↦ λ ge. grind (arith, nat_tests, ge)
  ] refl,
  elim (nat_lt k b) as (λ t. nat_lt k b ≡ t → k < b) [
    | true ↦ λ lt. grind (arith, nat_tests, lt)
    | false ↦ λ ge. (let above = at_next.after k x at (grind (arith, nat_tests, ge)) in absurd (omega arith))
  ] refl,
)

-- ---- nodes and branches

pub node_is : (branches : List Branch) (homes : List Home) (nodes : List Node) (n : ℕ) → AreNodes branches homes nodes → n < length nodes → IsNodeAt branches homes n (node_at nodes n)
node_is branches homes nodes n are lt = are.each n (node_at nodes n) (slice_get-get_or nodes n _ lt)

-- the branch that leads to a child
record HasBranch (branches : List Branch) (nodes : List Node) (n m : ℕ) : Type 0 where
  place : ℕ
  branch : Branch
  number : m ≡ place + 1
  at : slice_get branches place ≡ Some branch
  parent : branch.parent ≡ n
  fact : (node_at nodes m).fact ≡ branch.fact

child_branch : (branches : List Branch) (homes : List Home) (nodes : List Node) (n m : ℕ) → AreNodes branches homes nodes → IsChild nodes n m → HasBranch branches nodes n m
child_branch branches homes nodes n m are is =
    let inside : n + 1 < length nodes = is.inside in
    let here = node_is branches homes nodes n are (omega arith) in
    let next = node_is branches homes nodes (n + 1) are (omega arith) in
    let from : here.child + 1 ≤ m = (let e = here.children in let le = is.from in omega arith) in
    let to : m < next.child + 1 = (let e = next.children in let lt = is.to in omega arith) in
    let within : next.child ≤ length branches = next.children_cut.below.within in
    let b = there branches (m - 1) (omega arith) in
    let own = node_is branches homes nodes m are (let long = are.long in omega arith) in
    record {
      place = m - 1;
      branch = b.0;
      number = omega arith;
      at = b.1;
      parent = cut_between parent_of branches n here.child next.child (m - 1) b.0 here.children_cut next.children_cut b.1 (omega arith) (omega arith);
      fact = own.fact (m - 1) b.0 (omega arith) b.1;
    }

branch_child : (branches : List Branch) (homes : List Home) (nodes : List Node) (c m : ℕ) (b : Branch) → AreNodes branches homes nodes → slice_get branches c ≡ Some b → b.parent ≤ c → m ≡ c + 1 → IsChild nodes b.parent m
branch_child branches homes nodes c m b are at le is =
    let long = are.long in
    let lt = slice_get_within branches c b at in
    let here = node_is branches homes nodes b.parent are (omega arith) in
    let next = node_is branches homes nodes (b.parent + 1) are (omega arith) in
    let between = cut_has parent_of branches b.parent here.child next.child c b here.children_cut next.children_cut at refl in
    let from : here.child ≤ c = between.0 in
    let to : c < next.child = between.1 in
    record {
      inside = omega arith;
      from = (let e = here.children in omega arith);
      to = (let e = next.children in omega arith);
    }

-- ---- what a state opens

open_holds : (conditions : List (List Fact)) (branches : List Branch) (homes : List Home) (nodes : List Node) (state : List ℕ) (n : ℕ) → IsGrown conditions branches homes → AreNodes branches homes nodes → IsOpen nodes state n → all_hold state (row_at (ways branches) n) ≡ true
open_holds conditions branches homes nodes state _ grown are root = ap (all_hold state) (way-root branches)
open_holds conditions branches homes nodes state _ grown are (child n m opens is_child fact_holds) =
    let before = open_holds conditions branches homes nodes state n grown are opens in
    let has = child_branch branches homes nodes n m are is_child in
    let way = way-branch branches has.place m has.branch has.at has.number (grown.earlier has.place has.branch has.at) in
    let last : holds state has.branch.fact ≡ true = ap (holds state) (sym has.fact) ∙ fact_holds in
    let front : all_hold state (row_at (ways branches) has.branch.parent) ≡ true = ap (λ k. all_hold state (row_at (ways branches) k)) has.parent ∙ before in
    ap (all_hold state) way ∙ (list_all-append (holds state) (row_at (ways branches) has.branch.parent) (has.branch.fact ∷ []) ∙ rw (front, last) refl)

holds_open : (conditions : List (List Fact)) (branches : List Branch) (homes : List Home) (nodes : List Node) (state : List ℕ) (fuel n : ℕ) → IsGrown conditions branches homes → AreNodes branches homes nodes → n < fuel → n ≤ length branches → all_hold state (row_at (ways branches) n) ≡ true → IsOpen nodes state n
holds_open conditions branches homes nodes state zero n grown are lt le all = absurd (omega arith)
holds_open conditions branches homes nodes state (suc fuel) zero grown are lt le all = root
holds_open conditions branches homes nodes state (suc fuel) (suc c) grown are lt le all =
    let b = there branches c (omega arith) in
    let parent = grown.earlier c b.0 b.1 in
    let way = way-branch branches c (suc c) b.0 b.1 (omega arith) parent in
    let two = both (all_hold state (row_at (ways branches) b.0.parent)) (holds state b.0.fact && true) (sym (list_all-append (holds state) (row_at (ways branches) b.0.parent) (b.0.fact ∷ [])) ∙ (sym (ap (all_hold state) way) ∙ all)) in
    let before = holds_open conditions branches homes nodes state fuel b.0.parent grown are (omega arith) (let within = slice_get_within branches c b.0 b.1 in omega arith) two.0 in
    let long = are.long in
    let own = node_is branches homes nodes (suc c) are (omega arith) in
    child b.0.parent (suc c) before (branch_child branches homes nodes c (suc c) b.0 are b.1 parent (omega arith)) (ap (holds state) (own.fact c b.0 (omega arith) b.1) ∙ (both (holds state b.0.fact) true two.1).0)

-- ---- operators at nodes

pub in_range : (xs : List ℕ) (a b k x : ℕ) → a ≤ k → k < b → slice_get xs k ≡ Some x → Contains (slice_range xs a b) x
in_range xs a b k x le lt at =
    let within = slice_get_within xs k x at in
    let long = length-take (b - a) (drop a xs) in
    let rest = length-drop a xs in
    let place : a + (k - a) ≡ k = omega arith in
    let value : get_or (slice_range xs a b) (k - a) x ≡ x = get_or-take (b - a) (drop a xs) (k - a) x (omega arith) ∙ (get_or-drop a xs (k - a) x ∙ (ap (λ i. get_or xs i x) place ∙ get_or_from_slice_get xs k x x at)) in
    (k - a, omega arith, value)

pub from_range : (xs : List ℕ) (a b x : ℕ) → Contains (slice_range xs a b) x → (k : ℕ) × (a ≤ k) × (k < b) × (slice_get xs k ≡ Some x)
from_range xs a b x has =
    let long = length-take (b - a) (drop a xs) in
    let rest = length-drop a xs in
    let lt : has.0 < length (slice_range xs a b) = has.1 in
    let value : get_or xs (a + has.0) x ≡ x = sym (get_or-drop a xs has.0 x) ∙ (sym (get_or-take (b - a) (drop a xs) has.0 x (omega arith)) ∙ has.2) in
    (a + has.0, omega arith, omega arith, slice_get-get_or xs (a + has.0) x (omega arith) ∙ ap (λ y. Some y) value)

-- an operator whose conditions hold stands at a node that the state opens
pub op_found : (conditions : List (List Fact)) (branches : List Branch) (homes : List Home) (nodes : List Node) (operators state : List ℕ) (op : ℕ) → IsWhole conditions branches homes → AreNodes branches homes nodes → operators ≡ operators_at homes → op < length conditions → all_hold state (row_at conditions op) ≡ true → IsFound nodes operators state op
op_found conditions branches homes nodes operators state op whole are is lt all =
    let has = Contains-permutation (range_with_len 0 (length conditions)) (operators_at homes) op whole.all (op, omega (arith, length-range_with_len 0 (length conditions)), get_or-range_with_len 0 (length conditions) op op lt ∙ (let e : 0 + op ≡ op = omega arith in e)) in
    let long = length-map homes (λ (h : Home). h.operator) in
    let within : has.0 < length (operators_at homes) = has.1 in
    let h = there homes has.0 (omega arith) in
    let at_op : slice_get (operators_at homes) has.0 ≡ Some op = slice_get-get_or (operators_at homes) has.0 op has.1 ∙ ap (λ y. Some y) has.2 in
    let own : Some h.0.operator ≡ Some op = sym (ap (option_map (λ (h : Home). h.operator)) h.1) ∙ (sym (slice_get-map (λ (h : Home). h.operator) homes has.0) ∙ at_op) in
    let same : h.0.operator ≡ op = cc in
    let home = whole.grown.stands has.0 h.0 h.1 in
    let node : h.0.node ≤ length branches = home.node in
    let size = are.long in
    let here = node_is branches homes nodes h.0.node are (omega arith) in
    let next = node_is branches homes nodes (h.0.node + 1) are (omega arith) in
    let between = cut_has node_of homes h.0.node (node_at nodes h.0.node).operators (node_at nodes (h.0.node + 1)).operators has.0 h.0 here.operators_cut next.operators_cut h.1 refl in
    let way : all_hold state (row_at (ways branches) h.0.node) ≡ true = ap (all_hold state) (home.way ∙ ap (row_at conditions) same) ∙ all in
    record {
      node = h.0.node;
      inside = omega arith;
      opens = holds_open conditions branches homes nodes state (suc h.0.node) h.0.node whole.grown are (omega arith) node way;
      stands = in_range operators (node_at nodes h.0.node).operators (node_at nodes (h.0.node + 1)).operators has.0 op between.0 between.1 (ap (λ xs. slice_get xs has.0) is ∙ at_op);
    }

-- and one that stands at such a node is an operator whose conditions hold
pub found_op : (conditions : List (List Fact)) (branches : List Branch) (homes : List Home) (nodes : List Node) (operators state : List ℕ) (op : ℕ) → IsWhole conditions branches homes → AreNodes branches homes nodes → operators ≡ operators_at homes → IsFound nodes operators state op → (op < length conditions) × (all_hold state (row_at conditions op) ≡ true)
found_op conditions branches homes nodes operators state op whole are is found =
    let inside : found.node + 1 < length nodes = found.inside in
    let here = node_is branches homes nodes found.node are (omega arith) in
    let next = node_is branches homes nodes (found.node + 1) are inside in
    let place = from_range operators (node_at nodes found.node).operators (node_at nodes (found.node + 1)).operators op found.stands in
    let at_op : slice_get (operators_at homes) place.0 ≡ Some op = ap (λ xs. slice_get xs place.0) (sym is) ∙ place.3 in
    let long = length-map homes (λ (h : Home). h.operator) in
    let within = slice_get_within (operators_at homes) place.0 op at_op in
    let h = there homes place.0 (omega arith) in
    let own : Some h.0.operator ≡ Some op = sym (ap (option_map (λ (h : Home). h.operator)) h.1) ∙ (sym (slice_get-map (λ (h : Home). h.operator) homes place.0) ∙ at_op) in
    let same : h.0.operator ≡ op = cc in
    let home = whole.grown.stands place.0 h.0 h.1 in
    let node : h.0.node ≡ found.node = cut_between node_of homes found.node (node_at nodes found.node).operators (node_at nodes (found.node + 1)).operators place.0 h.0 here.operators_cut next.operators_cut h.1 place.1 place.2 in
    let opens = open_holds conditions branches homes nodes state found.node whole.grown are found.opens in
    let way : row_at (ways branches) found.node ≡ row_at conditions op = ap (row_at (ways branches)) (sym node) ∙ (home.way ∙ ap (row_at conditions) same) in
    let below = home.operator in
    (omega arith, ap (all_hold state) (sym way) ∙ opens)

-- ---- the shape of the tree

rise : (conditions : List (List Fact)) (branches : List Branch) (homes : List Home) (nodes : List Node) (m i : ℕ) → IsGrown conditions branches homes → AreNodes branches homes nodes → 0 < m → m ≤ i → IsRun branches m (node_at nodes m).group_end → (d j : ℕ) → j ≡ i + d → j < (node_at nodes m).group_end → (node_at nodes i).fact.val + d ≤ (node_at nodes j).fact.val
rise conditions branches homes nodes m i grown are some le run zero j is lt =
    let same : j ≡ i = omega arith in
    let e : (node_at nodes j).fact.val ≡ (node_at nodes i).fact.val = ap (λ k. (node_at nodes k).fact.val) same in
    omega arith
rise conditions branches homes nodes m i grown are some le run (suc d) j is lt =
    let before = rise conditions branches homes nodes m i grown are some le run d (j - 1) (omega arith) (omega arith) in
    let inside : (node_at nodes m).group_end ≤ length branches + 1 = run.inside in
    let long = are.long in
    let a = there branches (j - 2) (omega arith) in
    let b = there branches (j - 1) (omega arith) in
    let next : slice_get branches (j - 2 + 1) ≡ Some b.0 = ap (slice_get branches) (let e : j - 2 + 1 ≡ j - 1 = omega arith in e) ∙ b.1 in
    let same = run.same (j - 2) (j - 1) a.0 b.0 (omega arith) (omega arith) (omega arith) a.1 b.1 in
    let up : a.0.fact.val < b.0.fact.val = grown.rising (j - 2) a.0 b.0 a.1 next same.0 same.1 in
    let low : (node_at nodes (j - 1)).fact.val ≡ a.0.fact.val = ap (λ (f : Fact). f.val) ((node_is branches homes nodes (j - 1) are (omega arith)).fact (j - 2) a.0 (omega arith) a.1) in
    let high : (node_at nodes j).fact.val ≡ b.0.fact.val = ap (λ (f : Fact). f.val) ((node_is branches homes nodes j are (omega arith)).fact (j - 1) b.0 (omega arith) b.1) in
    omega arith

same_variable : (branches : List Branch) (homes : List Home) (nodes : List Node) (m q : ℕ) → AreNodes branches homes nodes → 0 < m → m ≤ q → q < (node_at nodes m).group_end → IsRun branches m (node_at nodes m).group_end → (node_at nodes q).fact.var ≡ (node_at nodes m).fact.var
same_variable branches homes nodes m q are some le lt run =
    let inside : (node_at nodes m).group_end ≤ length branches + 1 = run.inside in
    let long = are.long in
    let a = there branches (m - 1) (omega arith) in
    let b = there branches (q - 1) (omega arith) in
    let same = run.same (m - 1) (q - 1) a.0 b.0 (omega arith) (omega arith) (omega arith) a.1 b.1 in
    let low : (node_at nodes m).fact.var ≡ a.0.fact.var = ap (λ (f : Fact). f.var) ((node_is branches homes nodes m are (omega arith)).fact (m - 1) a.0 (omega arith) a.1) in
    let high : (node_at nodes q).fact.var ≡ b.0.fact.var = ap (λ (f : Fact). f.var) ((node_is branches homes nodes q are (omega arith)).fact (q - 1) b.0 (omega arith) b.1) in
    high ∙ (sym same.1 ∙ sym low)

-- a group ends with the children of its parent
group_within : (branches : List Branch) (homes : List Home) (nodes : List Node) (n m : ℕ) → AreNodes branches homes nodes → IsChild nodes n m → (node_at nodes m).group_end ≤ (node_at nodes (n + 1)).children
group_within branches homes nodes n m are is = elim (nat_lt (node_at nodes (n + 1)).children (node_at nodes m).group_end) as (λ t. nat_lt (node_at nodes (n + 1)).children (node_at nodes m).group_end ≡ t → (node_at nodes m).group_end ≤ (node_at nodes (n + 1)).children) [
  | true ↦ λ lt. absurd (beyond (grind (arith, nat_tests, lt)))
  | false ↦ λ ge. grind (arith, nat_tests, ge)
] refl
  where
    beyond : (node_at nodes (n + 1)).children < (node_at nodes m).group_end → ⊥
    beyond lt =
        let has = child_branch branches homes nodes n m are is in
        let number : m ≡ has.place + 1 = has.number in
        let next = node_is branches homes nodes (n + 1) are is.inside in
        let end : (node_at nodes (n + 1)).children ≡ next.child + 1 = next.children in
        let to : m < (node_at nodes (n + 1)).children = is.to in
        let long = are.long in
        let few = slice_get_within branches has.place has.branch has.at in
        let own = node_is branches homes nodes m are (omega arith) in
        let inside : (node_at nodes m).group_end ≤ length branches + 1 = own.run.inside in
        let b = there branches next.child (omega arith) in
        let same = own.run.same has.place next.child has.branch b.0 (omega arith) (omega arith) (omega arith) has.at b.1 in
        let high = next.children_cut.after next.child b.0 b.1 (omega arith) in
        let parent = has.parent in
        let joined : has.branch.parent ≡ b.0.parent = same.0 in
        omega arith

pub tree_shape : (conditions : List (List Fact)) (branches : List Branch) (homes : List Home) (nodes : List Node) → IsGrown conditions branches homes → AreNodes branches homes nodes → IsTree nodes
tree_shape conditions branches homes nodes grown are = record {
  some = omega (arith, are.long);
  first = λ n lt. let e = (node_is branches homes nodes n are lt).children in omega arith;
  children = λ i j le lt.
      let one = node_is branches homes nodes i are (omega arith) in
      let other = node_is branches homes nodes j are lt in
      let rises = cut_rises parent_of branches i j one.child other.child le one.children_cut other.children_cut in
      let a = one.children in
      let b = other.children in
      omega arith;
  operators = λ i j le lt. cut_rises node_of homes i j (node_at nodes i).operators (node_at nodes j).operators le (node_is branches homes nodes i are (omega arith)).operators_cut (node_is branches homes nodes j are lt).operators_cut;
  few = λ n lt.
      let own = node_is branches homes nodes n are lt in
      let e = own.children in
      let within = own.children_cut.below.within in
      let long = are.long in
      omega arith;
  onwards = λ m some lt. (node_is branches homes nodes m are (omega arith)).group (m - 1) (omega arith) (let long = are.long in omega arith);
  within = λ n m is. group_within branches homes nodes n m are is;
  same = λ m q some lt le to. same_variable branches homes nodes m q are some le to (node_is branches homes nodes m are (omega arith)).run;
  rising = λ m i d some lt le to. rise conditions branches homes nodes m i grown are some le (node_is branches homes nodes m are (omega arith)).run d (i + d) refl to;
}

pub operators_inside : (branches : List Branch) (homes : List Home) (nodes : List Node) (operators : List ℕ) → AreNodes branches homes nodes → operators ≡ operators_at homes → AreInside nodes (length operators)
operators_inside branches homes nodes operators are is = record {
  inside = λ n lt.
      let within = (node_is branches homes nodes n are lt).operators_cut.below.within in
      let long = length-map homes (λ (h : Home). h.operator) in
      let e = ap (λ (xs : List ℕ). length xs) is in
      omega arith;
}

pub has_variables : (conditions : List (List Fact)) (branches : List Branch) (homes : List Home) (nodes : List Node) (variables : ℕ) → IsGrown conditions branches homes → AreNodes branches homes nodes → AreFactsBelow conditions variables → HasVariables nodes variables
has_variables conditions branches homes nodes variables grown are below = record {
  below = λ m some lt.
      let long = are.long in
      let b = there branches (m - 1) (omega arith) in
      let own = (node_is branches homes nodes m are (omega arith)).fact (m - 1) b.0 (omega arith) b.1 in
      let from = grown.known (m - 1) b.0 b.1 in
      let small = below.below b.0.fact from in
      let e : (node_at nodes m).fact.var ≡ b.0.fact.var = ap (λ (f : Fact). f.var) own in
      omega arith;
}
