-- How the nodes of a tree are laid out, one by one.
use Rattle.std.proofs.Common.{◌≡◌, ◌∙◌, refl, sym, ap, subst, ℕ, ◌+◌, ◌<◌, ◌≤◌, inl, inr, List, [], ◌∷◌, ◌++◌, length, length-append, true, false, nat_lt, arith, slice_get, Some}
use Rattle.std.specs.List.Sorted.{IsNonDecreasingBy}
use Rattle.std.proofs.lemmas.Bool.Decides.{nat_tests}
use Rattle.std.proofs.lemmas.Option.{slice_get_within, get_or_from_slice_get}
use Rattle.succ_gen.specs.declared.growing.Branch.{Branch}
use Rattle.succ_gen.specs.declared.growing.Home.{Home}
use Rattle.succ_gen.specs.declared.nodes.Node.{Node}
use Rattle.succ_gen.specs.Growing.{parent_of, node_of}
use Rattle.succ_gen.specs.Nodes.{IsBelow, IsCut, IsRun, IsNodeAt}
use Rattle.lama_num.proofs.ListLaws.{get_push}

-- ---- cuts

below_by : {X : Type 0} (key : X → ℕ) (xs : List X) (number place : ℕ) (x : X) → IsBelow key xs number place → slice_get xs place ≡ Some x → key x < number → (k : ℕ) (y : X) → slice_get xs k ≡ Some y → k < place + 1 → key y < number
below_by key xs number place x below at lt k y there low = elim (nat_lt k place) as (λ t. nat_lt k place ≡ t → key y < number) [
  | true ↦ λ is. below.before k y there (grind (arith, nat_tests, is))
  | false ↦ λ is.
      let ge : place ≤ k = grind (arith, nat_tests, is) in
      let place_is : k ≡ place = omega arith in
      let e : Some y ≡ Some x = sym there ∙ (ap (slice_get xs) place_is ∙ at) in
      let same : y ≡ x = cc in
      subst (λ z. key z < number) (sym same) lt
] refl

pub below_more : {X : Type 0} (key : X → ℕ) (xs : List X) (number place : ℕ) (x : X) → IsBelow key xs number place → slice_get xs place ≡ Some x → key x < number → IsBelow key xs number (place + 1)
below_more key xs number place x below at lt = record {
  within = (let in_list = slice_get_within xs place x at in omega arith);
  before = below_by key xs number place x below at lt;
}

-- the first that isn't below ends what is
pub cut_at : {X : Type 0} (key : X → ℕ) (xs : List X) (number place : ℕ) (x : X) → IsNonDecreasingBy key xs → IsBelow key xs number place → slice_get xs place ≡ Some x → number ≤ key x → IsCut key xs number place
cut_at key xs number place x rising below at le = record {
  below = below;
  after = λ k y there ge.
      let up = rising place k y ge (slice_get_within xs k y there) in
      let one = ap key (get_or_from_slice_get xs place x y at) in
      let other = ap key (get_or_from_slice_get xs k y y there) in
      omega arith;
}

pub cut_length : {X : Type 0} (key : X → ℕ) (xs : List X) (number place : ℕ) → length xs ≤ place → IsBelow key xs number place → IsCut key xs number (length xs)
cut_length key xs number place past below = record {
  below = record { within = omega arith; before = λ k y there lt. below.before k y there (omega arith) };
  after = λ k y there ge. (let lt = slice_get_within xs k y there in absurd (omega arith));
}

below_next : {X : Type 0} (key : X → ℕ) (xs : List X) (number place : ℕ) → IsCut key xs number place → IsBelow key xs (number + 1) place
below_next key xs number place cut = record {
  within = cut.below.within;
  before = λ k y there lt. (let low = cut.below.before k y there lt in omega arith);
}

-- ---- runs

-- the branches from that of a node to before a place have the parent and the variable of its own
pub record AreSiblings (branches : List Branch) (number next : ℕ) (first : Branch) : Type 0 where
  pub each : (d : ℕ) (b : Branch) → number ≤ d + 1 → d < next → slice_get branches d ≡ Some b → (b.parent ≡ first.parent) × (b.fact.var ≡ first.fact.var)

-- ---- nodes

-- so many nodes are laid out
pub record AreNodesTo (branches : List Branch) (homes : List Home) (number child home group : ℕ) (nodes : List Node) : Type 0 where
  pub long : length nodes ≡ number
  pub each : (n : ℕ) (node : Node) → slice_get nodes n ≡ Some node → IsNodeAt branches homes n node
  pub child_below : IsBelow parent_of branches number child
  pub home_below : IsBelow node_of homes number home
  pub run : IsRun branches number group

pub nodes_more : (branches : List Branch) (homes : List Home) (number child home group new_child new_home new_group : ℕ) (nodes now : List Node) (node : Node) → AreNodesTo branches homes number child home group nodes → IsCut parent_of branches number new_child → IsCut node_of homes number new_home → IsRun branches number new_group →
    ((c : ℕ) → number ≡ c + 1 → c < length branches → number < new_group) → ((c : ℕ) (b : Branch) → number ≡ c + 1 → slice_get branches c ≡ Some b → node.fact ≡ b.fact) → node.group_end ≡ new_group → node.children ≡ new_child + 1 → node.operators ≡ new_home → now ≡ nodes ++ node ∷ [] →
    AreNodesTo branches homes (number + 1) new_child new_home new_group now
nodes_more branches homes number child home group new_child new_home new_group nodes now node are child_cut home_cut run onwards fact group_is children_is operators_is more = rw more (record {
  long = omega (arith, are.long, length-append nodes (node ∷ []));
  each = λ n x at. elim (get_push nodes node n x at) [
    | inl before ↦ are.each n x before
    | inr here ↦ subst (λ (y : Node). IsNodeAt branches homes n y) (sym here.1) (subst (λ k. IsNodeAt branches homes k node) (let e : number ≡ n = (let long = are.long in let place = here.0 in omega arith) in e) own)
  ];
  child_below = below_next parent_of branches number new_child child_cut;
  home_below = below_next node_of homes number new_home home_cut;
  run = record { inside = run.inside; same = λ c d a b low le high at_a at_b. run.same c d a b (omega arith) le high at_a at_b };
})
  where
    own : IsNodeAt branches homes number node
    own = record {
      fact = fact;
      group = λ c is lt. (let low = onwards c is lt in omega arith);
      run = subst (IsRun branches number) (sym group_is) run;
      child = new_child;
      children = children_is;
      children_cut = child_cut;
      operators_cut = subst (IsCut node_of homes number) (sym operators_is) home_cut;
    }
