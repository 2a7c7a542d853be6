-- The orders become the strongest, and the graph is that of backchaining.
use Rattle.std.proofs.Common.{◌≡◌, ◌≢◌, ◌∙◌, sym, ap, refl, subst, ℕ, ◌+◌, ◌<◌, ◌≤◌, List, [], ◌∷◌, length, map, Bool, true, not, ◌↔◌, Option, Some, None, slice_get, inl, inr, ◌⊎◌, arith}
use Rattle.std.proofs.lemmas.Bool.{cases_eq, both_ways, not-true, not_from_false, false_from_ne_true}
use Rattle.std.proofs.lemmas.List.{length-map}
use Rattle.std.proofs.lemmas.Option.{same_Some, none-some, slice_get_within}
use Rattle.sas_task.specs.Runs.{start_of}
use Rattle.sas_task.specs.declared.contents.Fact.{Fact}
use Rattle.sas_task.specs.declared.contents.Parts.{Parts}
use Rattle.relaxed_task.specs.Reached.{IsReached}
use Rattle.lm_graph.specs.declared.orders.Order.{Order}
use Rattle.lm_graph.specs.declared.orders.Order.TheVariants.{Natural, GreedyNecessary}
use Rattle.lm_graph.specs.declared.nodes.Node.{Node}
use Rattle.lm_graph.specs.Graphs.{Content, kind_of, most_nodes, IsGraph, PutsOrder}
use Rattle.lm_graph.specs.Nodes.{sets_of, AreDistinct}
use Rattle.lm_graph.specs.Orders.{stronger}
use Rattle.lm_backchain.specs.Backchain.{Among, Backchain, GivesGreedy, GivesNatural, unreached, IsNode, goal, back, IsStrongest, is_open, node_of}
use Rattle.lm_backchain.specs.Growth.{Works, IsGreedyKind}
use Rattle.lm_backchain.specs.Strengths.{IsEarlier, IsStrongestAt, IsUpTo}
use Rattle.lm_backchain.specs.Singles.{IsOpenSingle, IsSingle, IsKept, IsSingleAt, AreKept}
use Rattle.lm_backchain.specs.declared.singles.Single.{Single}
use Rattle.relaxed_task.specs.Numbers.{number_of}
use Rattle.bit_rows.specs.Rows.{has}
use Rattle.lm_backchain.proofs.GoalFacts.{goal_among}

abbrev facts_of : Node → List Fact
facts_of n = n.facts

within : (graph : Content) (j : ℕ) (b : List Fact) → slice_get (sets_of graph.nodes) j ≡ Some b → j < length graph.nodes
within graph j b at = let lt = slice_get_within (sets_of graph.nodes) j b at in let l = length-map graph.nodes facts_of in omega (arith, lt, l)

-- before the third rule
up_to_none : (parts : Parts) (graph : Content) → Works parts graph (length graph.nodes) [] → IsUpTo parts graph 0 0
up_to_none parts graph w = record {
  earlier = λ i j h. elim h [ inl lt ↦ absurd (omega (arith, lt)) | inr p ↦ let lt = p.1 in absurd (omega (arith, lt)) ];
  others = λ i j h. record { kind = λ a b at_i at_j. by i j a b at_i at_j (kind_of graph i j) refl };
}
  where
    by : (i j : ℕ) (a b : List Fact) → slice_get (sets_of graph.nodes) i ≡ Some a → slice_get (sets_of graph.nodes) j ≡ Some b → (o : Option Order) → kind_of graph i j ≡ o → IsGreedyKind parts a b (kind_of graph i j)
    by i j a b at_i at_j None is = inr (is, λ g. none-some GreedyNecessary (sym is ∙ (w.taken j a b (within graph j b at_j) at_j g).ordered i at_i))
    by i j a b at_i at_j (Some k) is =
        let g = w.orders i j k is in
        let first : g.before ≡ a = same_Some _ _ (sym g.at_before ∙ at_i) in
        let second : g.after ≡ b = same_Some _ _ (sym g.at_after ∙ at_j) in
        inl (g.kind, subst (λ x. GivesGreedy parts x b) first (subst (λ y. GivesGreedy parts g.before y) second g.gives))

-- the strongest of both rules
strongest_from : (parts : Parts) (a b : List Fact) (k : Option Order) → IsGreedyKind parts a b k → (GivesNatural parts a b → ⊥) → IsStrongest parts a b k
strongest_from parts a b k (inl g) none = subst (IsStrongest parts a b) (sym g.0) g.1
strongest_from parts a b k (inr g) none = subst (IsStrongest parts a b) (sym g.0) (g.1, none)

strongest_natural : (parts : Parts) (a b : List Fact) (k : Option Order) → IsGreedyKind parts a b k → GivesNatural parts a b → IsStrongest parts a b (Some (stronger k Natural))
strongest_natural parts a b k (inl g) n = subst (λ o. IsStrongest parts a b (Some (stronger o Natural))) (sym g.0) g.1
strongest_natural parts a b k (inr g) n = subst (λ o. IsStrongest parts a b (Some (stronger o Natural))) (sym g.0) (n, g.1)

not_itself : (parts : Parts) (a b : List Fact) → a ≡ b → GivesNatural parts a b → ⊥
not_itself parts a b same (unreached {b = x} {c = y} free other ne never) = ne (by same)
  where
    by : x ∷ [] ≡ y ∷ [] → x ≡ y
    by e = cc

earlier_cases : (i j before after : ℕ) → IsEarlier i j before (after + 1) → IsEarlier i j before after ⊎ ((i ≡ before) × (j ≡ after))
earlier_cases i j before after (inl lt) = inl (inl lt)
earlier_cases i j before after (inr p) = elim (cases_eq j after) [
  | inl e ↦ inr (p.0, e)
  | inr ne ↦ let lt = p.1 in inl (inr (p.0, omega (arith, ne, lt)))
]

module _ (parts : Parts) (old new : Content) (before after : ℕ) (nodes : new.nodes ≡ old.nodes) (u : IsUpTo parts old before after) where
  back_at : (i : ℕ) (a : List Fact) → slice_get (sets_of new.nodes) i ≡ Some a → slice_get (sets_of old.nodes) i ≡ Some a
  back_at i a at = ap (λ (ns : List Node). slice_get (map facts_of ns) i) (sym nodes) ∙ at

  -- the order of one pair is the strongest now
  pair_more : ((i j : ℕ) → (i ≡ before → j ≡ after → ⊥) → kind_of new i j ≡ kind_of old i j) → IsStrongestAt parts new before after → IsUpTo parts new before (after + 1)
  pair_more others here = record {
    earlier = λ i j h. elim (earlier_cases i j before after h) [
      | inl e ↦ record { kind = λ a b at_i at_j. subst (IsStrongest parts a b) (sym (others i j (not_here i j e))) ((u.earlier i j e).kind a b (back_at i a at_i) (back_at j b at_j)) }
      | inr p ↦ subst (λ m. IsStrongestAt parts new m j) (sym p.0) (subst (λ n. IsStrongestAt parts new before n) (sym p.1) here)
    ];
    others = λ i j h. record { kind = λ a b at_i at_j. subst (IsGreedyKind parts a b) (sym (others i j (λ e f. h (inr (e, omega (arith, f)))))) ((u.others i j (λ e. h (weaker i j e))).kind a b (back_at i a at_i) (back_at j b at_j)) };
  }
    where
      not_here : (i j : ℕ) → IsEarlier i j before after → i ≡ before → j ≡ after → ⊥
      not_here i j (inl lt) e f = omega (arith, lt, e)
      not_here i j (inr p) e f = let lt = p.1 in omega (arith, lt, f)

      weaker : (i j : ℕ) → IsEarlier i j before after → IsEarlier i j before (after + 1)
      weaker i j (inl lt) = inl lt
      weaker i j (inr p) = let lt = p.1 in inr (p.0, omega (arith, lt))

  -- of this pair the third rule wasn't applied yet
  pair_greedy : (a b : List Fact) → slice_get (sets_of new.nodes) before ≡ Some a → slice_get (sets_of new.nodes) after ≡ Some b → IsGreedyKind parts a b (kind_of old before after)
  pair_greedy a b at_i at_j = (u.others before after not_yet).kind a b (back_at before a at_i) (back_at after b at_j)
    where
      not_yet : IsEarlier before after before after → ⊥
      not_yet (inl lt) = omega (arith, lt)
      not_yet (inr p) = let lt = p.1 in omega (arith, lt)

pub pair_same : (parts : Parts) (graph : Content) (before after : ℕ) → IsUpTo parts graph before after → ((a b : List Fact) → slice_get (sets_of graph.nodes) before ≡ Some a → slice_get (sets_of graph.nodes) after ≡ Some b → GivesNatural parts a b → ⊥) → IsUpTo parts graph before (after + 1)
pair_same parts graph before after u none = pair_more parts graph graph before after refl u (λ i j h. refl) (record {
  kind = λ a b at_i at_j. strongest_from parts a b _ (pair_greedy parts graph graph before after refl u a b at_i at_j) (none a b at_i at_j);
})

pub pair_itself : (parts : Parts) (graph : Content) (before after : ℕ) → before ≡ after → IsUpTo parts graph before after → IsUpTo parts graph before (after + 1)
pair_itself parts graph before after e u = pair_same parts graph before after u (λ a b at_i at_j. not_itself parts a b (same_Some _ _ (sym at_i ∙ (ap (slice_get (sets_of graph.nodes)) e ∙ at_j))))

pub pair_natural : (parts : Parts) (old new : Content) (before after : ℕ) → IsUpTo parts old before after → PutsOrder old new before after Natural →
    ((a b : List Fact) → slice_get (sets_of old.nodes) before ≡ Some a → slice_get (sets_of old.nodes) after ≡ Some b → GivesNatural parts a b) → IsUpTo parts new before (after + 1)
pair_natural parts old new before after u o gives = pair_more parts old new before after o.nodes u o.others (record {
  kind = λ a b at_i at_j. subst (IsStrongest parts a b) (sym o.here) (strongest_natural parts a b _
      (pair_greedy parts old new before after o.nodes u a b at_i at_j)
      (gives a b (back_at parts old new before after o.nodes u before a at_i) (back_at parts old new before after o.nodes u after b at_j)));
})

-- on to the next row
pub row_next : (parts : Parts) (graph : Content) (before n : ℕ) → length graph.nodes ≤ n → IsUpTo parts graph before n → IsUpTo parts graph (before + 1) 0
row_next parts graph before n all u = record {
  earlier = λ i j h. record { kind = λ a b at_i at_j. (u.earlier i j (by i j (within graph j b at_j) h)).kind a b at_i at_j };
  others = λ i j h. u.others i j (λ e. h (later i j e));
}
  where
    by : (i j : ℕ) → j < length graph.nodes → IsEarlier i j (before + 1) 0 → IsEarlier i j before n
    by i j lt (inr p) = let z = p.1 in absurd (omega (arith, z))
    by i j lt (inl less) = elim (cases_eq i before) [ inl e ↦ inr (e, omega (arith, lt, all)) | inr ne ↦ inl (omega (arith, less, ne)) ]

    later : (i j : ℕ) → IsEarlier i j before n → IsEarlier i j (before + 1) 0
    later i j (inl lt) = inl (omega (arith, lt))
    later i j (inr p) = let e = p.0 in inl (omega (arith, e))

-- no natural order comes from a node that isn't one fact, or isn't open
from_single : (parts : Parts) (a b : List Fact) → GivesNatural parts a b → IsOpenSingle parts a
from_single parts a b (unreached {b = x} free other ne never) = record { fact = x; one = refl; are_open = free }

pub row_without : (parts : Parts) (graph : Content) (before : ℕ) (node : List Fact) → slice_get (sets_of graph.nodes) before ≡ Some node → (IsOpenSingle parts node → ⊥) → IsUpTo parts graph before 0 → IsUpTo parts graph (before + 1) 0
row_without parts graph before node at closed u = record {
  earlier = λ i j h. record { kind = λ a b at_i at_j. by i j a b at_i at_j h };
  others = λ i j h. u.others i j (λ e. h (later i j e));
}
  where
    later : (i j : ℕ) → IsEarlier i j before 0 → IsEarlier i j (before + 1) 0
    later i j (inl lt) = inl (omega (arith, lt))
    later i j (inr p) = let e = p.1 in absurd (omega (arith, e))

    not_yet : (i j : ℕ) → i ≡ before → IsEarlier i j before 0 → ⊥
    not_yet i j e (inl lt) = omega (arith, lt, e)
    not_yet i j e (inr p) = let z = p.1 in omega (arith, z)

    by : (i j : ℕ) (a b : List Fact) → slice_get (sets_of graph.nodes) i ≡ Some a → slice_get (sets_of graph.nodes) j ≡ Some b → IsEarlier i j (before + 1) 0 → IsStrongest parts a b (kind_of graph i j)
    by i j a b at_i at_j (inr p) = let z = p.1 in absurd (omega (arith, z))
    by i j a b at_i at_j (inl less) = elim (cases_eq i before) [
      | inl e ↦
          let same : node ≡ a = same_Some _ _ (sym at ∙ (ap (slice_get (sets_of graph.nodes)) (sym e) ∙ at_i)) in
          strongest_from parts a b _ ((u.others i j (not_yet i j e)).kind a b at_i at_j) (λ g. closed (subst (IsOpenSingle parts) (sym same) (from_single parts a b g)))
      | inr ne ↦ (u.earlier i j (inl (omega (arith, less, ne)))).kind a b at_i at_j
    ]

-- nor does one go to such a node
to_single : (parts : Parts) (a b : List Fact) → GivesNatural parts a b → IsOpenSingle parts b
to_single parts a b (unreached {c = y} free other ne never) = record { fact = y; one = refl; are_open = other }

pub none_to : (parts : Parts) (a b : List Fact) → (IsOpenSingle parts b → ⊥) → GivesNatural parts a b → ⊥
none_to parts a b none g = none (to_single parts a b g)

-- what the third rule gives, by the bit of one node's fact in the row of another

late_from : (parts : Parts) (a b : List Fact) → (s : IsOpenSingle parts a) → (t : IsOpenSingle parts b) → a ≢ b → (IsReached parts (start_of parts) a t.fact → ⊥) → GivesNatural parts a b
late_from parts a b s t ne never = subst (λ x. GivesNatural parts x b) (sym s.one) (subst (GivesNatural parts (s.fact ∷ [])) (sym t.one) (unreached
    (subst (λ x. is_open parts x ≡ true) s.one s.are_open)
    (subst (λ x. is_open parts x ≡ true) t.one t.are_open)
    (λ e. ne (s.one ∙ (ap (λ z. z ∷ []) e ∙ sym t.one)))
    (subst (λ x. IsReached parts (start_of parts) x t.fact → ⊥) s.one never)))

late_not : (parts : Parts) (a b : List Fact) (f : Fact) → GivesNatural parts a b → b ≡ f ∷ [] → IsReached parts (start_of parts) a f → ⊥
late_not parts a b f (unreached {b = x} {c = y} free other ne never) one r = never (subst (IsReached parts (start_of parts) (x ∷ [])) (sym (same one)) r)
  where
    same : y ∷ [] ≡ f ∷ [] → y ≡ f
    same e = cc

pub late_test : (parts : Parts) (a b : List Fact) (s t : Single) → IsSingle parts a s → IsSingle parts b t → a ≢ b → (not (has s.reached t.number) ≡ true) ↔ GivesNatural parts a b
late_test parts a b s t one other ne = (
  λ n. late_from parts a b one.are_one other.are_one ne (λ r. both_ways _ (not-true _ n) (ap (has s.reached) other.number ∙ is.1 r)),
  λ g. not_from_false _ (false_from_ne_true _ (λ yes. late_not parts a b other.are_one.fact g other.are_one.one (is.0 (sym (ap (has s.reached) other.number) ∙ yes)))),
)
  where
    is : (has s.reached (number_of parts.variables other.are_one.fact) ≡ true) ↔ IsReached parts (start_of parts) a other.are_one.fact
    is = one.row.each other.are_one.fact other.there

other_node : (graph : Content) (before after : ℕ) (a b : List Fact) → AreDistinct graph.nodes → (before ≡ after → ⊥) → slice_get (sets_of graph.nodes) before ≡ Some a → slice_get (sets_of graph.nodes) after ≡ Some b → a ≢ b
other_node graph before after a b distinct ne at_a at_b e = ne (distinct.each before after b (at_a ∙ ap (λ x. Some x) e) at_b)

-- the test of a pair
pub pair_test : (parts : Parts) (graph : Content) (before after : ℕ) (single : Single) (singles : List (Option Single)) (s : Option Single) (late : Bool) → AreDistinct graph.nodes → (before ≡ after → ⊥) →
    IsSingleAt parts graph before single → AreKept parts graph singles → slice_get singles after ≡ Some s → ((p : Parts) (a b : List Fact) → IsSingle p a single → IsKept p b s → a ≢ b → (late ≡ true) ↔ GivesNatural p a b) →
    (a b : List Fact) → slice_get (sets_of graph.nodes) before ≡ Some a → slice_get (sets_of graph.nodes) after ≡ Some b → (late ≡ true) ↔ GivesNatural parts a b
pair_test parts graph before after single singles s late distinct ne one kept there test a b at_a at_b =
    let same : one.node ≡ a = same_Some _ _ (sym one.at ∙ at_a) in
    test parts a b (subst (λ x. IsSingle parts x single) same one.is) (kept.each after b s at_b there) (other_node graph before after a b distinct ne at_a at_b)

-- what is kept of nodes that stay
pub kept_stay : (parts : Parts) (old new : Content) (singles : List (Option Single)) → new.nodes ≡ old.nodes → AreKept parts old singles → AreKept parts new singles
kept_stay parts old new singles same k = record { each = λ place node single at. k.each place node single (ap (λ (ns : List Node). slice_get (map facts_of ns) place) (sym same) ∙ at) }

pub single_stays : (parts : Parts) (old new : Content) (place : ℕ) (single : Single) → new.nodes ≡ old.nodes → IsSingleAt parts old place single → IsSingleAt parts new place single
single_stays parts old new place single same k = record { node = k.node; at = ap (λ (ns : List Node). slice_get (map facts_of ns) place) same ∙ k.at; is = k.is }

-- the graph

closed : (parts : Parts) (graph : Content) → Works parts graph (length graph.nodes) [] → length graph.nodes < most_nodes → (a : List Fact) → IsNode parts a → Among (sets_of graph.nodes) a
closed parts graph w room a (goal {fact = f} own) = goal_among parts graph (length graph.nodes) [] f w room own
closed parts graph w room a (back {b = b} d g) =
    let m = closed parts graph w room b d in
    (w.taken m.place a b (within graph m.place b m.at) m.at g).there room

is_backchain : (parts : Parts) (old new : Content) → Works parts old (length old.nodes) [] → new.nodes ≡ old.nodes → IsUpTo parts new (length new.nodes) 0 → IsGraph old → Backchain parts new
is_backchain parts old new w nodes u graph = record {
  goals = (w.goals.0, same ∙ w.goals.1);
  nodes_are = nodes ∙ (w.nodes_are ∙ ap (map (node_of parts)) (sym same));
  distinct = λ i j facts at_i at_j. graph.distinct.each i j facts (ap (λ ss. slice_get ss i) (sym same) ∙ at_i) (ap (λ ss. slice_get ss j) (sym same) ∙ at_j);
  found = λ facts m. w.found facts (record { place = m.place; at = ap (λ ss. slice_get ss m.place) (sym same) ∙ m.at });
  closed = λ room facts node.
      let l = ap length nodes in
      let m = closed parts old w (omega (arith, l, room)) facts node in
      record { place = m.place; at = ap (λ ss. slice_get ss m.place) same ∙ m.at };
  strongest = λ i j a b at_i at_j. (u.earlier i j (inl (within new i a at_i))).kind a b at_i at_j;
}
  where
    same : sets_of new.nodes ≡ sets_of old.nodes
    same = ap (map facts_of) nodes

pub with_natural : (parts : Parts) (old new : Content) (singles own : List (Option Single)) → own ≡ singles → Works parts old (length old.nodes) [] → AreKept parts old singles →
    ((p : Parts) → AreKept p old own → IsUpTo p old 0 0 → IsUpTo p new (length new.nodes) 0) → new.nodes ≡ old.nodes → IsGraph old → Backchain parts new
with_natural parts old new singles own is w kept orders nodes graph = is_backchain parts old new w nodes (orders parts (subst (AreKept parts old) (sym is) kept) (up_to_none parts old w)) graph

-- what stands behind an order of the graph
strongest_greedy : (parts : Parts) (a b : List Fact) (o : Option Order) → o ≡ Some GreedyNecessary → IsStrongest parts a b o → GivesGreedy parts a b
strongest_greedy parts a b o is s = subst (IsStrongest parts a b) is s

pub greedy_of : (parts : Parts) (graph : Content) (i j : ℕ) (a b : List Fact) → Backchain parts graph → slice_get (sets_of graph.nodes) i ≡ Some a → slice_get (sets_of graph.nodes) j ≡ Some b → kind_of graph i j ≡ Some GreedyNecessary → GivesGreedy parts a b
greedy_of parts graph i j a b g at_i at_j is = strongest_greedy parts a b (kind_of graph i j) is (g.strongest i j a b at_i at_j)

pub natural_of : (parts : Parts) (graph : Content) (i j : ℕ) (a b : List Fact) → Backchain parts graph → slice_get (sets_of graph.nodes) i ≡ Some a → slice_get (sets_of graph.nodes) j ≡ Some b → kind_of graph i j ≡ Some Natural → GivesNatural parts a b
natural_of parts graph i j a b g at_i at_j is = (two (kind_of graph i j) is (g.strongest i j a b at_i at_j)).0
  where
    two : (o : Option Order) → o ≡ Some Natural → IsStrongest parts a b o → GivesNatural parts a b × (GivesGreedy parts a b → ⊥)
    two o is s = subst (IsStrongest parts a b) is s
