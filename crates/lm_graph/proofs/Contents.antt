-- What a graph holds after a call.
use Rattle.std.proofs.Common.{◌≡◌, ◌≢◌, ◌⊎◌, inl, inr, ◌∙◌, sym, ap, refl, subst, ℕ, zero, suc, ◌<◌, List, [], ◌∷◌, ◌++◌, length, Bool, true, false, ◌||◌, ◌&&◌, Option, Some, None, slice_get, slice_set, get_or-set_same, get_or-set_other, arith, length-append, IsTrue}
use Rattle.std.specs.List.{list_all}
use Rattle.std.proofs.lemmas.List.{length-set, length-map, map-append}
use Rattle.std.proofs.lemmas.List.Folds.{list_all-append}
use Rattle.std.proofs.lemmas.Bool.{cases_eq}
use Rattle.std.proofs.lemmas.Option.{same_Some, none-some}
use Rattle.sas_task.specs.declared.contents.Fact.{Fact}
use Rattle.lm_graph.specs.declared.orders.Order.{Order}
use Rattle.lm_graph.specs.declared.orders.Edge.{Edge}
use Rattle.lm_graph.specs.declared.nodes.Node.{Node}
use Rattle.lm_graph.specs.Nodes.{is_set, sets_of, IsAbsent, with_goal}
use Rattle.lm_graph.specs.Orders.{stronger}
use Rattle.lm_graph.specs.Rows.{kind_in}
use Rattle.lm_graph.specs.Graphs.{content, row_of, kind_of, RaisesAt, IsPair, IsGraph, AddsNew, FindsKnown, PutsOrder}
use Rattle.lm_graph.specs.Rows.{IsAscending}
use Rattle.lm_graph.specs.Marks.{AreWithin}
use Rattle.lm_graph.proofs.Lists.{push_get, set_same}
use Rattle.lm_graph.proofs.Strengths.{kind_at_place}

-- rows

row_of-new : (rows : List (List Edge)) (j : ℕ) → row_of (rows ++ [] ∷ []) j ≡ row_of rows j
row_of-new [] zero = refl
row_of-new [] (suc j) = refl
row_of-new (row ∷ rows) zero = refl
row_of-new (row ∷ rows) (suc j) = row_of-new rows j

pub row_of-set_same : (rows : List (List Edge)) (j : ℕ) (row : List Edge) → j < length rows → row_of (slice_set rows j row) j ≡ row
row_of-set_same rows j row lt = get_or-set_same rows j row [] lt

pub row_of-set_other : (rows : List (List Edge)) (i j : ℕ) (row : List Edge) → j ≢ i → row_of (slice_set rows i row) j ≡ row_of rows j
row_of-set_other rows i j row ne = get_or-set_other rows i j row [] ne

-- the graph without a node

pub empty_graph : IsGraph (content [] [])
empty_graph = record {
  few = omega arith;
  sets = refl;
  distinct = record { each = λ i j facts a b. absurd (none-some facts a) };
  long = refl;
  between = λ i j kind at. absurd (none-some kind at);
}

-- a node that is a goal as well

pub joined_not : (nodes : List Node) (place : ℕ) → nodes ≡ with_goal nodes place false
joined_not nodes place = by (slice_get nodes place) refl
  where
    or_false : (b : Bool) → (b || false) ≡ b
    or_false true = refl
    or_false false = refl

    again : (known : Node) → record known { goal = known.goal || false } ≡ known
    again known = let f : Bool → Node = λ g. record known { goal = g } in ap f (or_false known.goal)

    by : (o : Option Node) → slice_get nodes place ≡ o → nodes ≡ with_goal nodes place false
    by None at = rw at refl
    by (Some known) at = rw at (sym (ap (slice_set nodes place) (again known) ∙ set_same nodes place known at))

pub joined_goal : (nodes : List Node) (place : ℕ) (known : Node) → slice_get nodes place ≡ Some known → slice_set nodes place (record known { goal = true }) ≡ with_goal nodes place true
joined_goal nodes place known at = rw at (by known.goal refl)
  where
    or_true : (b : Bool) → true ≡ (b || true)
    or_true true = refl
    or_true false = refl

    by : (b : Bool) → known.goal ≡ b → slice_set nodes place (record known { goal = true }) ≡ slice_set nodes place (record known { goal = known.goal || true })
    by b is = let f : Bool → List Node = λ g. slice_set nodes place (record known { goal = g }) in ap f (or_true known.goal)

sets_of-set : (nodes : List Node) (place : ℕ) (old new : Node) → slice_get nodes place ≡ Some old → new.facts ≡ old.facts → sets_of (slice_set nodes place new) ≡ sets_of nodes
sets_of-set [] place old new at same = refl
sets_of-set (node ∷ nodes) zero old new at same = ap (λ (facts : List Fact). facts ∷ sets_of nodes) (same ∙ sym (ap (λ (n : Node). n.facts) (same_Some node old at)))
sets_of-set (node ∷ nodes) (suc place) old new at same = ap (λ (sets : List (List Fact)). node.facts ∷ sets) (sets_of-set nodes place old new at same)

pub sets_of-with_goal : (nodes : List Node) (place : ℕ) (goal : Bool) → sets_of (with_goal nodes place goal) ≡ sets_of nodes
sets_of-with_goal nodes place goal = by (slice_get nodes place) refl
  where
    by : (o : Option Node) → slice_get nodes place ≡ o → sets_of (with_goal nodes place goal) ≡ sets_of nodes
    by None at = rw at refl
    by (Some node) at = rw at (sets_of-set nodes place node (record node { goal = node.goal || goal }) at refl)

module _ (nodes : List Node) (rows : List (List Edge)) where
  pub goal_graph : (place : ℕ) (goal : Bool) → IsGraph (content nodes rows) → IsGraph (content (with_goal nodes place goal) rows)
  goal_graph place goal graph =
      let new = with_goal nodes place goal in
      let same = sets_of-with_goal nodes place goal in
      let long : length new ≡ length nodes = sym (length-map new (λ n. n.facts)) ∙ (ap length same ∙ length-map nodes (λ n. n.facts)) in
      record {
        few = omega (arith, long, graph.few);
        sets = rw same graph.sets;
        distinct = record { each = λ i j facts a b. graph.distinct.each i j facts (ap (λ (sets : List (List Fact)). slice_get sets i) (sym same) ∙ a) (ap (λ (sets : List (List Fact)). slice_get sets j) (sym same) ∙ b) };
        long = graph.long ∙ sym long;
        between = λ i j kind at. subst (λ n. IsPair n i j) (sym long) (graph.between i j kind at);
      }

  pub finds_known : (place : ℕ) (node : Node) → slice_get (sets_of nodes) place ≡ Some node.facts → FindsKnown (content nodes rows) (content (with_goal nodes place node.goal) rows) node place
  finds_known place node there = record { there = there; nodes = refl; orders = λ i j. refl }

  -- one more node

  pub new_graph : (node : Node) → IsGraph (content nodes rows) → IsAbsent nodes node.facts → length nodes < 65536 → IsTrue (is_set node.facts) → IsGraph (content (nodes ++ node ∷ []) (rows ++ [] ∷ []))
  new_graph node graph absent room set =
      let facts : Node → List Fact = λ n. n.facts in
      let sets : sets_of (nodes ++ node ∷ []) ≡ sets_of nodes ++ node.facts ∷ [] = map-append facts nodes (node ∷ []) in
      let long = length-append nodes (node ∷ []) in
      record {
        few = omega (arith, long, room);
        sets = all_sets sets;
        distinct = record { each = λ i j fs a b. apart i j fs (push_get (sets_of nodes) node.facts i fs (ap (λ (s : List (List Fact)). slice_get s i) (sym sets) ∙ a)) (push_get (sets_of nodes) node.facts j fs (ap (λ (s : List (List Fact)). slice_get s j) (sym sets) ∙ b)) };
        long = let l : length (rows ++ [] ∷ []) ≡ length (nodes ++ node ∷ []) = omega (arith, long, length-append rows ([] ∷ []), graph.long) in l;
        between = λ i j kind at.
            let old = graph.between i j kind (ap (λ (row : List Edge). kind_in row i) (sym (row_of-new rows j)) ∙ at) in
            record { first = omega (arith, long, old.first); second = omega (arith, long, old.second); different = old.different };
      }
    where
      and_true : (a b : Bool) → a ≡ true → b ≡ true → (a && (b && true)) ≡ true
      and_true a b x y = rw (x, y) refl

      all_sets : sets_of (nodes ++ node ∷ []) ≡ sets_of nodes ++ node.facts ∷ [] → IsTrue (list_all is_set (sets_of (nodes ++ node ∷ [])))
      all_sets sets = rw (sets, list_all-append is_set (sets_of nodes) (node.facts ∷ [])) (and_true (list_all is_set (sets_of nodes)) (is_set node.facts) graph.sets set)

      apart : (i j : ℕ) (fs : List Fact) → (slice_get (sets_of nodes) i ≡ Some fs) ⊎ ((i ≡ length (sets_of nodes)) × (node.facts ≡ fs)) → (slice_get (sets_of nodes) j ≡ Some fs) ⊎ ((j ≡ length (sets_of nodes)) × (node.facts ≡ fs)) → i ≡ j
      apart i j fs (inl a) (inl b) = graph.distinct.each i j fs a b
      apart i j fs (inl a) (inr b) = absurd (absent.each i (a ∙ ap (λ (s : List Fact). Some s) (sym b.1)))
      apart i j fs (inr a) (inl b) = absurd (absent.each j (b ∙ ap (λ (s : List Fact). Some s) (sym a.1)))
      apart i j fs (inr a) (inr b) = a.0 ∙ sym b.0

  pub adds_new : (node : Node) (place : ℕ) → IsAbsent nodes node.facts → length nodes < 65536 → place ≡ length nodes → AddsNew (content nodes rows) (content (nodes ++ node ∷ []) (rows ++ [] ∷ [])) node place
  adds_new node place absent room is = record {
    absent = absent;
    room = room;
    place_is = is;
    nodes = refl;
    orders = λ i j. ap (λ (row : List Edge). kind_in row i) (row_of-new rows j);
  }

  -- an order

  module _ (new : List (List Edge)) (before after : ℕ) (kind : Order) (raises : RaisesAt rows new before after kind) (within : after < length rows) where
    same_row : (j : ℕ) → j ≡ after → row_of new j ≡ raises.row
    same_row j same = ap (λ (rs : List (List Edge)). row_of rs j) raises.rows ∙ rw same (row_of-set_same rows after raises.row within)

    other_row : (j : ℕ) → j ≢ after → row_of new j ≡ row_of rows j
    other_row j ne = ap (λ (rs : List (List Edge)). row_of rs j) raises.rows ∙ row_of-set_other rows after j raises.row ne

    here : kind_of (content nodes new) before after ≡ Some (stronger (kind_of (content nodes rows) before after) kind)
    here = ap (λ (row : List Edge). kind_in row before) (same_row after refl) ∙ raises.raises.here

    others : (i j : ℕ) → (i ≡ before → j ≡ after → ⊥) → kind_of (content nodes new) i j ≡ kind_of (content nodes rows) i j
    others i j ne = elim (cases_eq j after) [
      | inl same ↦
          ap (λ (row : List Edge). kind_in row i) (same_row j same)
          ∙ (raises.raises.others i (λ e. ne e same) ∙ ap (λ n. kind_in (row_of rows n) i) (sym same))
      | inr apart ↦ ap (λ (row : List Edge). kind_in row i) (other_row j apart)
    ]

    pub puts_order : PutsOrder (content nodes rows) (content nodes new) before after kind
    puts_order = record { nodes = refl; here = here; others = others }

    pub ordered_graph : IsGraph (content nodes rows) → IsPair (length nodes) before after → IsGraph (content nodes new)
    ordered_graph graph pair = record {
      few = graph.few;
      sets = graph.sets;
      distinct = graph.distinct;
      long = ap length raises.rows ∙ (length-set rows after raises.row ∙ graph.long);
      between = λ i j k at. pairs i j k at (cases_eq i before) (cases_eq j after);
    }
      where
        pairs : (i j : ℕ) (k : Order) → kind_of (content nodes new) i j ≡ Some k → (i ≡ before) ⊎ (i ≢ before) → (j ≡ after) ⊎ (j ≢ after) → IsPair (length nodes) i j
        pairs i j k at (inl a) (inl b) = rw (a, b) pair
        pairs i j k at (inl a) (inr b) = graph.between i j k (sym (others i j (λ x y. b y)) ∙ at)
        pairs i j k at (inr a) b = graph.between i j k (sym (others i j (λ x y. a x)) ∙ at)

-- orders come from nodes

pub edge_kind : (nodes : List Node) (rows : List (List Edge)) (node place : ℕ) (row : List Edge) (edge : Edge) → IsGraph (content nodes rows) → row ≡ row_of rows node → IsAscending row → slice_get row place ≡ Some edge →
    (edge.node < length nodes) × (kind_of (content nodes rows) edge.node node ≡ Some edge.kind)
edge_kind nodes rows node place row edge graph is ascending at =
    let kind = ap (λ (r : List Edge). kind_in r edge.node) (sym is) ∙ kind_at_place row place edge ascending at in
    let pair = graph.between edge.node node edge.kind kind in
    (pair.first, kind)

pub rows_within : (nodes : List Node) (rows : List (List Edge)) → IsGraph (content nodes rows) → AreWithin rows
rows_within nodes rows graph = record { each = λ i j kind at. let pair = graph.between i j kind at in omega (arith, pair.first, graph.long) }
