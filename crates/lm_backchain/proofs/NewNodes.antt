-- Nodes that come in, and the orders to what they were taken back from.
use Rattle.std.proofs.Common.{◌≡◌, ◌≢◌, ◌∙◌, sym, ap, refl, subst, ℕ, zero, suc, ◌+◌, ◌<◌, ◌≤◌, List, [], ◌∷◌, ◌++◌, length, map, take, Bool, true, false, ◌||◌, Option, Some, None, slice_get, slice_set, inl, inr, ◌⊎◌, arith, append_assoc, length-append}
use Rattle.std.specs.List.{list_any}
use Rattle.std.proofs.lemmas.Bool.{cases_eq, and_parts, and_from, or_cases, or_left, not-true, both_ways, le-leb}
use Rattle.std.proofs.lemmas.List.{append-nil, length-map, map-append}
use Rattle.std.proofs.lemmas.Option.{same_Some, none-some, slice_get_within}
use Rattle.lama_num.proofs.ListLaws.{slice_get-append_front}
use Rattle.sas_task.specs.declared.contents.Fact.{Fact}
use Rattle.sas_task.specs.declared.contents.Parts.{Parts}
use Rattle.lm_graph.specs.declared.orders.Order.{Order}
use Rattle.lm_graph.specs.declared.orders.Order.TheVariants.{Reasonable, Natural, GreedyNecessary}
use Rattle.lm_graph.specs.declared.nodes.Node.{Node}
use Rattle.lm_graph.specs.declared.nodes.Added.{Added}
use Rattle.lm_graph.specs.declared.nodes.Added.TheVariants.{New, Known, Full}
use Rattle.lm_graph.specs.Graphs.{Content, kind_of, most_nodes, IsGraph, Adds, IsFull, PutsOrder, SameOrders}
use Rattle.lm_graph.specs.Nodes.{is_set, sets_of, IsAbsent, with_goal}
use Rattle.lm_graph.specs.Orders.{stronger}
use Rattle.relaxed_task.specs.Facts.{start_facts}
use Rattle.relaxed_task.specs.Reached.{IsReached, is_reached_in, is_given}
use Rattle.sas_task.specs.Facts.{same_fact}
use Rattle.sas_task.specs.Runs.{start_of}
use Rattle.lm_backchain.specs.Backchain.{has, Among, GivesGreedy, shared, one_of, IsNode, back, node_of}
use Rattle.lm_backchain.specs.Growth.{Takes, IsGreedy, Works, IsTakenBack, IsTakenBackAt, StayNodes, number_in}
use Rattle.lm_backchain.specs.Singles.{AreKept, IsKept, Keeps}
use Rattle.lm_backchain.specs.declared.singles.Single.{Single}
use Rattle.lm_backchain.proofs.FactLists.{has_self, same_self}
use Rattle.lm_backchain.proofs.ListLaws.{push_cases, among_cases, among_one, among_none, read_at, take_more_at}
use Rattle.lm_graph.proofs.Lists.{get_front as front_get}

abbrev facts_of : Node → List Fact
facts_of n = n.facts

-- a node that is a goal as well

same_again : (nodes : List Node) (place : ℕ) (node : Node) → slice_get nodes place ≡ Some node → slice_set nodes place node ≡ nodes
same_again [] place node at = refl
same_again (n ∷ nodes) zero node at = ap (λ m. m ∷ nodes) (sym (same_Some n node at))
same_again (n ∷ nodes) (suc place) node at = ap (λ ns. n ∷ ns) (same_again nodes place node at)

-- a node that is known is already the goal that it is to be
pub known_same : (parts : Parts) (nodes : List Node) (place : ℕ) (facts : List Fact) → nodes ≡ map (node_of parts) (sets_of nodes) → slice_get (sets_of nodes) place ≡ Some facts →
    with_goal nodes place (node_of parts facts).goal ≡ nodes
known_same parts nodes place facts are at = by (slice_get nodes place) refl
  where
    again : (b : Bool) → (b || b) ≡ b
    again true = refl
    again false = refl

    node_at : (ns : List Node) (sets : List (List Fact)) (i : ℕ) → ns ≡ map (node_of parts) sets → slice_get sets i ≡ Some facts → slice_get ns i ≡ Some (node_of parts facts)
    node_at ns sets i are at = ap (λ ms. slice_get ms i) are ∙ mapped sets i at
      where
        mapped : (sets : List (List Fact)) (i : ℕ) → slice_get sets i ≡ Some facts → slice_get (map (node_of parts) sets) i ≡ Some (node_of parts facts)
        mapped [] i at = absurd (none-some facts at)
        mapped (s ∷ sets) zero at = ap (λ z. Some (node_of parts z)) (same_Some s facts at)
        mapped (s ∷ sets) (suc i) at = mapped sets i at

    by : (o : Option Node) → slice_get nodes place ≡ o → with_goal nodes place (node_of parts facts).goal ≡ nodes
    by None is = rw is refl
    by (Some known) is =
        let same : known ≡ node_of parts facts = same_Some _ _ (sym is ∙ node_at nodes (sets_of nodes) place are at) in
        let goals : known.goal ≡ (node_of parts facts).goal = ap (λ (n : Node). n.goal) same in
        let set : Bool → Node = λ g. record known { goal = g } in
        let kept : record known { goal = known.goal || (node_of parts facts).goal } ≡ known = ap (λ g. set (known.goal || g)) (sym goals) ∙ ap set (again known.goal) in
        rw is (ap (slice_set nodes place) kept ∙ same_again nodes place known is)

-- The nodes are as they were, and facts that weren't a node are one at the end, or are one, or there is no room.
pub record Extends (parts : Parts) (old mid : Content) (a : List Fact) : Type 0 where
  pub more : List (List Fact)
  pub sets : sets_of mid.nodes ≡ sets_of old.nodes ++ more
  pub each : (i : ℕ) (c : List Fact) → slice_get (sets_of mid.nodes) i ≡ Some c → (slice_get (sets_of old.nodes) i ≡ Some c) ⊎ ((a ≡ c) × IsAbsent old.nodes a × (length old.nodes < most_nodes))
  pub longer : length old.nodes ≤ length mid.nodes
  pub orders : SameOrders old mid
  pub nodes_are : old.nodes ≡ map (node_of parts) (sets_of old.nodes) → mid.nodes ≡ map (node_of parts) (sets_of mid.nodes)

pub extends : (parts : Parts) (old mid : Content) (a : List Fact) (added : Added) → old.nodes ≡ map (node_of parts) (sets_of old.nodes) → Adds old mid (node_of parts a) added → Extends parts old mid a
extends parts old mid a (New p) are s =
    let sets : sets_of mid.nodes ≡ sets_of old.nodes ++ a ∷ [] = ap (map facts_of) s.nodes ∙ map-append facts_of old.nodes (node_of parts a ∷ []) in
    record {
      more = a ∷ [];
      sets = sets;
      each = λ i c at. elim (push_cases (sets_of old.nodes) a i c (ap (λ ss. slice_get ss i) (sym sets) ∙ at)) [ inl before ↦ inl before | inr q ↦ inr (q.0, s.absent, s.room) ];
      longer = let l = ap length s.nodes ∙ length-append old.nodes (node_of parts a ∷ []) in omega (arith, l);
      orders = s.orders;
      nodes_are = λ was. s.nodes ∙ (ap (λ ns. ns ++ node_of parts a ∷ []) was ∙ (sym (map-append (node_of parts) (sets_of old.nodes) (a ∷ [])) ∙ ap (map (node_of parts)) (sym sets)));
    }
extends parts old mid a (Known p) are s =
    let same : mid.nodes ≡ old.nodes = s.nodes ∙ known_same parts old.nodes p a are s.there in
    record {
      more = [];
      sets = ap (map facts_of) same ∙ sym (append-nil (sets_of old.nodes));
      each = λ i c at. inl (ap (λ (ns : List Node). slice_get (map facts_of ns) i) (sym same) ∙ at);
      longer = let l = ap length same in omega (arith, l);
      orders = s.orders;
      nodes_are = λ was. same ∙ (was ∙ ap (λ ns. map (node_of parts) (map facts_of ns)) (sym same));
    }
extends parts old mid a Full are s = record {
  more = [];
  sets = ap (λ (g : Content). sets_of g.nodes) s.same ∙ sym (append-nil (sets_of old.nodes));
  each = λ i c at. inl (ap (λ (g : Content). slice_get (sets_of g.nodes) i) (sym s.same) ∙ at);
  longer = let l = ap (λ (g : Content). length g.nodes) s.same in omega (arith, l);
  orders = λ i j. ap (λ (g : Content). kind_of g i j) s.same;
  nodes_are = λ was. subst (λ (g : Content). g.nodes ≡ map (node_of parts) (sets_of g.nodes)) (sym s.same) was;
}

-- where added facts are
last_at : (xs : List (List Fact)) (x : List Fact) (n : ℕ) → n ≡ length xs → slice_get (xs ++ x ∷ []) n ≡ Some x
last_at [] x n e = rw e refl
last_at (y ∷ xs) x zero e = absurd (omega (arith, e))
last_at (y ∷ xs) x (suc n) e = last_at xs x n (omega (arith, e))

pub added_at : (parts : Parts) (old mid : Content) (a : List Fact) (added : Added) (p : ℕ) → old.nodes ≡ map (node_of parts) (sets_of old.nodes) → Adds old mid (node_of parts a) added →
    number_in added ≡ Some p → slice_get (sets_of mid.nodes) p ≡ Some a
added_at parts old mid a (New q) p are s is =
    let e : q ≡ p = same_Some _ _ is in
    let sets : sets_of mid.nodes ≡ sets_of old.nodes ++ a ∷ [] = ap (map facts_of) s.nodes ∙ map-append facts_of old.nodes (node_of parts a ∷ []) in
    ap (λ ss. slice_get ss p) sets ∙ last_at (sets_of old.nodes) a p (sym e ∙ (s.place_is ∙ sym (length-map old.nodes facts_of)))
added_at parts old mid a (Known q) p are s is =
    let e : q ≡ p = same_Some _ _ is in
    subst (λ n. slice_get (sets_of mid.nodes) n ≡ Some a) e (ap (λ (ns : List Node). slice_get (map facts_of ns) q) (s.nodes ∙ known_same parts old.nodes q a are s.there) ∙ s.there)
added_at parts old mid a Full p are s is = absurd (none-some p is)

-- what was taken back stays so
takes_stays : (parts : Parts) (old mid : Content) (a c : List Fact) (j : ℕ) → Extends parts old mid a → Takes old j c → Takes mid j c
takes_stays parts old mid a c j e t = record {
  there = λ room. let m = t.there (omega (arith, room, e.longer)) in record { place = m.place; at = kept m.place c m.at };
  ordered = λ i at. elim (e.each i c at) [
    | inl before ↦ e.orders i j ∙ t.ordered i before
    | inr q ↦ let m = t.there q.2 in absurd (q.1.each m.place (m.at ∙ ap (λ x. Some x) (sym q.0)))
  ];
}
  where
    kept : (i : ℕ) (x : List Fact) → slice_get (sets_of old.nodes) i ≡ Some x → slice_get (sets_of mid.nodes) i ≡ Some x
    kept i x at = ap (λ ss. slice_get ss i) e.sets ∙ front_get (sets_of old.nodes) e.more i x at

-- a node came in, without an order yet
pub works_extended : (parts : Parts) (old mid : Content) (place : ℕ) (done : List (List Fact)) (a : List Fact) → Works parts old place done → place < length old.nodes → Extends parts old mid a → IsNode parts a → Works parts mid place done
works_extended parts old mid place done a w lt e node = record {
  goals = (w.goals.0 ++ e.more, e.sets ∙ (ap (λ ss. ss ++ e.more) w.goals.1 ∙ append_assoc _ w.goals.0 e.more));
  nodes_are = e.nodes_are w.nodes_are;
  found = λ c m. elim (e.each m.place c m.at) [
    | inl before ↦ w.found c (record { place = m.place; at = before })
    | inr q ↦ subst (IsNode parts) q.0 node
  ];
  orders = λ i j kind at.
      let g = w.orders i j kind (sym (e.orders i j) ∙ at) in
      record { before = g.before; after = g.after; at_before = kept i g.before g.at_before; at_after = kept j g.after g.at_after; gives = g.gives; kind = e.orders i j ∙ g.kind };
  taken = λ j c b less at g. takes_stays parts old mid a c j e (w.taken j c b less (sym (front j less) ∙ at) g);
  under_way = λ c m. takes_stays parts old mid a c place e (w.under_way c m);
}
  where
    kept : (i : ℕ) (x : List Fact) → slice_get (sets_of old.nodes) i ≡ Some x → slice_get (sets_of mid.nodes) i ≡ Some x
    kept i x at = ap (λ ss. slice_get ss i) e.sets ∙ front_get (sets_of old.nodes) e.more i x at

    front : (j : ℕ) → j < place → slice_get (sets_of mid.nodes) j ≡ slice_get (sets_of old.nodes) j
    front j less =
        let l = length-map old.nodes facts_of in
        ap (λ ss. slice_get ss j) e.sets ∙ slice_get-append_front (sets_of old.nodes) e.more j (omega (arith, l, less, lt))

stronger_greedy : (o : Option Order) → stronger o GreedyNecessary ≡ GreedyNecessary
stronger_greedy None = refl
stronger_greedy (Some Reasonable) = refl
stronger_greedy (Some Natural) = refl
stronger_greedy (Some GreedyNecessary) = refl

done_more : (done : List (List Fact)) (a : List Fact) (P : List Fact → Type 0) → ((c : List Fact) → Among done c → P c) → P a → (c : List Fact) → Among (done ++ a ∷ []) c → P c
done_more done a P each own c m = elim (among_cases done (a ∷ []) c m) [
  | inl l ↦ each c l
  | inr r ↦ subst P (sym (among_one a c r)) own
]

-- and then its order
pub works_ordered : (parts : Parts) (mid new : Content) (p place : ℕ) (done : List (List Fact)) (a b : List Fact) → Works parts mid place done → IsGraph mid → slice_get (sets_of mid.nodes) p ≡ Some a → slice_get (sets_of mid.nodes) place ≡ Some b → GivesGreedy parts a b →
    PutsOrder mid new p place GreedyNecessary → Works parts new place (done ++ a ∷ [])
works_ordered parts mid new p place done a b w graph at_p at_place gives o = record {
  goals = (w.goals.0, same_sets ∙ w.goals.1);
  nodes_are = o.nodes ∙ (w.nodes_are ∙ ap (map (node_of parts)) (sym same_sets));
  found = λ c m. w.found c (record { place = m.place; at = back_at m.place c m.at });
  orders = orders;
  taken = λ j c d less at g. takes j c (w.taken j c d less (back_at j d at) g);
  under_way = done_more done a (Takes new place) (λ c m. takes place c (w.under_way c m)) (record {
    there = λ room. record { place = p; at = to_at p a at_p };
    ordered = λ i at. subst (λ n. kind_of new n place ≡ Some GreedyNecessary) (sym (graph.distinct.each i p a (back_at i a at) at_p)) here;
  });
}
  where
    same_sets : sets_of new.nodes ≡ sets_of mid.nodes
    same_sets = ap (map facts_of) o.nodes

    to_at : (i : ℕ) (c : List Fact) → slice_get (sets_of mid.nodes) i ≡ Some c → slice_get (sets_of new.nodes) i ≡ Some c
    to_at i c at = ap (λ ss. slice_get ss i) same_sets ∙ at

    back_at : (i : ℕ) (c : List Fact) → slice_get (sets_of new.nodes) i ≡ Some c → slice_get (sets_of mid.nodes) i ≡ Some c
    back_at i c at = ap (λ ss. slice_get ss i) (sym same_sets) ∙ at

    here : kind_of new p place ≡ Some GreedyNecessary
    here = o.here ∙ ap (λ k. Some k) (stronger_greedy (kind_of mid p place))

    takes : (j : ℕ) (c : List Fact) → Takes mid j c → Takes new j c
    takes j c t = record {
      there = λ room. let l = ap length o.nodes in let m = t.there (omega (arith, l, room)) in record { place = m.place; at = to_at m.place c m.at };
      ordered = λ i at. elim (cases_eq i p) [
        | inl e ↦ elim (cases_eq j place) [
          | inl f ↦ rw (e, f) here
          | inr ne ↦ o.others i j (λ x y. ne y) ∙ t.ordered i (back_at i c at)
        ]
        | inr ne ↦ o.others i j (λ x y. ne x) ∙ t.ordered i (back_at i c at)
      ];
    }

    kept : (i j : ℕ) (kind : Order) → kind_of mid i j ≡ Some kind → kind_of new i j ≡ kind_of mid i j → IsGreedy parts new i j
    kept i j kind was same =
        let g = w.orders i j kind was in
        record { before = g.before; after = g.after; at_before = to_at i g.before g.at_before; at_after = to_at j g.after g.at_after; gives = g.gives; kind = same ∙ g.kind }

    orders : (i j : ℕ) (kind : Order) → kind_of new i j ≡ Some kind → IsGreedy parts new i j
    orders i j kind at = elim (cases_eq i p) [
      | inl e ↦ elim (cases_eq j place) [
        | inl f ↦ record { before = a; after = b; at_before = rw e (to_at p a at_p); at_after = rw f (to_at place b at_place); gives = gives; kind = rw (e, f) here }
        | inr ne ↦ let same = o.others i j (λ x y. ne y) in kept i j kind (sym same ∙ at) same
      ]
      | inr ne ↦ let same = o.others i j (λ x y. ne x) in kept i j kind (sym same ∙ at) same
    ]

-- or there was no room for it
pub works_full : (parts : Parts) (old mid : Content) (place : ℕ) (done : List (List Fact)) (a : List Fact) → Works parts mid place done → IsFull old mid (node_of parts a) → Works parts mid place (done ++ a ∷ [])
works_full parts old mid place done a w full = record {
  goals = w.goals;
  nodes_are = w.nodes_are;
  found = w.found;
  orders = w.orders;
  taken = w.taken;
  under_way = done_more done a (Takes mid place) w.under_way (record {
    there = λ room. let l = ap (λ (g : Content). length g.nodes) full.same in let m = full.most in absurd (omega (arith, l, m, room));
    ordered = λ i at. absurd (full.absent.each i (ap (λ (g : Content). slice_get (sets_of g.nodes) i) (sym full.same) ∙ at));
  });
}

pub is_full : (old mid : Content) (node : Node) (added : Added) → Adds old mid node added → number_in added ≡ None → IsFull old mid node
is_full old mid node (New q) s is = absurd (none-some q (sym is))
is_full old mid node (Known q) s is = absurd (none-some q (sym is))
is_full old mid node Full s is = s

-- all that a node is taken back to was added
pub works_next : (parts : Parts) (graph : Content) (place : ℕ) (lists : List (List Fact)) → Works parts graph place lists → ((b : List Fact) → slice_get (sets_of graph.nodes) place ≡ Some b → IsTakenBack parts b lists) → Works parts graph (place + 1) []
works_next parts graph place lists w taken_back = record {
  goals = w.goals;
  nodes_are = w.nodes_are;
  found = w.found;
  orders = w.orders;
  taken = λ j a b less at g. elim (cases_eq j place) [
    | inl e ↦
        let own : slice_get (sets_of graph.nodes) place ≡ Some b = subst (λ n. slice_get (sets_of graph.nodes) n ≡ Some b) e at in
        subst (λ n. Takes graph n a) (sym e) (w.under_way a ((taken_back b own).all a g))
    | inr ne ↦ w.taken j a b (omega (arith, less, ne)) at g
  ];
  under_way = λ a m. absurd (among_none a m);
}

-- what a node is taken back to is a set, and another node

pub greedy_set : (parts : Parts) (a b : List Fact) → GivesGreedy parts a b → is_set a ≡ true
greedy_set parts a b (shared free s) = refl
greedy_set parts a b (one_of free s) = and_from _ _ (and_from _ _ (le-leb 1 (length a) (let two = s.some in omega (arith, two))) (le-leb (length a) 4 s.few)) s.ascending

reached_outside : (parts : Parts) (b : List Fact) (f : Fact) → IsReached parts (start_of parts) b f → has b f ≡ false
reached_outside parts b f r = by r.round r.reached
  where
    by : (n : ℕ) → is_reached_in parts (start_of parts) b n f ≡ true → has b f ≡ false
    by zero h = not-true _ (and_parts (list_any (same_fact f) (start_facts parts (start_of parts))) _ h).1
    by (suc n) h = elim (or_cases (is_reached_in parts (start_of parts) b n f) _ h) [
      | inl before ↦ by n before
      | inr now ↦ not-true _ (and_parts (is_given parts (is_reached_in parts (start_of parts) b n) f) _ now).1
    ]

pub never_itself : (parts : Parts) (a b : List Fact) → GivesGreedy parts a b → a ≢ b
never_itself parts a b (shared {fact = f} free s) same =
    both_ways _ (reached_outside parts b f (s.possible.reached f (s.every s.some s.possible))) (subst (λ n. has n f ≡ true) same (has_self f))
never_itself parts a b (one_of free s) same = by a refl
  where
    by : (n : List Fact) → a ≡ n → ⊥
    by [] is = let two = s.some in let e = ap length is in omega (arith, two, e)
    by (f ∷ fs) is =
        let own : has a f ≡ true = subst (λ n. has n f ≡ true) (sym is) (or_left _ _ (same_self f)) in
        let w = s.only f own in
        both_ways _ (reached_outside parts b f (w.possible.reached f w.asked)) (subst (λ n. has n f ≡ true) same own)

-- the facts of a node
pub facts_within : (graph : Content) (place : ℕ) → place < length graph.nodes → (b : List Fact) × (slice_get (sets_of graph.nodes) place ≡ Some b)
facts_within graph place lt = let l = length-map graph.nodes facts_of in (_, read_at (sets_of graph.nodes) place [] (omega (arith, l, lt)))

pub set_within : (graph : Content) (place : ℕ) (b : List Fact) → slice_get (sets_of graph.nodes) place ≡ Some b → place < length graph.nodes
set_within graph place b at = let lt = slice_get_within (sets_of graph.nodes) place b at in let l = length-map graph.nodes facts_of in omega (arith, lt, l)

pub kept_set : (parts : Parts) (old mid : Content) (a : List Fact) (i : ℕ) (x : List Fact) → Extends parts old mid a → slice_get (sets_of old.nodes) i ≡ Some x → slice_get (sets_of mid.nodes) i ≡ Some x
kept_set parts old mid a i x e at = ap (λ ss. slice_get ss i) e.sets ∙ front_get (sets_of old.nodes) e.more i x at

pub stays_at : (old new : Content) (i : ℕ) (x : List Fact) → new.nodes ≡ old.nodes → slice_get (sets_of old.nodes) i ≡ Some x → slice_get (sets_of new.nodes) i ≡ Some x
stays_at old new i x same at = ap (λ (ns : List Node). slice_get (map facts_of ns) i) same ∙ at

-- a node that was there is the one that is
pub stayed : (old new : Content) (place : ℕ) (b : List Fact) → StayNodes old new → place < length old.nodes → slice_get (sets_of new.nodes) place ≡ Some b → slice_get (sets_of old.nodes) place ≡ Some b
stayed old new place b stay lt own = let was = facts_within old place lt in was.1 ∙ (sym (stay place was.0 was.1) ∙ own)

pub still_within : (old new : Content) (place : ℕ) → StayNodes old new → place < length old.nodes → place < length new.nodes
still_within old new place stay lt = let was = facts_within old place lt in set_within new place was.0 (stay place was.0 was.1)

-- nothing is kept yet
pub none_kept : (parts : Parts) (graph : Content) (singles : List (Option Single)) → singles ≡ [] → AreKept parts graph singles
none_kept parts graph singles none = record { each = λ i b s at there. absurd (none-some s (ap (λ ss. slice_get ss i) (sym none) ∙ there)) }

-- what is kept of one node more
pub kept_more : (parts : Parts) (old new : Content) (place : ℕ) (node : List Fact) (singles more : List (Option Single)) → length singles ≡ place → slice_get (sets_of old.nodes) place ≡ Some node → StayNodes old new →
    AreKept parts old singles → Keeps parts node singles more → AreKept parts new more
kept_more parts old new place node singles more long at stay kept k = record { each = λ i b s own there. by i b s own (push_cases singles k.single i s (ap (λ ss. slice_get ss i) (sym k.singles) ∙ there)) }
  where
    lt : place < length old.nodes
    lt = set_within old place node at

    by : (i : ℕ) (b : List Fact) (s : Option Single) → slice_get (sets_of new.nodes) i ≡ Some b → (slice_get singles i ≡ Some s) ⊎ ((k.single ≡ s) × (i ≡ length singles)) → IsKept parts b s
    by i b s own (inl before) =
        let less = slice_get_within singles i s before in
        kept.each i b s (stayed old new i b stay (omega (arith, less, long, lt)) own) before
    by i b s own (inr last) =
        let here : i ≡ place = last.1 ∙ long in
        let same : node ≡ b = same_Some _ _ (sym at ∙ stayed old new place b stay lt (ap (slice_get (sets_of new.nodes)) (sym here) ∙ own)) in
        subst (IsKept parts b) last.0 (subst (λ x. IsKept parts x k.single) same k.kept)

-- one of the facts that a node is taken back to, at a place of their list
module _ (parts : Parts) (old : Content) (place : ℕ) (lists : List (List Fact)) (k : ℕ) (a : List Fact) (lt : place < length old.nodes) (back_to : IsTakenBackAt parts old place lists) (at : slice_get lists k ≡ Some a) where
  pub this_gives : GivesGreedy parts a (facts_within old place lt).0
  this_gives = (back_to (facts_within old place lt).0 (facts_within old place lt).1).each a (record { place = k; at = at })

  module _ (mid : Content) (added : Added) (works : Works parts old place (take k lists)) (adds : Adds old mid (node_of parts a) added) where
    pub this_extends : Extends parts old mid a
    this_extends = extends parts old mid a added works.nodes_are adds

    this_works : Works parts mid place (take k lists)
    this_works = works_extended parts old mid place (take k lists) a works lt this_extends (back (works.found (facts_within old place lt).0 (record { place = place; at = (facts_within old place lt).1 })) this_gives)

    pub this_stays : StayNodes old mid
    this_stays i x there = kept_set parts old mid a i x this_extends there

    pub this_place : slice_get (sets_of mid.nodes) place ≡ Some (facts_within old place lt).0
    this_place = this_stays place (facts_within old place lt).0 (facts_within old place lt).1

    pub this_at : (p : ℕ) → number_in added ≡ Some p → slice_get (sets_of mid.nodes) p ≡ Some a
    this_at p is = added_at parts old mid a added p works.nodes_are adds is

    pub this_other : (p : ℕ) → number_in added ≡ Some p → p ≢ place
    this_other p is same = never_itself parts a (facts_within old place lt).0 this_gives (same_Some _ _ (sym (this_at p is) ∙ (ap (slice_get (sets_of mid.nodes)) same ∙ this_place)))

    pub this_ordered : (p : ℕ) (new : Content) → IsGraph mid → number_in added ≡ Some p → PutsOrder mid new p place GreedyNecessary → Works parts new place (take (k + 1) lists)
    this_ordered p new graph is o = subst (Works parts new place) (sym (take_more_at lists k a at)) (works_ordered parts mid new p place (take k lists) a (facts_within old place lt).0 this_works graph (this_at p is) this_place this_gives o)

    pub this_full : number_in added ≡ None → Works parts mid place (take (k + 1) lists)
    this_full is = subst (Works parts mid place) (sym (take_more_at lists k a at)) (works_full parts old mid place (take k lists) a this_works (is_full old mid (node_of parts a) added adds is))
