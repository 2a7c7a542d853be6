-- The goal facts come in.
use Rattle.std.proofs.Common.{◌≡◌, ◌≢◌, ◌∙◌, sym, ap, refl, subst, ℕ, zero, suc, ◌<◌, ◌≤◌, List, [], ◌∷◌, ◌++◌, length, map, take, Bool, true, false, ◌||◌, not, Some, None, slice_get, inl, inr, arith, if◌then◌else◌, length-append}
use Rattle.std.specs.Prelude.{filter}
use Rattle.std.proofs.lemmas.Bool.{or_cases, or_left, or_right, both_ways, not_from_false}
use Rattle.std.proofs.lemmas.List.{append-nil, length-map, map-append}
use Rattle.std.proofs.lemmas.List.Elements.{filter-append}
use Rattle.std.proofs.lemmas.Option.{none-some}
use Rattle.sas_task.specs.Facts.{same_fact}
use Rattle.sas_task.specs.declared.contents.Fact.{Fact}
use Rattle.sas_task.specs.declared.contents.Parts.{Parts}
use Rattle.relaxed_task.specs.Facts.{distinct_facts}
use Rattle.sas_task.proofs.FactLists.{same-true as facts_equal}
use Rattle.lm_graph.specs.declared.nodes.Node.{Node}
use Rattle.lm_graph.specs.declared.nodes.Added.{Added}
use Rattle.lm_graph.specs.declared.nodes.Added.TheVariants.{New, Known, Full}
use Rattle.lm_graph.specs.Graphs.{Content, kind_of, most_nodes, Adds}
use Rattle.lm_graph.specs.Nodes.{sets_of}
use Rattle.lm_backchain.specs.Backchain.{has, Among, IsNode, goal, node_of, singles}
use Rattle.lm_backchain.specs.Growth.{HasGoals, Works}
use Rattle.lm_backchain.proofs.FactLists.{at_has, has_at, has_self, has_one}
use Rattle.lm_backchain.proofs.NewNodes.{Extends, extends, known_same}
use Rattle.lm_backchain.proofs.ListLaws.{single_at, at_single, among_none}
use Rattle.lm_graph.proofs.Lists.{get_front as front_get}

-- which facts are kept of some

kept_has : (p : Fact → Bool) (facts : List Fact) (f : Fact) → has (filter p facts) f ≡ true → has facts f ≡ true
kept_has p [] f h = h
kept_has p (g ∷ facts) f h = by (λ t. kept_has p facts f t) (p g) h
  where
    by : (has (filter p facts) f ≡ true → has facts f ≡ true) → (b : Bool) → has (if b then g ∷ filter p facts else filter p facts) f ≡ true → has (g ∷ facts) f ≡ true
    by rest true h = elim (or_cases (same_fact f g) (has (filter p facts) f) h) [ inl e ↦ or_left _ _ e | inr t ↦ or_right (same_fact f g) _ (rest t) ]
    by rest false h = or_right (same_fact f g) _ (rest h)

has_kept : (p : Fact → Bool) (facts : List Fact) (f : Fact) → has facts f ≡ true → p f ≡ true → has (filter p facts) f ≡ true
has_kept p [] f h is = h
has_kept p (g ∷ facts) f h is = elim (or_cases (same_fact f g) (has facts f) h) [
  | inl e ↦
      let here : p g ≡ true = ap p (sym (facts_equal f g e)) ∙ is in
      rw here (or_left _ _ e)
  | inr t ↦ by (p g) (has_kept p facts f t is)
]
  where
    by : (b : Bool) → has (filter p facts) f ≡ true → has (if b then g ∷ filter p facts else filter p facts) f ≡ true
    by true h = or_right (same_fact f g) _ h
    by false h = h

-- each once, but all of them

pub distinct_has : (facts : List Fact) (f : Fact) → has facts f ≡ true → has (distinct_facts facts) f ≡ true
distinct_has [] f h = h
distinct_has (g ∷ facts) f h = by (λ t. distinct_has facts f t) (same_fact f g) refl
  where
    by : (has facts f ≡ true → has (distinct_facts facts) f ≡ true) → (b : Bool) → same_fact f g ≡ b → (b || has (filter (λ x. not (same_fact x g)) (distinct_facts facts)) f) ≡ true
    by rest true e = refl
    by rest false e = elim (or_cases (same_fact f g) (has facts f) h) [
      | inl same ↦ absurd (both_ways _ e same)
      | inr t ↦ has_kept (λ x. not (same_fact x g)) (distinct_facts facts) f (rest t) (not_from_false _ e)
    ]

pub has_distinct : (facts : List Fact) (f : Fact) → has (distinct_facts facts) f ≡ true → has facts f ≡ true
has_distinct [] f h = h
has_distinct (g ∷ facts) f h = elim (or_cases (same_fact f g) (has (filter (λ x. not (same_fact x g)) (distinct_facts facts)) f) h) [
  | inl e ↦ or_left _ _ e
  | inr t ↦ or_right (same_fact f g) _ (has_distinct facts f (kept_has (λ x. not (same_fact x g)) (distinct_facts facts) f t))
]

-- a fact more: it is there already, or it goes to the end
pub distinct_more : (facts : List Fact) (f : Fact) → distinct_facts (facts ++ f ∷ []) ≡ (if has facts f then distinct_facts facts else distinct_facts facts ++ f ∷ [])
distinct_more [] f = refl
distinct_more (g ∷ facts) f = ap (λ xs. g ∷ filter (λ x. not (same_fact x g)) xs) (distinct_more facts f) ∙ by (same_fact f g) refl (has facts f) refl
  where
    out : Fact → Bool
    out = λ x. not (same_fact x g)

    one : (b : Bool) → same_fact f g ≡ b → filter (λ x. not (same_fact x g)) (f ∷ []) ≡ (if b then [] else f ∷ [])
    one true e = rw e refl
    one false e = rw e refl

    by : (b : Bool) → same_fact f g ≡ b → (d : Bool) → has facts f ≡ d →
        g ∷ filter (λ x. not (same_fact x g)) (if d then distinct_facts facts else distinct_facts facts ++ f ∷ []) ≡ (if b || d then g ∷ filter (λ x. not (same_fact x g)) (distinct_facts facts) else g ∷ (filter (λ x. not (same_fact x g)) (distinct_facts facts) ++ f ∷ []))
    by true e true h = refl
    by false e true h = refl
    by true e false h = ap (λ xs. g ∷ xs) (filter-append (λ x. not (same_fact x g)) (distinct_facts facts) (f ∷ []) ∙ (ap (λ ys. filter (λ x. not (same_fact x g)) (distinct_facts facts) ++ ys) (one true e) ∙ append-nil _))
    by false e false h = ap (λ xs. g ∷ xs) (filter-append (λ x. not (same_fact x g)) (distinct_facts facts) (f ∷ []) ∙ ap (λ ys. filter (λ x. not (same_fact x g)) (distinct_facts facts) ++ ys) (one false e))

-- the front of a list

take_short : {X : Type 0} (n : ℕ) (xs : List X) → length xs ≤ n → take n xs ≡ xs
take_short zero [] le = refl
take_short zero (x ∷ xs) le = absurd (omega (arith, le))
take_short (suc n) [] le = refl
take_short (suc n) (x ∷ xs) le = ap (λ ys. x ∷ ys) (take_short n xs (omega (arith, le)))

take_full : {X : Type 0} (n : ℕ) (xs ys : List X) → n ≤ length xs → take n (xs ++ ys) ≡ take n xs
take_full zero xs ys le = refl
take_full (suc n) [] ys le = absurd (omega (arith, le))
take_full (suc n) (x ∷ xs) ys le = ap (λ zs. x ∷ zs) (take_full n xs ys (omega (arith, le)))

take_length : {X : Type 0} (n : ℕ) (xs : List X) → length (take n xs) < n → take n xs ≡ xs
take_length zero xs lt = absurd (omega (arith, lt))
take_length (suc n) [] lt = refl
take_length (suc n) (x ∷ xs) lt = ap (λ ys. x ∷ ys) (take_length n xs (omega (arith, lt)))

take_full_of : {X : Type 0} (n : ℕ) (xs : List X) → length (take n xs) ≡ n → n ≤ length xs
take_full_of zero xs e = omega arith
take_full_of (suc n) [] e = absurd (omega (arith, e))
take_full_of (suc n) (x ∷ xs) e = let r = take_full_of n xs (omega (arith, e)) in omega (arith, r)

taken_get : {X : Type 0} (n : ℕ) (xs : List X) (i : ℕ) (x : X) → slice_get (take n xs) i ≡ Some x → slice_get xs i ≡ Some x
taken_get zero xs i x at = absurd (none-some x at)
taken_get (suc n) [] i x at = at
taken_get (suc n) (y ∷ xs) zero x at = at
taken_get (suc n) (y ∷ xs) (suc i) x at = taken_get n xs i x at

-- one goal fact more
module _ (n : ℕ) (goals : List Fact) (f : Fact) (sets : List (List Fact)) (are : sets ≡ take n (singles (distinct_facts goals))) where
  pub goals_known : (i : ℕ) → slice_get sets i ≡ Some (f ∷ []) → sets ≡ take n (singles (distinct_facts (goals ++ f ∷ [])))
  goals_known i at =
      let r = at_single (distinct_facts goals) i (f ∷ []) (taken_get n (singles (distinct_facts goals)) i (f ∷ []) (ap (λ ss. slice_get ss i) (sym are) ∙ at)) in
      let in_front : has (f ∷ []) r.0 ≡ true = subst (λ xs. has xs r.0 ≡ true) (sym r.2) (has_self r.0) in
      let same : r.0 ≡ f = has_one f r.0 in_front in
      let own : has goals f ≡ true = has_distinct goals f (subst (λ x. has (distinct_facts goals) x ≡ true) same (has_at (distinct_facts goals) i r.0 r.1)) in
      are ∙ sym (ap (λ ds. take n (singles ds)) (distinct_more goals f ∙ rw own refl))

  pub goals_new : ((i : ℕ) → slice_get sets i ≢ Some (f ∷ [])) → length sets < n → sets ++ (f ∷ []) ∷ [] ≡ take n (singles (distinct_facts (goals ++ f ∷ [])))
  goals_new off room =
      let whole : take n (singles (distinct_facts goals)) ≡ singles (distinct_facts goals) = take_length n _ (let l = ap length are in omega (arith, l, room)) in
      let all : sets ≡ singles (distinct_facts goals) = are ∙ whole in
      by all (has goals f) refl
    where
      by : sets ≡ singles (distinct_facts goals) → (b : Bool) → has goals f ≡ b → sets ++ (f ∷ []) ∷ [] ≡ take n (singles (distinct_facts (goals ++ f ∷ [])))
      by all true own = let r = at_has (distinct_facts goals) f (distinct_has goals f own) in absurd (off r.0 (ap (λ ss. slice_get ss r.0) all ∙ single_at (distinct_facts goals) r.0 f r.1))
      by all false own =
          let more : singles (distinct_facts (goals ++ f ∷ [])) ≡ singles (distinct_facts goals) ++ (f ∷ []) ∷ [] =
          ap singles (distinct_more goals f ∙ rw own refl) ∙ map-append (λ (x : Fact). x ∷ []) (distinct_facts goals) (f ∷ []) in
          let long : length (singles (distinct_facts goals) ++ (f ∷ []) ∷ []) ≤ n = let l = length-append (singles (distinct_facts goals)) ((f ∷ []) ∷ []) in let k = ap length all in omega (arith, l, k, room) in
          ap (λ ss. ss ++ (f ∷ []) ∷ []) all ∙ sym (ap (take n) more ∙ take_short n _ long)

  pub goals_full : ((i : ℕ) → slice_get sets i ≢ Some (f ∷ [])) → length sets ≡ n → sets ≡ take n (singles (distinct_facts (goals ++ f ∷ [])))
  goals_full off full = by (has goals f) refl
    where
      le : n ≤ length (singles (distinct_facts goals))
      le = take_full_of n _ (ap length (sym are) ∙ full)

      by : (b : Bool) → has goals f ≡ b → sets ≡ take n (singles (distinct_facts (goals ++ f ∷ [])))
      by true own = are ∙ sym (ap (λ ds. take n (singles ds)) (distinct_more goals f ∙ rw own refl))
      by false own =
          let more : singles (distinct_facts (goals ++ f ∷ [])) ≡ singles (distinct_facts goals) ++ (f ∷ []) ∷ [] =
          ap singles (distinct_more goals f ∙ rw own refl) ∙ map-append (λ (x : Fact). x ∷ []) (distinct_facts goals) (f ∷ []) in
          are ∙ sym (ap (take n) more ∙ take_full n _ _ le)

abbrev facts_of : Node → List Fact
facts_of n = n.facts

pub goals_more : (parts : Parts) (goals : List Fact) (f : Fact) (old new : Content) (added : Added) → HasGoals parts goals old → Adds old new (node_of parts (f ∷ [])) added → HasGoals parts (goals ++ f ∷ []) new
goals_more parts goals f old new added h a = record {
  sets = by added a;
  nodes_are = e.nodes_are h.nodes_are;
  none = λ i j. e.orders i j ∙ h.none i j;
}
  where
    e : Extends parts old new (f ∷ [])
    e = extends parts old new (f ∷ []) added h.nodes_are a

    l : length (sets_of old.nodes) ≡ length old.nodes
    l = length-map old.nodes facts_of

    by : (x : Added) → Adds old new (node_of parts (f ∷ [])) x → sets_of new.nodes ≡ take most_nodes (singles (distinct_facts (goals ++ f ∷ [])))
    by (New p) s =
        ap (map facts_of) s.nodes ∙ (map-append facts_of old.nodes (node_of parts (f ∷ []) ∷ [])
        ∙ goals_new most_nodes goals f (sets_of old.nodes) h.sets s.absent.each (let r = s.room in omega (arith, l, r)))
    by (Known p) s =
        ap (map facts_of) (s.nodes ∙ known_same parts old.nodes p (f ∷ []) h.nodes_are s.there)
        ∙ goals_known most_nodes goals f (sets_of old.nodes) h.sets p s.there
    by Full s =
        ap (λ (g : Content). sets_of g.nodes) s.same
        ∙ goals_full most_nodes goals f (sets_of old.nodes) h.sets s.absent.each (l ∙ s.most)

pub no_goals : (parts : Parts) (graph : Content) → graph.nodes ≡ [] → graph.rows ≡ [] → HasGoals parts [] graph
no_goals parts graph nodes rows = record {
  sets = ap (map facts_of) nodes ∙ sym (take_short most_nodes [] (omega arith));
  nodes_are = nodes ∙ sym (ap (λ ns. map (node_of parts) (map facts_of ns)) nodes);
  none = λ i j. rw rows (nothing j i);
}
  where
    nothing : (j i : ℕ) → kind_of (record { nodes = graph.nodes; rows = [] }) i j ≡ None
    nothing zero i = refl
    nothing (suc j) i = refl

-- all goal facts are there: nothing was taken back yet
pub works_begins : (parts : Parts) (graph : Content) → HasGoals parts parts.goal graph → Works parts graph 0 []
works_begins parts graph h = record {
  goals = ([], h.sets ∙ sym (append-nil _));
  nodes_are = h.nodes_are;
  found = λ facts m.
      let r = at_single (distinct_facts parts.goal) m.place facts (taken_get most_nodes (singles (distinct_facts parts.goal)) m.place facts (ap (λ ss. slice_get ss m.place) (sym h.sets) ∙ m.at)) in
      subst (IsNode parts) (sym r.2) (goal (has_distinct parts.goal r.0 (has_at (distinct_facts parts.goal) m.place r.0 r.1)));
  orders = λ i j kind at. absurd (none-some kind (sym (h.none i j) ∙ at));
  taken = λ j a b less at g. absurd (omega (arith, less));
  under_way = λ a m. absurd (among_none a m);
}

-- where there is room, each goal fact is a node
pub goal_among : (parts : Parts) (graph : Content) (place : ℕ) (done : List (List Fact)) (f : Fact) → Works parts graph place done → length graph.nodes < most_nodes → has parts.goal f ≡ true → Among (sets_of graph.nodes) (f ∷ [])
goal_among parts graph place done f w room own =
    let l = length-map graph.nodes facts_of in
    let k = ap length w.goals.1 ∙ length-append (take most_nodes (singles (distinct_facts parts.goal))) w.goals.0 in
    let whole : take most_nodes (singles (distinct_facts parts.goal)) ≡ singles (distinct_facts parts.goal) = take_length most_nodes _ (omega (arith, l, k, room)) in
    let r = at_has (distinct_facts parts.goal) f (distinct_has parts.goal f own) in
    record {
      place = r.0;
      at = ap (λ ss. slice_get ss r.0) (w.goals.1 ∙ ap (λ ss. ss ++ w.goals.0) whole) ∙ front_get (singles (distinct_facts parts.goal)) w.goals.0 r.0 (f ∷ []) (single_at (distinct_facts parts.goal) r.0 f r.1);
    }
