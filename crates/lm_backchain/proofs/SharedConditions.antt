-- What lists of conditions ask for, and the sets of one predicate.
use Rattle.std.proofs.Common.{◌≡◌, ◌∙◌, sym, ap, refl, subst, ℕ, suc, ◌+◌, ◌<◌, ◌≤◌, List, [], ◌∷◌, ◌++◌, length, take, Bool, true, false, ◌&&◌, ◌||◌, nat_eq, Some, None, slice_get, inl, inr, ◌⊎◌, arith}
use Rattle.std.specs.Prelude.{insert}
use Rattle.std.specs.List.{list_all}
use Rattle.std.proofs.lemmas.Bool.{and_parts, and_from, or_cases, or_left, or_right, both_ways, eqb-true}
use Rattle.std.proofs.lemmas.Option.{same_Some, none-some}
use Rattle.std.proofs.lemmas.List.{map-append}
use Rattle.lama_num.proofs.ListLaws.{list_all_get}
use Rattle.sas_task.specs.WellFormed.{is_fact}
use Rattle.sas_task.specs.Facts.{same_fact, predicate_of}
use Rattle.sas_task.specs.declared.contents.Fact.{Fact}
use Rattle.sas_task.specs.declared.contents.Parts.{Parts}
use Rattle.relaxed_task.specs.Facts.{over_facts}
use Rattle.sas_task.proofs.FactLists.{same-true as facts_equal}
use Rattle.relaxed_task.proofs.PlanLaws.{has_append, all_has, all_from}
use Rattle.lm_graph.specs.Nodes.{is_ascending}
use Rattle.lm_backchain.specs.Asked.{IsOf, IsFactOf, IsAsked, Collects, AllAsk, IsSetFor, all_have, AddsSet, HasSets, PutsSet, AreFacts}
use Rattle.lm_backchain.specs.Backchain.{has, is_open, Among, singles, IsPossibleFirst, IsShared, IsOfOnePredicate, GivesGreedy, shared, one_of}
use Rattle.lm_backchain.specs.Firsts.{AreFirsts}
use Rattle.lm_backchain.specs.Growth.{IsTakenBack}
use Rattle.lm_backchain.proofs.FactLists.{same_self, has_one, has_self, has_at, at_has}
use Rattle.lm_backchain.proofs.ListLaws.{among_front, among_back, among_cases, among_one, among_itself, among_none, single_at, at_single, take_more_at, put_kept, put_there, put_cases}
use Rattle.lm_backchain.proofs.Ordered.{shorter, same_ascending}

-- collecting

pub collects_none : (old : List Fact) (wanted : Fact → Type 0) → is_ascending old ≡ true → ((f : Fact) → wanted f → ⊥) → Collects old old wanted
collects_none old wanted up none = record { ascending = up; sound = λ f h. inl h; kept = λ f h. h; full = λ few f w. absurd (none f w); longer = omega arith }

-- no more is put where there are more than four
pub collects_full : (old : List Fact) (wanted : Fact → Type 0) → is_ascending old ≡ true → 4 < length old → Collects old old wanted
collects_full old wanted up many = record { ascending = up; sound = λ f h. inl h; kept = λ f h. h; full = λ few f w. absurd (omega (arith, few, many)); longer = omega arith }

pub collects_one : (parts : Parts) (predicate : List ℕ) (old new : List Fact) (fact : Fact) → is_ascending old ≡ true → is_ascending new ≡ true → ((other : Fact) → has new other ≡ (same_fact other fact || has old other)) → predicate_of parts fact ≡ Some predicate →
    Collects old new (IsFactOf parts predicate fact)
collects_one parts predicate old new fact up new_up is of = record {
  ascending = new_up;
  sound = λ f h. elim (or_cases (same_fact f fact) (has old f) (sym (is f) ∙ h)) [
    | inl e ↦ let same = facts_equal f fact e in inr (same, ap (predicate_of parts) same ∙ of)
    | inr t ↦ inl t
  ];
  kept = kept;
  full = λ few f w. is f ∙ or_left _ _ (subst (λ z. same_fact z fact ≡ true) (sym w.0) (same_self fact));
  longer = shorter old new up new_up kept;
}
  where
    kept : (f : Fact) → has old f ≡ true → has new f ≡ true
    kept f h = is f ∙ or_right (same_fact f fact) _ h

pub collects_join : (a b c : List Fact) (one two both : Fact → Type 0) → Collects a b one → Collects b c two → ((f : Fact) → both f → one f ⊎ two f) → ((f : Fact) → one f ⊎ two f → both f) → Collects a c both
collects_join a b c one two both x y split join = record {
  ascending = y.ascending;
  sound = λ f h. elim (y.sound f h) [
    | inl mid ↦ elim (x.sound f mid) [ inl old ↦ inl old | inr w ↦ inr (join f (inl w)) ]
    | inr w ↦ inr (join f (inr w))
  ];
  kept = λ f h. y.kept f (x.kept f h);
  full = λ few f w. elim (split f w) [
    | inl v ↦ let l = y.longer in y.kept f (x.full (omega (arith, few, l)) f v)
    | inr v ↦ y.full few f v
  ];
  longer = let l = x.longer in let m = y.longer in omega (arith, l, m);
}

has_more : (facts : List Fact) (x f : Fact) → has (facts ++ x ∷ []) f ≡ true → (has facts f ≡ true) ⊎ (f ≡ x)
has_more facts x f h = elim (or_cases (has facts f) (has (x ∷ []) f) (sym (has_append over_facts facts (x ∷ []) f) ∙ h)) [ inl l ↦ inl l | inr r ↦ inr (has_one x f r) ]

has_front : (facts : List Fact) (x f : Fact) → has facts f ≡ true → has (facts ++ x ∷ []) f ≡ true
has_front facts x f h = has_append over_facts facts (x ∷ []) f ∙ or_left _ _ h

has_last : (facts : List Fact) (x : Fact) → has (facts ++ x ∷ []) x ≡ true
has_last facts x = has_append over_facts facts (x ∷ []) x ∙ or_right (has facts x) _ (has_self x)

-- one condition more
pub of_more : (parts : Parts) (predicate : List ℕ) (old mid new facts : List Fact) (x : Fact) → Collects old mid (IsOf parts predicate facts) → Collects mid new (IsFactOf parts predicate x) → Collects old new (IsOf parts predicate (facts ++ x ∷ []))
of_more parts predicate old mid new facts x a b = collects_join old mid new (IsOf parts predicate facts) (IsFactOf parts predicate x) (IsOf parts predicate (facts ++ x ∷ [])) a b
    (λ f w. elim (has_more facts x f w.asked) [ inl l ↦ inl (record { is_of = w.is_of; asked = l }) | inr e ↦ inr (e, w.is_of) ])
    (λ f w. elim w [
      | inl l ↦ record { is_of = l.is_of; asked = has_front facts x f l.asked }
      | inr r ↦ record { is_of = r.1; asked = subst (λ z. has (facts ++ x ∷ []) z ≡ true) (sym r.0) (has_last facts x) }
    ])

-- one list more
pub asked_more : (parts : Parts) (predicate : List ℕ) (old mid new : List Fact) (lists : List (List Fact)) (conds : List Fact) → Collects old mid (IsAsked parts predicate lists) → Collects mid new (IsOf parts predicate conds) → Collects old new (IsAsked parts predicate (lists ++ conds ∷ []))
asked_more parts predicate old mid new lists conds a b = collects_join old mid new (IsAsked parts predicate lists) (IsOf parts predicate conds) (IsAsked parts predicate (lists ++ conds ∷ [])) a b
    (λ f w. elim (among_cases lists (conds ∷ []) w.conds w.among) [
      | inl l ↦ inl (record { conds = w.conds; among = l; is = w.is })
      | inr r ↦ inr (subst (λ cs. IsOf parts predicate cs f) (among_one conds w.conds r) w.is)
    ])
    (λ f w. elim w [
      | inl l ↦ record { conds = l.conds; among = among_front lists _ l.conds l.among; is = l.is }
      | inr r ↦ record { conds = conds; among = among_back lists _ conds (among_itself conds); is = r }
    ])

-- the set

module _ (parts : Parts) (lists : List (List Fact)) (predicate : List ℕ) where
  -- there is at most one
  pub one_set : (x y : List Fact) → IsSetFor parts lists predicate x → IsSetFor parts lists predicate y → x ≡ y
  one_set x y s t = same_ascending x y s.ascending t.ascending (λ f h. t.all f (s.only f h)) (λ f h. s.all f (t.only f h))

  pub set_from : (set : List Fact) → Collects [] set (IsAsked parts predicate lists) → AllAsk parts predicate lists → 2 ≤ length set → length set ≤ 4 → is_open parts set ≡ true → IsSetFor parts lists predicate set
  set_from set c every some few open_too = record {
    every = every;
    all = λ f w. c.full few f w;
    only = λ f h. elim (c.sound f h) [ inl n ↦ (let k : false ≡ true = n in absurd (both_ways false refl k)) | inr w ↦ w ];
    ascending = c.ascending;
    some = some;
    few = few;
    are_open = open_too;
  }

  -- and it is what was collected
  pub collected_is : (set other : List Fact) → Collects [] set (IsAsked parts predicate lists) → IsSetFor parts lists predicate other → set ≡ other
  collected_is set other c s =
      let inside : (f : Fact) → has set f ≡ true → has other f ≡ true = λ f h. elim (c.sound f h) [ inl n ↦ (let k : false ≡ true = n in absurd (both_ways false refl k)) | inr w ↦ s.all f w ] in
      let le = shorter set other c.ascending s.ascending inside in
      same_ascending set other c.ascending s.ascending inside (λ f h. c.full (let m = s.few in omega (arith, le, m)) f (s.only f h))

  pub adds_set : (old new : List (List Fact)) (set : List Fact) → Collects [] set (IsAsked parts predicate lists) → IsSetFor parts lists predicate set → PutsSet old new set → AddsSet parts lists predicate old new
  adds_set old new set c s p = record {
    kept = p.kept;
    there = λ other t. subst (Among new) (one_set set other s t) p.there;
    only = λ other m. elim (p.only other m) [ inl l ↦ inl l | inr e ↦ inr (subst (IsSetFor parts lists predicate) (sym e) s) ];
  }

  pub adds_none : (old : List (List Fact)) (set : List Fact) → Collects [] set (IsAsked parts predicate lists) → (IsSetFor parts lists predicate set → ⊥) → AddsSet parts lists predicate old old
  adds_none old set c none = record {
    kept = λ other m. m;
    there = λ other t. absurd (none (subst (IsSetFor parts lists predicate) (sym (collected_is set other c t)) t));
    only = λ other m. inl m;
  }

module _ (parts : Parts) (lists : List (List Fact)) where
  pub no_sets : HasSets parts lists [] []
  no_sets = record { all = λ seed predicate set h of s. (let k : false ≡ true = h in absurd (both_ways false refl k)); only = λ set m. absurd (among_none set m) }

  pub sets_more : (seeds : List Fact) (seed : Fact) (predicate : List ℕ) (old new : List (List Fact)) → predicate_of parts seed ≡ Some predicate → HasSets parts lists seeds old → AddsSet parts lists predicate old new → HasSets parts lists (seeds ++ seed ∷ []) new
  sets_more seeds seed predicate old new of h a = record {
    all = λ other p set own is s. elim (has_more seeds seed other own) [
      | inl l ↦ a.kept set (h.all other p set l is s)
      | inr e ↦
          let same : predicate ≡ p = same_Some _ _ (sym of ∙ (ap (predicate_of parts) (sym e) ∙ is)) in
          a.there set (subst (λ q. IsSetFor parts lists q set) (sym same) s)
    ];
    only = λ set m. elim (a.only set m) [ inl l ↦ h.only set l | inr s ↦ (predicate, s) ];
  }

  pub sets_same : (seeds : List Fact) (seed : Fact) (sets : List (List Fact)) → predicate_of parts seed ≡ None → HasSets parts lists seeds sets → HasSets parts lists (seeds ++ seed ∷ []) sets
  sets_same seeds seed sets of h = record {
    all = λ other p set own is s. elim (has_more seeds seed other own) [
      | inl l ↦ h.all other p set l is s
      | inr e ↦ absurd (none-some p (sym of ∙ (ap (predicate_of parts) (sym e) ∙ is)))
    ];
    only = h.only;
  }

-- what a node is taken back to

all_have-get : (lists : List (List Fact)) (f : Fact) (conds : List Fact) → all_have lists f ≡ true → Among lists conds → has conds f ≡ true
all_have-get lists f conds all m = list_all_get (λ cs. has cs f) lists m.place conds all m.at

all_have-from : (lists : List (List Fact)) (f : Fact) → ((conds : List Fact) → Among lists conds → has conds f ≡ true) → all_have lists f ≡ true
all_have-from [] f each = refl
all_have-from (cs ∷ lists) f each = and_from _ _ (each cs (record { place = 0; at = refl })) (all_have-from lists f (λ conds m. each conds (record { place = suc m.place; at = m.at })))

module _ (parts : Parts) (node : List Fact) (lists : List (List Fact)) (firsts : AreFirsts parts node lists) where
  set_to : (predicate : List ℕ) (set : List Fact) → IsSetFor parts lists predicate set → IsOfOnePredicate parts node set
  set_to predicate set s = record {
    predicate = predicate;
    every = λ conds first. let c = s.every conds (firsts.all conds first) in (c.0, c.1.asked, c.1.is_of);
    all = λ f w. s.all f (record { conds = w.conds; among = firsts.all w.conds w.possible; is = record { is_of = w.is_of; asked = w.asked } });
    only = λ f h. let a = s.only f h in record { is_of = a.is.is_of; conds = a.conds; possible = firsts.each a.conds a.among; asked = a.is.asked };
    ascending = s.ascending;
    some = s.some;
    few = s.few;
    are_open = s.are_open;
  }

  to_set : (set : List Fact) (s : IsOfOnePredicate parts node set) → IsSetFor parts lists s.predicate set
  to_set set s = record {
    every = λ conds m. let c = s.every conds (firsts.each conds m) in (c.0, record { is_of = c.2; asked = c.1 });
    all = λ f a. s.all f (record { is_of = a.is.is_of; conds = a.conds; possible = firsts.each a.conds a.among; asked = a.is.asked });
    only = λ f h. let w = s.only f h in record { conds = w.conds; among = firsts.all w.conds w.possible; is = record { is_of = w.is_of; asked = w.asked } };
    ascending = s.ascending;
    some = s.some;
    few = s.few;
    are_open = s.are_open;
  }

  -- nothing, where there is no possible first achiever
  pub taken_back_none : lists ≡ [] → IsTakenBack parts node []
  taken_back_none none = record { each = λ a m. absurd (among_none a m); all = λ a g. absurd (by a node g (λ conds first. among_none conds (subst (λ ls. Among ls conds) none (firsts.all conds first)))) }
    where
      by : (a b : List Fact) → GivesGreedy parts a b → ((conds : List Fact) → IsPossibleFirst parts b conds → ⊥) → ⊥
      by a b (shared free s) nobody = nobody s.some s.possible
      by a b (one_of free s) nobody = first_of a s.some (λ f h. let w = s.only f h in nobody w.conds w.possible)
        where
          first_of : (set : List Fact) → 2 ≤ length set → ((f : Fact) → has set f ≡ true → ⊥) → ⊥
          first_of [] two none = omega (arith, two)
          first_of (f ∷ set) two none = none f (or_left _ _ (same_self f))

  pub taken_back_from : (front facts : List Fact) (sets : List (List Fact)) → is_open parts node ≡ true → slice_get lists 0 ≡ Some front → ((f : Fact) → has facts f ≡ (has front f && all_have lists f)) → HasSets parts lists front sets →
      IsTakenBack parts node (singles facts ++ sets)
  taken_back_from front facts sets free at same h = record {
    each = λ a m. elim (among_cases (singles facts) sets a m) [
      | inl l ↦
          let r = at_single facts l.place a l.at in
          let own = and_parts (has front r.0) (all_have lists r.0) (sym (same r.0) ∙ has_at facts l.place r.0 r.1) in
          subst (λ x. GivesGreedy parts x node) (sym r.2) (shared free (record {
            some = front;
            possible = firsts.each front (record { place = 0; at = at });
            every = λ conds first. all_have-get lists r.0 conds own.1 (firsts.all conds first);
          }))
      | inr r ↦ let s = h.only a r in one_of free (set_to s.0 a s.1)
    ];
    all = λ a g. by a node g refl;
  }
    where
      by : (a b : List Fact) → GivesGreedy parts a b → b ≡ node → Among (singles facts ++ sets) a
      by a b (shared {fact = f} open_b s) is =
          let mine : IsShared parts node f = subst (λ x. IsShared parts x f) is s in
          let own = same f ∙ and_from _ _ (mine.every front (firsts.each front (record { place = 0; at = at }))) (all_have-from lists f (λ conds m. mine.every conds (firsts.each conds m))) in
          let r = at_has facts f own in
          among_front (singles facts) sets (f ∷ []) (record { place = r.0; at = single_at facts r.0 f r.1 })
      by a b (one_of open_b s) is =
          let mine : IsOfOnePredicate parts node a = subst (λ x. IsOfOnePredicate parts x a) is s in
          let c = mine.every front (firsts.each front (record { place = 0; at = at })) in
          among_back (singles facts) sets a (h.all c.0 mine.predicate a c.1 c.2 (to_set a mine))

-- a node that isn't open is taken back to nothing
pub taken_back_closed : (parts : Parts) (node : List Fact) → is_open parts node ≡ false → IsTakenBack parts node []
taken_back_closed parts node closed = record { each = λ a m. absurd (among_none a m); all = λ a g. absurd (by a node g closed) }
  where
    by : (a b : List Fact) → GivesGreedy parts a b → is_open parts b ≡ false → ⊥
    by a b (shared free s) closed = both_ways _ closed free
    by a b (one_of free s) closed = both_ways _ closed free

-- steps of loops

pub none_more : (parts : Parts) (predicate : List ℕ) (facts : List Fact) (i : ℕ) (x : Fact) → slice_get facts i ≡ Some x → ((f : Fact) → IsOf parts predicate (take i facts) f → ⊥) → (predicate_of parts x ≡ Some predicate → ⊥) → (f : Fact) → IsOf parts predicate (take (i + 1) facts) f → ⊥
none_more parts predicate facts i x at none not_x f w =
    elim (has_more (take i facts) x f (subst (λ fs. has fs f ≡ true) (take_more_at facts i x at) w.asked)) [
      | inl l ↦ none f (record { is_of = w.is_of; asked = l })
      | inr e ↦ not_x (ap (predicate_of parts) (sym e) ∙ w.is_of)
    ]

pub ask_more : (parts : Parts) (predicate : List ℕ) (lists : List (List Fact)) (i : ℕ) (x : List Fact) → slice_get lists i ≡ Some x → AllAsk parts predicate (take i lists) → (f : Fact) × IsOf parts predicate x f → AllAsk parts predicate (take (i + 1) lists)
ask_more parts predicate lists i x at all own conds m =
    elim (among_cases (take i lists) (x ∷ []) conds (subst (λ ls. Among ls conds) (take_more_at lists i x at) m)) [
      | inl l ↦ all conds l
      | inr r ↦ subst (λ cs. (f : Fact) × IsOf parts predicate cs f) (sym (among_one x conds r)) own
    ]

pub of_next : (parts : Parts) (predicate : List ℕ) (old mid new facts : List Fact) (i : ℕ) (x : Fact) → slice_get facts i ≡ Some x → Collects old mid (IsOf parts predicate (take i facts)) → Collects mid new (IsFactOf parts predicate x) → Collects old new (IsOf parts predicate (take (i + 1) facts))
of_next parts predicate old mid new facts i x at a b = subst (λ fs. Collects old new (IsOf parts predicate fs)) (sym (take_more_at facts i x at)) (of_more parts predicate old mid new (take i facts) x a b)

pub asked_next : (parts : Parts) (predicate : List ℕ) (old mid new : List Fact) (lists : List (List Fact)) (i : ℕ) (x : List Fact) → slice_get lists i ≡ Some x → Collects old mid (IsAsked parts predicate (take i lists)) → Collects mid new (IsOf parts predicate x) → Collects old new (IsAsked parts predicate (take (i + 1) lists))
asked_next parts predicate old mid new lists i x at a b = subst (λ ls. Collects old new (IsAsked parts predicate ls)) (sym (take_more_at lists i x at)) (asked_more parts predicate old mid new (take i lists) x a b)

pub no_asked : (parts : Parts) (predicate : List ℕ) (f : Fact) → IsAsked parts predicate [] f → ⊥
no_asked parts predicate f w = among_none w.conds w.among

pub no_of : (parts : Parts) (predicate : List ℕ) (f : Fact) → IsOf parts predicate [] f → ⊥
no_of parts predicate f w = let k : false ≡ true = w.asked in both_ways false refl k

-- what is collected are facts of the task
pub collected_facts : (parts : Parts) (predicate : List ℕ) (lists : List (List Fact)) (set : List Fact) → AreFacts parts.variables lists → Collects [] set (IsAsked parts predicate lists) → list_all (is_fact parts.variables) set ≡ true
collected_facts parts predicate lists set there c = all_from over_facts (is_fact parts.variables) set (λ f h. elim (c.sound f h) [
  | inl n ↦ (let k : false ≡ true = n in absurd (both_ways false refl k))
  | inr w ↦ all_has over_facts (is_fact parts.variables) w.conds f (there w.conds w.among) w.is.asked
])

-- one shared fact more
pub shared_more : (lists : List (List Fact)) (front : List Fact) (i : ℕ) (x : Fact) (old new : List Fact) → slice_get front i ≡ Some x → ((f : Fact) → has old f ≡ (has (take i front) f && all_have lists f)) →
    ((f : Fact) → has new f ≡ ((same_fact f x && all_have lists x) || has old f)) → (f : Fact) → has new f ≡ (has (take (i + 1) front) f && all_have lists f)
shared_more lists front i x old new at was is f =
    is f ∙ (ap (λ b. (same_fact f x && all_have lists x) || b) (was f) ∙ (by (same_fact f x) refl (has (take i front) f) ∙ ap (λ b. b && all_have lists f) (sym (ap (λ fs. has fs f) (take_more_at front i x at) ∙ has_append over_facts (take i front) (x ∷ []) f))))
  where
    by : (b : Bool) → same_fact f x ≡ b → (h : Bool) → ((b && all_have lists x) || (h && all_have lists f)) ≡ ((h || (b || false)) && all_have lists f)
    by true e h = let same : all_have lists x ≡ all_have lists f = ap (all_have lists) (sym (facts_equal f x e)) in rw same (at_true (all_have lists f) h)
      where
        at_true : (a h : Bool) → (a || (h && a)) ≡ ((h || true) && a)
        at_true true true = refl
        at_true true false = refl
        at_true false true = refl
        at_true false false = refl
    by false e true = refl
    by false e false = refl

pub single_more : (facts : List Fact) (i : ℕ) (x : Fact) → slice_get facts i ≡ Some x → singles (take (i + 1) facts) ≡ singles (take i facts) ++ (x ∷ []) ∷ []
single_more facts i x at = ap singles (take_more_at facts i x at) ∙ map-append (λ (f : Fact). f ∷ []) (take i facts) (x ∷ [])

pub puts_set : (old new : List (List Fact)) (place : ℕ) (set : List Fact) → new ≡ insert old place set → PutsSet old new set
puts_set old new place set is = subst (λ n. PutsSet old n set) (sym is) (record {
  kept = λ other m. put_kept old place set other m;
  there = put_there old place set;
  only = λ other m. put_cases old place set other m;
})

pub and_yes : (a b c : Bool) → b ≡ true → (a || c) ≡ ((a && b) || c)
and_yes true b c is = rw is refl
and_yes false b c is = refl

pub and_no : (a b c : Bool) → b ≡ false → c ≡ ((a && b) || c)
and_no true b c is = rw is refl
and_no false b c is = refl

pub nothing_there : (lists : List (List Fact)) → nat_eq (length lists) 0 ≡ true → lists ≡ []
nothing_there [] is = refl
nothing_there (x ∷ lists) is = let e = eqb-true (length (x ∷ lists)) 0 is in absurd (omega (arith, e))

pub something_there : (lists : List (List Fact)) → nat_eq (length lists) 0 ≡ false → 0 < length lists
something_there [] is = let k : true ≡ false = is in cc
something_there (x ∷ lists) is = omega arith
