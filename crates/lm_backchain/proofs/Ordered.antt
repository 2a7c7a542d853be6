-- Ascending lists of facts.
use Rattle.std.proofs.Common.{◌≡◌, ◌∙◌, sym, ap, refl, subst, ℕ, zero, suc, ◌<◌, ◌≤◌, List, [], ◌∷◌, length, Bool, true, false, ◌||◌, nat_eq, nat_lt, inl, inr, ◌⊎◌, arith}
use Rattle.std.specs.Prelude.{insert}
use Rattle.std.proofs.lemmas.Bool.{and_parts, and_from, or_cases, or_left, or_right, eqb-true, eq-eqb, ltb-true, lt-ltb, cases_order, both_ways}
use Rattle.sas_task.specs.Facts.{same_fact}
use Rattle.sas_task.specs.declared.contents.Fact.{Fact}
use Rattle.sas_task.proofs.FactLists.{same-true as facts_equal}
use Rattle.lm_graph.specs.Nodes.{is_less, is_ascending}
use Rattle.lm_backchain.specs.Backchain.{has}
use Rattle.lm_backchain.specs.Places.{IsPlaceFor, is_at}
use Rattle.lm_backchain.proofs.FactLists.{same_self}

-- what it is to be less
record Less (a b : Fact) : Type 0 where
  holds : (a.var < b.var) ⊎ ((a.var ≡ b.var) × (a.val < b.val))

less_from : (a b : Fact) → is_less a b ≡ true → Less a b
less_from a b h = record {
  holds = elim (or_cases (nat_lt a.var b.var) _ h) [
    | inl v ↦ inl (ltb-true _ _ v)
    | inr p ↦ let q = and_parts (nat_eq a.var b.var) (nat_lt a.val b.val) p in inr (eqb-true _ _ q.0, ltb-true _ _ q.1)
  ];
}

less_to : (a b : Fact) → Less a b → is_less a b ≡ true
less_to a b l = elim l.holds [
  | inl v ↦ or_left _ _ (lt-ltb _ _ v)
  | inr p ↦ or_right (nat_lt a.var b.var) _ (and_from _ _ (eq-eqb _ _ p.0) (lt-ltb _ _ p.1))
]

not_self : (a : Fact) → is_less a a ≡ true → ⊥
not_self a h = elim (less_from a a h).holds [ inl v ↦ omega arith | inr p ↦ let q = p.1 in omega (arith, q) ]

less_trans : (a b c : Fact) → is_less a b ≡ true → is_less b c ≡ true → is_less a c ≡ true
less_trans a b c p q = less_to a c (record { holds = by (less_from a b p).holds (less_from b c q).holds })
  where
    by : (a.var < b.var) ⊎ ((a.var ≡ b.var) × (a.val < b.val)) → (b.var < c.var) ⊎ ((b.var ≡ c.var) × (b.val < c.val)) → (a.var < c.var) ⊎ ((a.var ≡ c.var) × (a.val < c.val))
    by (inl x) (inl y) = inl (omega (arith, x, y))
    by (inl x) (inr y) = let e = y.0 in inl (omega (arith, x, e))
    by (inr x) (inl y) = let e = x.0 in inl (omega (arith, y, e))
    by (inr x) (inr y) = let v = x.1 in let w = y.1 in inr (x.0 ∙ y.0, omega (arith, v, w))

-- one is less, or they are the same
compared : (a b : Fact) → (is_less a b ≡ true) ⊎ ((a ≡ b) ⊎ (is_less b a ≡ true))
compared a b = elim (cases_order a.var b.var) [
  | inl e ↦ elim (cases_order a.val b.val) [
    | inl f ↦ inr (inl (facts_equal a b (and_from _ _ (eq-eqb _ _ e) (eq-eqb _ _ f))))
    | inr (inl lt) ↦ inl (less_to a b (record { holds = inr (e, lt) }))
    | inr (inr gt) ↦ inr (inr (less_to b a (record { holds = inr (sym e, gt) })))
  ]
  | inr (inl lt) ↦ inl (less_to a b (record { holds = inl lt }))
  | inr (inr gt) ↦ inr (inr (less_to b a (record { holds = inl gt })))
]

pub tail_ascends : (f : Fact) (facts : List Fact) → is_ascending (f ∷ facts) ≡ true → is_ascending facts ≡ true
tail_ascends f [] h = refl
tail_ascends f (g ∷ facts) h = (and_parts (is_less f g) _ h).1

-- the first is less than each other
head_less : (f : Fact) (facts : List Fact) (g : Fact) → is_ascending (f ∷ facts) ≡ true → has facts g ≡ true → is_less f g ≡ true
head_less f [] g h own = let k : false ≡ true = own in cc
head_less f (x ∷ facts) g h own =
    let p = and_parts (is_less f x) (is_ascending (x ∷ facts)) h in
    elim (or_cases (same_fact g x) (has facts g) own) [
      | inl e ↦ subst (λ z. is_less f z ≡ true) (sym (facts_equal g x e)) p.0
      | inr there ↦ less_trans f x g p.0 (head_less x facts g p.1 there)
    ]

has_or : (x g : Fact) (facts : List Fact) → has (x ∷ facts) g ≡ true → (g ≡ x) ⊎ (has facts g ≡ true)
has_or x g facts h = elim (or_cases (same_fact g x) (has facts g) h) [ inl e ↦ inl (facts_equal g x e) | inr t ↦ inr t ]

-- ascending facts that are all among others are no more
pub shorter : (xs ys : List Fact) → is_ascending xs ≡ true → is_ascending ys ≡ true → ((f : Fact) → has xs f ≡ true → has ys f ≡ true) → length xs ≤ length ys
shorter [] ys p q in_ys = omega arith
shorter (x ∷ xs) [] p q in_ys = let k : false ≡ true = in_ys x (or_left _ _ (same_self x)) in absurd (both_ways false refl k)
shorter (x ∷ xs) (y ∷ ys) p q in_ys = by (compared x y) (λ r. shorter xs ys (tail_ascends x xs p) (tail_ascends y ys q) r) (λ r. shorter (x ∷ xs) ys p (tail_ascends y ys q) r)
  where
    -- a fact of the first list that is above y is among the rest
    rest : (f : Fact) → has (x ∷ xs) f ≡ true → is_less y f ≡ true → has ys f ≡ true
    rest f own above = elim (has_or y f ys (in_ys f own)) [
      | inl e ↦ absurd (not_self y (subst (λ z. is_less y z ≡ true) e above))
      | inr t ↦ t
    ]

    by : (is_less x y ≡ true) ⊎ ((x ≡ y) ⊎ (is_less y x ≡ true)) → (((f : Fact) → has xs f ≡ true → has ys f ≡ true) → length xs ≤ length ys) → (((f : Fact) → has (x ∷ xs) f ≡ true → has ys f ≡ true) → length (x ∷ xs) ≤ length ys) → length (x ∷ xs) ≤ length (y ∷ ys)
    by (inl lt) tails other = elim (has_or y x ys (in_ys x (or_left _ _ (same_self x)))) [
      | inl e ↦ absurd (not_self x (subst (λ z. is_less x z ≡ true) (sym e) lt))
      | inr t ↦ absurd (not_self x (less_trans x y x lt (head_less y ys x q t)))
    ]
    by (inr (inl e)) tails other = let r = tails (λ f own. rest f (or_right (same_fact f x) _ own) (subst (λ z. is_less z f ≡ true) e (head_less x xs f p own))) in omega (arith, r)
    by (inr (inr gt)) tails other =
        let r = other (λ f own. rest f own (elim (has_or x f xs own) [
          | inl e ↦ subst (λ z. is_less y z ≡ true) (sym e) gt
          | inr t ↦ less_trans y x f gt (head_less x xs f p t)
        ])) in
        omega (arith, r)

-- ascending lists of the same facts are one
pub same_ascending : (xs ys : List Fact) → is_ascending xs ≡ true → is_ascending ys ≡ true → ((f : Fact) → has xs f ≡ true → has ys f ≡ true) → ((f : Fact) → has ys f ≡ true → has xs f ≡ true) → xs ≡ ys
same_ascending [] [] p q to from = refl
same_ascending [] (y ∷ ys) p q to from = let k : false ≡ true = from y (or_left _ _ (same_self y)) in absurd (both_ways false refl k)
same_ascending (x ∷ xs) [] p q to from = let k : false ≡ true = to x (or_left _ _ (same_self x)) in absurd (both_ways false refl k)
same_ascending (x ∷ xs) (y ∷ ys) p q to from =
    let tails = same_ascending xs ys (tail_ascends x xs p) (tail_ascends y ys q)
    (λ f own. inside y ys f (to f (or_right (same_fact f x) _ own)) (λ e. not_self x (subst (λ z. is_less x z ≡ true) (e ∙ sym same) (head_less x xs f p own))))
    (λ f own. inside x xs f (from f (or_right (same_fact f y) _ own)) (λ e. not_self y (subst (λ z. is_less y z ≡ true) (e ∙ same) (head_less y ys f q own)))) in
    ap (λ z. z ∷ xs) same ∙ ap (λ zs. y ∷ zs) tails
  where
    inside : (z : Fact) (zs : List Fact) (f : Fact) → has (z ∷ zs) f ≡ true → (f ≡ z → ⊥) → has zs f ≡ true
    inside z zs f h ne = elim (has_or z f zs h) [ inl e ↦ absurd (ne e) | inr t ↦ t ]

    same : x ≡ y
    same = elim (has_or y x ys (to x (or_left _ _ (same_self x)))) [
      | inl e ↦ e
      | inr t ↦ elim (has_or x y xs (from y (or_left _ _ (same_self y)))) [
        | inl e ↦ sym e
        | inr u ↦ absurd (not_self x (less_trans x y x (head_less x xs y p u) (head_less y ys x q t)))
      ]
    ]

-- a fact that is put where it belongs

pub inserted_has : (facts : List Fact) (place : ℕ) (fact other : Fact) → has (insert facts place fact) other ≡ (same_fact other fact || has facts other)
inserted_has [] zero fact other = refl
inserted_has [] (suc place) fact other = refl
inserted_has (x ∷ facts) zero fact other = refl
inserted_has (x ∷ facts) (suc place) fact other = ap (λ b. same_fact other x || b) (inserted_has facts place fact other) ∙ swap (same_fact other x) (same_fact other fact) (has facts other)
  where
    swap : (a b c : Bool) → (a || (b || c)) ≡ (b || (a || c))
    swap true true c = refl
    swap true false c = refl
    swap false b c = refl

pub inserted_ascends : (facts : List Fact) (place : ℕ) (fact : Fact) → is_ascending facts ≡ true → IsPlaceFor facts fact place → is_at facts place fact ≡ false → is_ascending (insert facts place fact) ≡ true
inserted_ascends [] zero fact up p new = refl
inserted_ascends [] (suc place) fact up p new = absurd (omega (arith, p.within))
inserted_ascends (x ∷ facts) zero fact up p new = elim (compared fact x) [
  | inl lt ↦ and_from _ _ lt up
  | inr (inl e) ↦ absurd (both_ways (same_fact fact x) new (subst (λ z. same_fact fact z ≡ true) e (same_self fact)))
  | inr (inr gt) ↦ absurd (both_ways _ (p.next x refl) gt)
]
inserted_ascends (x ∷ facts) (suc place) fact up p new =
    by facts place (inserted_ascends facts place fact (tail_ascends x facts up) (record { within = omega (arith, p.within); below = λ i other lt at. p.below (suc i) other (omega arith) at; next = λ other at. p.next other at }) new) up
  where
    first : is_less x fact ≡ true
    first = p.below 0 x (omega arith) refl

    by : (rest : List Fact) (k : ℕ) → is_ascending (insert rest k fact) ≡ true → is_ascending (x ∷ rest) ≡ true → is_ascending (x ∷ insert rest k fact) ≡ true
    by [] zero h u = and_from _ _ first h
    by [] (suc k) h u = and_from _ _ first h
    by (y ∷ rest) zero h u = and_from _ _ first h
    by (y ∷ rest) (suc k) h u = and_from _ _ (and_parts (is_less x y) _ u).0 h

-- one that is there already
pub at_has : (facts : List Fact) (place : ℕ) (fact other : Fact) → is_at facts place fact ≡ true → has facts other ≡ (same_fact other fact || has facts other)
at_has facts place fact other at = by (same_fact other fact) refl
  where
    own : (xs : List Fact) (k : ℕ) → is_at xs k fact ≡ true → has xs fact ≡ true
    own [] k h = let n : false ≡ true = none k h in cc
      where
        none : (k : ℕ) → is_at [] k fact ≡ true → false ≡ true
        none zero h = h
        none (suc k) h = h
    own (x ∷ xs) zero h = or_left _ _ h
    own (x ∷ xs) (suc k) h = or_right (same_fact fact x) _ (own xs k h)

    by : (b : Bool) → same_fact other fact ≡ b → has facts other ≡ (b || has facts other)
    by true e = subst (λ z. has facts z ≡ true) (sym (facts_equal other fact e)) (own facts place at)
    by false e = refl
