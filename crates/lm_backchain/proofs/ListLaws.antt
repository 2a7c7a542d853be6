-- Lists, and which elements they have.
use Rattle.std.proofs.Common.{◌≡◌, ◌∙◌, sym, ap, refl, ℕ, zero, suc, ◌+◌, ◌<◌, ◌≤◌, List, [], ◌∷◌, ◌++◌, length, take, drop, Some, slice_get, get_or, inl, inr, ◌⊎◌, arith}
use Rattle.std.specs.Prelude.{insert}
use Rattle.std.proofs.lemmas.Option.{same_Some, none-some, slice_get_read}
use Rattle.sas_task.specs.declared.contents.Fact.{Fact}
use Rattle.lm_backchain.specs.Backchain.{Among, singles}
use Rattle.lm_graph.proofs.Lists.{get_front as front_get}

pub push_cases : {X : Type 0} (xs : List X) (x : X) (i : ℕ) (y : X) → slice_get (xs ++ x ∷ []) i ≡ Some y → (slice_get xs i ≡ Some y) ⊎ ((x ≡ y) × (i ≡ length xs))
push_cases [] x zero y at = inr (same_Some x y at, refl)
push_cases [] x (suc i) y at = absurd (none-some y at)
push_cases (z ∷ xs) x zero y at = inl at
push_cases (z ∷ xs) x (suc i) y at = elim (push_cases xs x i y at) [ inl old ↦ inl old | inr p ↦ inr (p.0, ap suc p.1) ]

pub back_get : {X : Type 0} (xs ys : List X) (i : ℕ) (x : X) → slice_get ys i ≡ Some x → slice_get (xs ++ ys) (length xs + i) ≡ Some x
back_get [] ys i x at = let z : 0 + i ≡ i = omega arith in rw z at
back_get (y ∷ xs) ys i x at = let z : suc (length xs) + i ≡ suc (length xs + i) = omega arith in rw z (back_get xs ys i x at)

pub append_cases : {X : Type 0} (xs ys : List X) (i : ℕ) (x : X) → slice_get (xs ++ ys) i ≡ Some x → (slice_get xs i ≡ Some x) ⊎ ((j : ℕ) × (slice_get ys j ≡ Some x))
append_cases [] ys i x at = inr (i, at)
append_cases (y ∷ xs) ys zero x at = inl at
append_cases (y ∷ xs) ys (suc i) x at = append_cases xs ys i x at

-- among lists

pub among_front : (xs ys : List (List Fact)) (a : List Fact) → Among xs a → Among (xs ++ ys) a
among_front xs ys a m = record { place = m.place; at = front_get xs ys m.place a m.at }

pub among_back : (xs ys : List (List Fact)) (a : List Fact) → Among ys a → Among (xs ++ ys) a
among_back xs ys a m = record { place = length xs + m.place; at = back_get xs ys m.place a m.at }

pub among_cases : (xs ys : List (List Fact)) (a : List Fact) → Among (xs ++ ys) a → Among xs a ⊎ Among ys a
among_cases xs ys a m = elim (append_cases xs ys m.place a m.at) [
  | inl l ↦ inl (record { place = m.place; at = l })
  | inr r ↦ inr (record { place = r.0; at = r.1 })
]

pub among_one : (x a : List Fact) → Among (x ∷ []) a → a ≡ x
among_one x a m = by m.place m.at
  where
    by : (i : ℕ) → slice_get (x ∷ []) i ≡ Some a → a ≡ x
    by zero at = sym (same_Some x a at)
    by (suc i) at = absurd (none-some a at)

pub among_itself : (x : List Fact) → Among (x ∷ []) x
among_itself x = record { place = 0; at = refl }

pub among_none : (a : List Fact) → Among [] a → ⊥
among_none a m = none-some a m.at

-- a list with an element put in
pub put_cases : (xs : List (List Fact)) (place : ℕ) (x a : List Fact) → Among (insert xs place x) a → Among xs a ⊎ (a ≡ x)
put_cases xs place x a m = elim (among_cases (take place xs) (x ∷ drop place xs) a m) [
  | inl l ↦ inl (record { place = (kept xs place l.place l.at).0; at = (kept xs place l.place l.at).1 })
  | inr r ↦ elim (among_cases (x ∷ []) (drop place xs) a r) [
    | inl here ↦ inr (among_one x a here)
    | inr d ↦ inl (record { place = (dropped xs place d.place d.at).0; at = (dropped xs place d.place d.at).1 })
  ]
]
  where
    kept : (xs : List (List Fact)) (k i : ℕ) → slice_get (take k xs) i ≡ Some a → (j : ℕ) × (slice_get xs j ≡ Some a)
    kept [] zero i at = absurd (none-some a at)
    kept [] (suc k) i at = absurd (none-some a at)
    kept (y ∷ xs) zero i at = absurd (none-some a at)
    kept (y ∷ xs) (suc k) zero at = (0, at)
    kept (y ∷ xs) (suc k) (suc i) at = let r = kept xs k i at in (suc r.0, r.1)

    dropped : (xs : List (List Fact)) (k i : ℕ) → slice_get (drop k xs) i ≡ Some a → (j : ℕ) × (slice_get xs j ≡ Some a)
    dropped [] zero i at = absurd (none-some a at)
    dropped [] (suc k) i at = absurd (none-some a at)
    dropped (y ∷ xs) zero i at = (i, at)
    dropped (y ∷ xs) (suc k) i at = let r = dropped xs k i at in (suc r.0, r.1)

pub put_there : (xs : List (List Fact)) (place : ℕ) (x : List Fact) → Among (insert xs place x) x
put_there xs place x = among_back (take place xs) (x ∷ drop place xs) x (among_front (x ∷ []) (drop place xs) x (among_itself x))

pub put_kept : (xs : List (List Fact)) (place : ℕ) (x a : List Fact) → Among xs a → Among (insert xs place x) a
put_kept xs place x a m = by xs place m.place m.at
  where
    by : (xs : List (List Fact)) (k i : ℕ) → slice_get xs i ≡ Some a → Among (insert xs k x) a
    by [] k i at = absurd (none-some a at)
    by (y ∷ xs) zero i at = record { place = suc i; at = at }
    by (y ∷ xs) (suc k) zero at = record { place = 0; at = at }
    by (y ∷ xs) (suc k) (suc i) at = let r = by xs k i at in record { place = suc r.place; at = r.at }

-- single facts
pub single_at : (facts : List Fact) (i : ℕ) (f : Fact) → slice_get facts i ≡ Some f → slice_get (singles facts) i ≡ Some (f ∷ [])
single_at [] i f at = absurd (none-some f at)
single_at (g ∷ facts) zero f at = ap (λ x. Some (x ∷ [])) (same_Some g f at)
single_at (g ∷ facts) (suc i) f at = single_at facts i f at

pub at_single : (facts : List Fact) (i : ℕ) (a : List Fact) → slice_get (singles facts) i ≡ Some a → (f : Fact) × (slice_get facts i ≡ Some f) × (a ≡ f ∷ [])
at_single [] i a at = absurd (none-some a at)
at_single (g ∷ facts) zero a at = (g, refl, sym (same_Some (g ∷ []) a at))
at_single (g ∷ facts) (suc i) a at = at_single facts i a at

-- what is read
pub item : {X : Type 0} (xs : List X) (i : ℕ) (x y : X) → i < length xs → x ≡ get_or xs i x → y ≡ x → slice_get xs i ≡ Some y
item xs i x y lt is same = slice_get_read xs (length xs) i x refl lt is ∙ ap (λ n. Some n) (sym same)

pub read_at : {X : Type 0} (xs : List X) (i : ℕ) (d : X) → i < length xs → slice_get xs i ≡ Some (get_or xs i d)
read_at [] i d lt = absurd (omega (arith, lt))
read_at (x ∷ xs) zero d lt = refl
read_at (x ∷ xs) (suc i) d lt = read_at xs i d (omega (arith, lt))

pub take_more_at : {X : Type 0} (xs : List X) (i : ℕ) (x : X) → slice_get xs i ≡ Some x → take (i + 1) xs ≡ take i xs ++ x ∷ []
take_more_at [] i x at = absurd (none-some x at)
take_more_at (y ∷ xs) zero x at = ap (λ z. z ∷ []) (same_Some y x at)
take_more_at (y ∷ xs) (suc i) x at = let e : suc i + 1 ≡ suc (i + 1) = omega arith in rw e (ap (λ zs. y ∷ zs) (take_more_at xs i x at))

pub take_whole : {X : Type 0} (xs : List X) (i : ℕ) → length xs ≤ i → take i xs ≡ xs
take_whole [] zero le = refl
take_whole [] (suc i) le = refl
take_whole (x ∷ xs) zero le = absurd (omega (arith, le))
take_whole (x ∷ xs) (suc i) le = ap (λ zs. x ∷ zs) (take_whole xs i (omega (arith, le)))
