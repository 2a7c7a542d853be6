-- Elements of lists, by place.
use Rattle.std.proofs.Common.{◌≡◌, ◌≢◌, ℕ, zero, suc, ◌+◌, ◌<◌, ◌≤◌, Bool, true, false, not, cond, List, [], ◌∷◌, ◌++◌, map, length, slice_get, Some, refl, ap, sym, ◌∙◌, subst, arith, inl, inr, ◌⊎◌, Option, None}
use Rattle.std.specs.Prelude.{slice_set, ◌≢◌, is_some, option_map}
use Rattle.std.specs.List.{filter, list_any, position_or_len, range_with_len, flat_map, list_all}
use Rattle.std.proofs.lemmas.Bool.{cases_Bool, cases_eq, or_parts, and_parts, and_from}
use Rattle.std.proofs.lemmas.Option.{slice_get-map, slice_get_within}
use Rattle.std.proofs.lemmas.List.Folds.{list_all-append}
use Rattle.lama_num.proofs.ListLaws.{found_at, slice_get-append_last as slice_get-push_at}

-- where an element stands
abbrev pub StandsIn : {X : Type 0} → List X → X → Type 0
StandsIn xs x = (i : ℕ) × (slice_get xs i ≡ Some x)

pub slice_get-push_other : {X : Type 0} (xs : List X) (x : X) (i : ℕ) → i ≢ length xs → slice_get (xs ++ x ∷ []) i ≡ slice_get xs i
slice_get-push_other [] x zero h = absurd (h refl)
slice_get-push_other [] x (suc i) h = refl
slice_get-push_other (y ∷ ys) x zero h = refl
slice_get-push_other (y ∷ ys) x (suc i) h = slice_get-push_other ys x i (λ e. h (ap suc e))

pub slice_get-push_below : {X : Type 0} (xs : List X) (x : X) (i : ℕ) (y : X) → slice_get xs i ≡ Some y → slice_get (xs ++ x ∷ []) i ≡ Some y
slice_get-push_below xs x i y h = slice_get-push_other xs x i (let l = slice_get_within xs i y h in λ e. omega (arith, l, e)) ∙ h

-- the element put at the end, or one before
pub push_cases : {X : Type 0} (xs : List X) (x : X) (j : ℕ) (y : X) → slice_get (xs ++ x ∷ []) j ≡ Some y → ((j ≡ length xs) × (y ≡ x)) ⊎ (slice_get xs j ≡ Some y)
push_cases xs x j y e =
    elim (cases_eq j (length xs)) [
      | inl here ↦
          let f : Some y ≡ Some x = sym e ∙ ap (slice_get (xs ++ x ∷ [])) here ∙ slice_get-push_at xs x in
          let g : y ≡ x = cc in inl (here, g)
      | inr there ↦ inr (sym (slice_get-push_other xs x j there) ∙ e)
    ]

pub one_at : {X : Type 0} (x y : X) (i : ℕ) → slice_get (x ∷ []) i ≡ Some y → (i ≡ 0) × (x ≡ y)
one_at x y zero h = let e : x ≡ y = cc in (refl, e)
one_at x y (suc i) h = cc

-- an element that is set
pub slice_get-set_same : {X : Type 0} (xs : List X) (i : ℕ) (x : X) → i < length xs → slice_get (slice_set xs i x) i ≡ Some x
slice_get-set_same [] i x h = absurd (omega arith)
slice_get-set_same (y ∷ ys) zero x h = refl
slice_get-set_same (y ∷ ys) (suc i) x h = slice_get-set_same ys i x (omega arith)

pub slice_get-set_other : {X : Type 0} (xs : List X) (i j : ℕ) (x : X) → j ≢ i → slice_get (slice_set xs i x) j ≡ slice_get xs j
slice_get-set_other [] i j x h = refl
slice_get-set_other (y ∷ ys) zero zero x h = absurd (h refl)
slice_get-set_other (y ∷ ys) zero (suc j) x h = refl
slice_get-set_other (y ∷ ys) (suc i) zero x h = refl
slice_get-set_other (y ∷ ys) (suc i) (suc j) x h = slice_get-set_other ys i j x (λ e. h (ap suc e))

-- the first place at which a test passes
position-here : {X : Type 0} (p : X → Bool) (y : X) (ys : List X) → p y ≡ true → position_or_len p (y ∷ ys) ≡ 0
position-here p y ys t = ap (λ b. cond (not b) (1 + position_or_len p ys) 0) t

position-next : {X : Type 0} (p : X → Bool) (y : X) (ys : List X) → p y ≡ false → position_or_len p (y ∷ ys) ≡ suc (position_or_len p ys)
position-next p y ys f = let e : position_or_len p (y ∷ ys) ≡ 1 + position_or_len p ys = ap (λ b. cond (not b) (1 + position_or_len p ys) 0) f in omega (arith, e)

pub position_passes : {X : Type 0} (p : X → Bool) (xs : List X) (x : X) → slice_get xs (position_or_len p xs) ≡ Some x → p x ≡ true
position_passes p [] x h = cc
position_passes p (y ∷ ys) x h =
    elim (cases_Bool (p y)) [
      | inl t ↦
          let at : slice_get (y ∷ ys) 0 ≡ Some x = ap (slice_get (y ∷ ys)) (sym (position-here p y ys t)) ∙ h in
          let e : y ≡ x = cc in subst (λ z. p z ≡ true) e t
      | inr f ↦ position_passes p ys x (ap (slice_get (y ∷ ys)) (sym (position-next p y ys f)) ∙ h)
    ]

pub position_first : {X : Type 0} (p : X → Bool) (xs : List X) (i : ℕ) (x : X) → slice_get xs i ≡ Some x → p x ≡ true → position_or_len p xs ≤ i
position_first p [] i x h t = cc
position_first p (y ∷ ys) zero x h t =
    let e : y ≡ x = cc in
    omega (arith, position-here p y ys (subst (λ z. p z ≡ true) (sym e) t))
position_first p (y ∷ ys) (suc i) x h t =
    elim (cases_Bool (p y)) [
      | inl f ↦ omega (arith, position-here p y ys f)
      | inr f ↦ omega (arith, position-next p y ys f, position_first p ys i x h t)
    ]

pub position_within : {X : Type 0} (p : X → Bool) (xs : List X) → position_or_len p xs ≤ length xs
position_within p [] = omega arith
position_within p (y ∷ ys) =
    elim (cases_Bool (p y)) [
      | inl f ↦ omega (arith, position-here p y ys f)
      | inr f ↦ omega (arith, position-next p y ys f, position_within p ys)
    ]

-- filters
pub filter-keep : {X : Type 0} (f : X → Bool) (x : X) (xs : List X) → f x ≡ true → filter f (x ∷ xs) ≡ x ∷ filter f xs
filter-keep f x xs e = ap (λ (b : Bool). cond b (x ∷ filter f xs) (filter f xs)) e

pub filter-skip : {X : Type 0} (f : X → Bool) (x : X) (xs : List X) → f x ≡ false → filter f (x ∷ xs) ≡ filter f xs
filter-skip f x xs e = ap (λ (b : Bool). cond b (x ∷ filter f xs) (filter f xs)) e

pub filter-same : {X : Type 0} (f g : X → Bool) (xs : List X) → ((x : X) → f x ≡ g x) → filter f xs ≡ filter g xs
filter-same f g [] h = refl
filter-same f g (x ∷ xs) h = ap (λ (b : Bool). cond b (x ∷ filter f xs) (filter f xs)) (h x) ∙ ap (λ ys. cond (g x) (x ∷ ys) ys) (filter-same f g xs h)

pub filter-none : {X : Type 0} (b : X → Bool) (xs : List X) → list_any b xs ≡ false → filter (λ x. not (b x)) xs ≡ xs
filter-none b [] h = refl
filter-none b (x ∷ xs) h = let p = or_parts (b x) (list_any b xs) h in filter-keep (λ y. not (b y)) x xs (ap not p.0) ∙ ap (λ ys. x ∷ ys) (filter-none b xs p.1)

pub in-filter : {X : Type 0} (f : X → Bool) (xs : List X) (i : ℕ) (x : X) → slice_get xs i ≡ Some x → f x ≡ true → StandsIn (filter f xs) x
in-filter f [] i x e t = cc
in-filter f (y ∷ ys) zero x e t =
    let g : y ≡ x = cc in
    (0, ap (λ zs. slice_get zs 0) (filter-keep f y ys (ap f g ∙ t)) ∙ ap Some g)
in-filter f (y ∷ ys) (suc i) x e t =
    let rest = in-filter f ys i x e t in
    elim (cases_Bool (f y)) [
      | inl k ↦ (suc rest.0, ap (λ zs. slice_get zs (suc rest.0)) (filter-keep f y ys k) ∙ rest.1)
      | inr k ↦ (rest.0, ap (λ zs. slice_get zs rest.0) (filter-skip f y ys k) ∙ rest.1)
    ]

-- joined lists
pub in-left : {X : Type 0} (xs ys : List X) (i : ℕ) (x : X) → slice_get xs i ≡ Some x → slice_get (xs ++ ys) i ≡ Some x
in-left [] ys i x e = cc
in-left (z ∷ zs) ys zero x e = e
in-left (z ∷ zs) ys (suc i) x e = in-left zs ys i x e

pub in-right : {X : Type 0} (xs ys : List X) (i : ℕ) (x : X) → slice_get ys i ≡ Some x → StandsIn (xs ++ ys) x
in-right [] ys i x e = (i, e)
in-right (z ∷ zs) ys i x e = let r = in-right zs ys i x e in (suc r.0, r.1)

pub in-range : (a len i : ℕ) → i < len → slice_get (range_with_len a len) i ≡ Some (a + i)
in-range a zero i h = absurd (omega arith)
in-range a (suc len) zero h = ap Some (omega arith)
in-range a (suc len) (suc i) h = in-range (a + 1) len i (omega arith) ∙ ap Some (omega arith)

pub in-map : {X Y : Type 0} (f : X → Y) (xs : List X) (x : X) → StandsIn xs x → StandsIn (map f xs) (f x)
in-map f xs x at = (at.0, slice_get-map f xs at.0 ∙ ap (option_map f) at.1)

pub from-map : {X Y : Type 0} (f : X → Y) (xs : List X) (i : ℕ) (y : Y) → slice_get (map f xs) i ≡ Some y → (x : X) × (slice_get xs i ≡ Some x) × (f x ≡ y)
from-map f [] i y e = cc
from-map f (x ∷ xs) zero y e = let g : f x ≡ y = cc in (x, refl, g)
from-map f (x ∷ xs) (suc i) y e = from-map f xs i y e

-- a test that no element passes
pub none-at : {X : Type 0} (b : X → Bool) (xs : List X) (i : ℕ) (x : X) → list_any b xs ≡ false → slice_get xs i ≡ Some x → b x ≡ false
none-at b [] i x h e = cc
none-at b (y ∷ ys) zero x h e = let f : y ≡ x = cc in subst (λ z. b z ≡ false) f (or_parts (b y) (list_any b ys) h).0
none-at b (y ∷ ys) (suc i) x h e = none-at b ys i x (or_parts (b y) (list_any b ys) h).1 e

pub from-filter : {X : Type 0} (f : X → Bool) (xs : List X) (i : ℕ) (x : X) → slice_get (filter f xs) i ≡ Some x → (f x ≡ true) × StandsIn xs x
from-filter f [] i x e = cc
from-filter f (y ∷ ys) i x e =
    let rest = λ (j : ℕ) (h : slice_get (filter f ys) j ≡ Some x). from-filter f ys j x h in
    elim (cases_Bool (f y)) [
      | inl t ↦ keep t rest i (ap (λ zs. slice_get zs i) (sym (filter-keep f y ys t)) ∙ e)
      | inr n ↦ let r = rest i (ap (λ zs. slice_get zs i) (sym (filter-skip f y ys n)) ∙ e) in (r.0, (suc r.1.0, r.1.1))
    ]
  where
    keep : f y ≡ true → ((j : ℕ) → slice_get (filter f ys) j ≡ Some x → (f x ≡ true) × StandsIn ys x) → (j : ℕ) → slice_get (y ∷ filter f ys) j ≡ Some x → (f x ≡ true) × StandsIn (y ∷ ys) x
    keep t rest zero h = let g : y ≡ x = cc in (subst (λ z. f z ≡ true) g t, (0, h))
    keep t rest (suc j) h = let r = rest j h in (r.0, (suc r.1.0, r.1.1))

from-append : {X : Type 0} (xs ys : List X) (i : ℕ) (x : X) → slice_get (xs ++ ys) i ≡ Some x → StandsIn xs x ⊎ StandsIn ys x
from-append [] ys i x e = inr (i, e)
from-append (z ∷ zs) ys zero x e = inl (0, e)
from-append (z ∷ zs) ys (suc i) x e = elim (from-append zs ys i x e) [ inl s ↦ inl (suc s.0, s.1) | inr s ↦ inr s ]

pub from-flat_map : {X Y : Type 0} (f : X → List Y) (xs : List X) (i : ℕ) (y : Y) → slice_get (flat_map f xs) i ≡ Some y → (j : ℕ) × (x : X) × (slice_get xs j ≡ Some x) × StandsIn (f x) y
from-flat_map f [] i y e = cc
from-flat_map f (x ∷ xs) i y e =
    elim (from-append (f x) (flat_map f xs) i y e) [
      | inl s ↦ (0, x, refl, s)
      | inr s ↦ let r = from-flat_map f xs s.0 y s.1 in (suc r.0, r.1, r.2, r.3)
    ]

pub there_is : {X : Type 0} (o : Option X) → is_some o ≡ true → (x : X) × (o ≡ Some x)
there_is None e = let k : false ≡ true = e in cc
there_is (Some x) e = (x, refl)

pub all-weaker : {X : Type 0} (a b : X → Bool) (xs : List X) → ((x : X) → a x ≡ true → b x ≡ true) → list_all a xs ≡ true → list_all b xs ≡ true
all-weaker a b [] h e = refl
all-weaker a b (x ∷ xs) h e = let p = and_parts (a x) (list_all a xs) e in and_from _ _ (h x p.0) (all-weaker a b xs h p.1)

pub all-join : {X : Type 0} (a : X → Bool) (xs ys : List X) → list_all a xs ≡ true → list_all a ys ≡ true → list_all a (xs ++ ys) ≡ true
all-join a xs ys p q = list_all-append a xs ys ∙ and_from _ _ p q
