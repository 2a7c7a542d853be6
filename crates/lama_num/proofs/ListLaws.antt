-- Laws of lists that every crate uses.
use Rattle.std.specs.Prelude.{◌≡◌, ℕ, ◌<◌, List, [], ◌∷◌, ◌++◌, length, Bool, true, false, ◌&&◌, zero, suc, slice_get, Some, None}
use Rattle.std.proofs.Common.{arith, refl, ◌⊎◌, ap, inl, inr}
use Rattle.std.specs.List.{list_all, list_any}
use Rattle.std.proofs.lemmas.Bool.{or_cases}

-- both tests of two passed
pub both : (a b : Bool) → (a && b) ≡ true → (a ≡ true) × (b ≡ true)
both true b e = (refl, e)
both false b e = let k : false ≡ true = e in cc

-- each element that a test of all passed has it
pub list_all_get : {X : Type 0} (p : X → Bool) (xs : List X) (i : ℕ) (x : X) → list_all p xs ≡ true → slice_get xs i ≡ Some x → p x ≡ true
list_all_get p [] i x all at = let k : None ≡ Some x = at in cc
list_all_get p (y ∷ ys) zero x all at = let here : p y ≡ true = (both (p y) (list_all p ys) all).0 in let k : Some y ≡ Some x = at in let same : y ≡ x = cc in rw (← same) here
list_all_get p (y ∷ ys) (suc i) x all at = list_all_get p ys i x (both (p y) (list_all p ys) all).1 at

-- a place in the front of a longer list
pub slice_get-append_front : {X : Type 0} (xs ys : List X) (k : ℕ) → k < length xs → slice_get (xs ++ ys) k ≡ slice_get xs k
slice_get-append_front [] ys k lt = absurd (omega arith)
slice_get-append_front (x ∷ xs) ys zero lt = refl
slice_get-append_front (x ∷ xs) ys (suc k) lt = slice_get-append_front xs ys k (omega arith)

-- the place behind the front
pub slice_get-append_last : {X : Type 0} (xs : List X) (x : X) → slice_get (xs ++ x ∷ []) (length xs) ≡ Some x
slice_get-append_last [] x = refl
slice_get-append_last (y ∷ ys) x = slice_get-append_last ys x

pub get_push : {A : Type 0} (xs : List A) (x : A) (i : ℕ) (y : A) → slice_get (xs ++ x ∷ []) i ≡ Some y → (slice_get xs i ≡ Some y) ⊎ ((i ≡ length xs) × (y ≡ x))
get_push [] x zero y at = inr (refl, (let is : y ≡ x = cc in is))
get_push [] x (suc i) y at = absurd (cc)
get_push (z ∷ zs) x zero y at = inl at
get_push (z ∷ zs) x (suc i) y at = elim (get_push zs x i y at) [
  | inl before ↦ inl before
  | inr here ↦ inr ((let n : i ≡ length zs = here.0 in let m : suc i ≡ suc (length zs) = ap suc n in m), here.1)
]

-- an element that passes a test
pub any_get : {X : Type 0} (p : X → Bool) (xs : List X) → list_any p xs ≡ true → (i : ℕ) × (x : X) × (slice_get xs i ≡ Some x) × (p x ≡ true)
any_get p [] h = let k : false ≡ true = h in cc
any_get p (x ∷ xs) h = elim (or_cases (p x) (list_any p xs) h) [
  | inl here ↦ (0, x, refl, here)
  | inr there ↦ let r = any_get p xs there in (suc r.0, r.1, r.2, r.3)
]

pub found_at : {X : Type 0} (xs : List X) (i : ℕ) → i < length xs → (x : X) × (slice_get xs i ≡ Some x)
found_at [] i lt = absurd (omega arith)
found_at (x ∷ xs) zero lt = (x, refl)
found_at (x ∷ xs) (suc i) lt = found_at xs i (omega arith)
