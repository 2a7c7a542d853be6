-- Small laws of tests and of lists, for all who go over lists of facts.
use Rattle.std.specs.Prelude.{◌≡◌, ◌≢◌, ℕ, zero, suc, ◌+◌, ◌<◌, ◌⊎◌, List, [], ◌∷◌, length, drop, slice_index, slice_get, Some, None, Bool, true, false, not, ◌&&◌, ◌||◌, nat_eq}
use Rattle.std.specs.List.{list_any}
use Rattle.std.proofs.Common.{arith, refl}
use Rattle.std.proofs.lemmas.Bool.Decides.{nat_tests}

-- two tests that hold, together
pub join : (a b : Bool) → a ≡ true → b ≡ true → (a && b) ≡ true
join a b e h = rw e h

pub denied : (b : Bool) → not b ≡ true → b ≡ false
denied true h = let k : false ≡ true = h in cc
denied false h = refl

-- the same, or not
pub places : (m n : ℕ) → ((m ≡ n) × (nat_eq m n ≡ true)) ⊎ ((m ≢ n) × (nat_eq m n ≡ false))
places m n = grind (arith, nat_tests)

-- the first of what is left of a list
pub drop_within : (xs : List ℕ) (i x : ℕ) → i < length xs → x ≡ slice_index xs i → drop i xs ≡ x ∷ drop (i + 1) xs
drop_within [] i x lt at = absurd (omega arith)
drop_within (y ∷ xs) zero x lt at = let same : x ≡ y = at in cc
drop_within (y ∷ xs) (suc i) x lt at = let z : suc i + 1 ≡ suc (i + 1) = omega arith in rw z (drop_within xs i x (omega arith) at)

-- a test of some element, by its place
pub any_at : {X : Type 0} (p : X → Bool) (xs : List X) (i : ℕ) (x : X) → slice_get xs i ≡ Some x → p x ≡ true → list_any p xs ≡ true
any_at p [] i x at is = let k : None ≡ Some x = at in cc
any_at p (y ∷ xs) zero x at is = let k : Some y ≡ Some x = at in let same : y ≡ x = cc in rw (same, is) refl
any_at p (y ∷ xs) (suc i) x at is = later (p y) (any_at p xs i x at is)
  where
    later : (b : Bool) → list_any p xs ≡ true → (b || list_any p xs) ≡ true
    later true rest = refl
    later false rest = rest
