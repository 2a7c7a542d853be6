-- A list stays without repeats.
use Rattle.std.proofs.Common.{◌≡◌, ℕ, zero, suc, ◌<◌, ◌≤◌, List, [], ◌∷◌, ◌++◌, length, slice_get, Some, Result, Ok, Err, IfOk, OnErr, ◌⊎◌, refl, sym, ap, ◌∙◌, arith, inl, inr}
use Rattle.state_registry.specs.Interning.{Interns, IsAbsent, IsOnce}
use Rattle.state_registry.specs.declared.interned.Interned.{Interned}
use Rattle.state_registry.specs.declared.interned.Interned.TheVariants.{New, Known, Full}

-- what stands at a place of a list with one more at its end
front_or_end : (states : List (List ℕ)) (last packed : List ℕ) (i : ℕ) → slice_get (states ++ last ∷ []) i ≡ Some packed → (slice_get states i ≡ Some packed) ⊎ ((i ≡ length states) × (last ≡ packed))
front_or_end [] last packed zero at = inr (refl, (cc))
front_or_end [] last packed (suc i) at = absurd (cc)
front_or_end (x ∷ states) last packed zero at = inl at
front_or_end (x ∷ states) last packed (suc i) at = elim (front_or_end states last packed i at) [
  | inl here ↦ inl here
  | inr end ↦ inr (ap suc end.0, end.1)
]

pub once_more : (states : List (List ℕ)) (last : List ℕ) → IsOnce states → IsAbsent states last → IsOnce (states ++ last ∷ [])
once_more states last once absent i j packed at_i at_j = elim (front_or_end states last packed i at_i) [
  | inl first ↦ elim (front_or_end states last packed j at_j) [
    | inl second ↦ once i j packed first second
    | inr end ↦ absurd (absent i (first ∙ ap (λ (p : List ℕ). Some p) (sym end.1)))
  ]
  | inr first ↦ elim (front_or_end states last packed j at_j) [
    | inl second ↦ absurd (absent j (second ∙ ap (λ (p : List ℕ). Some p) (sym first.1)))
    | inr end ↦ first.0 ∙ sym end.0
  ]
]

same_once : (states new : List (List ℕ)) → new ≡ states → IsOnce states → IsOnce new
same_once states new same once = rw same once

interned_once : (old new : List (List ℕ)) (most : ℕ) (packed : List ℕ) (interned : Interned) → Interns old most packed interned new → IsOnce old → IsOnce new
interned_once old new most packed (New id) interns once = same_once (old ++ packed ∷ []) new interns.3 (once_more old packed once interns.2)
interned_once old new most packed (Known id) interns once = same_once old new interns.1 once
interned_once old new most packed Full interns once = same_once old new interns.2 once

interned_few : (old new : List (List ℕ)) (most : ℕ) (packed : List ℕ) (interned : Interned) → Interns old most packed interned new → length old ≤ most → length new ≤ most
interned_few old new most packed (New id) interns few = let long : length new ≡ length (old ++ packed ∷ []) = ap length interns.3 in let lt : length old < most = interns.1 in omega (arith, one_longer old packed)
  where
    one_longer : (xs : List (List ℕ)) (x : List ℕ) → length (xs ++ x ∷ []) ≡ suc (length xs)
    one_longer [] x = refl
    one_longer (y ∷ xs) x = ap suc (one_longer xs x)
interned_few old new most packed (Known id) interns few = let long : length new ≡ length old = ap length interns.1 in omega arith
interned_few old new most packed Full interns few = let long : length new ≡ length old = ap length interns.2 in omega arith

pub stays_once : {E : Type 0} (old new : List (List ℕ)) (most : ℕ) (packed : List ℕ) (result : Result Interned E) →
    IfOk result (λ interned. Interns old most packed interned new) → OnErr result (new ≡ old) → IsOnce old → IsOnce new
stays_once old new most packed (Ok interned) ok err once = interned_once old new most packed interned ok once
stays_once old new most packed (Err e) ok err once = same_once old new err once

pub stays_few : {E : Type 0} (old new : List (List ℕ)) (most : ℕ) (packed : List ℕ) (result : Result Interned E) →
    IfOk result (λ interned. Interns old most packed interned new) → OnErr result (new ≡ old) → length old ≤ most → length new ≤ most
stays_few old new most packed (Ok interned) ok err few = interned_few old new most packed interned ok few
stays_few old new most packed (Err e) ok err few = let long : length new ≡ length old = ap length err in omega arith
