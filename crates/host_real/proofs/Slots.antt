-- Lists of slots without one of them.
use Rattle.std.proofs.Common.{◌≡◌, ℕ, ◌<◌, zero, suc, Bool, true, false, cond, List, [], ◌∷◌, map, length, get_or, Some, not, nat_eq, refl, ap, sym, ◌∙◌, arith}
use Rattle.std.specs.List.{filter, remove, position}
use Rattle.std.proofs.lemmas.List.Quantifiers.{position-Some}
use Rattle.host_real.specs.Children.{without}

-- an element that the test refuses may be taken out first
pub filter-remove : {X : Type 0} (f : X → ℕ) (p : ℕ → Bool) (xs : List X) (i : ℕ) (d : X) → i < length xs → p (f (get_or xs i d)) ≡ false →
    filter p (map f (remove xs i)) ≡ filter p (map f xs)
filter-remove f p [] i d h e = absurd (omega arith)
filter-remove f p (x ∷ xs) zero d h e = rw e refl
filter-remove f p (x ∷ xs) (suc i) d h e = ap (λ rest. cond (p (f x)) (f x ∷ rest) rest) (filter-remove f p xs i d (omega arith) e)

-- a filter by what the elements are mapped to
pub map-filter : {X : Type 0} (f : X → ℕ) (p : ℕ → Bool) (xs : List X) → map f (filter (λ x. p (f x)) xs) ≡ filter p (map f xs)
map-filter f p [] = refl
map-filter f p (x ∷ xs) = step (p (f x)) (map-filter f p xs)
  where
    step : (b : Bool) → map f (filter (λ x. p (f x)) xs) ≡ filter p (map f xs) →
        map f (cond b (x ∷ filter (λ x. p (f x)) xs) (filter (λ x. p (f x)) xs)) ≡ cond b (f x ∷ filter p (map f xs)) (filter p (map f xs))
    step true e = ap (λ rest. f x ∷ rest) e
    step false e = e

-- the first element of a slot may be taken out first
pub taken_first : {X : Type 0} (f : X → ℕ) (slot : ℕ) (seen xs rest : List X) (i : ℕ) (d : X) → seen ≡ xs → Some i ≡ position (λ x. nat_eq (f x) slot) seen → rest ≡ remove xs i →
    without slot (map f rest) ≡ without slot (map f xs)
taken_first f slot seen xs rest i d same e r =
    let found = position-Some (λ x. nat_eq (f x) slot) xs i d (sym (e ∙ ap (λ l. position (λ x. nat_eq (f x) slot) l) same)) in
    ap (λ l. without slot (map f l)) r ∙ filter-remove f (λ s. not (nat_eq s slot)) xs i d found.0 (ap not found.1)
