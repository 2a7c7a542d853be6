-- An operator that is among the applicable ones can be applied.
use Rattle.std.proofs.Common.{◌≡◌, ℕ, Bool, true, List, subst}
use Rattle.std.specs.List.{Contains, filter}
use Rattle.std.proofs.lemmas.List.Elements.{All-contains, filter_passes}

pub passes : (p : ℕ → Bool) (xs found : List ℕ) (x : ℕ) → found ≡ filter p xs → Contains found x → p x ≡ true
passes p xs found x is at =
    All-contains (λ y. p y ≡ true) (filter p xs) x (filter_passes p xs) (subst (λ (ys : List ℕ). Contains ys x) is at)
