-- Steps of the loops over operators, lists, guides and visits.
use Rattle.std.proofs.Common.{◌≡◌, ℕ, ◌+◌, ◌<◌, Bool, true, false, cond, List, [], ◌∷◌, ◌++◌, take, get_or, length, slice_get, reverse, Some, ap, sym, ◌∙◌, subst}
use Rattle.std.specs.Prelude.{filter}
use Rattle.std.proofs.lemmas.List.{append-nil, append_assoc, take_more, reverse-append}
use Rattle.std.proofs.lemmas.List.Elements.{filter-append}
use Rattle.lazy_search.specs.declared.paths.Origin.{Origin}
use Rattle.lazy_search.specs.Origins.{Traced}
use Rattle.lazy_search.specs.Origins.Traced.{first, later}

-- one operator more that is kept, or isn't
pub kept_more : (f : ℕ → Bool) (xs kept : List ℕ) (i : ℕ) → i < length xs → f (get_or xs i 0) ≡ true → kept ≡ filter f (take i xs) → kept ++ get_or xs i 0 ∷ [] ≡ filter f (take (i + 1) xs)
kept_more f xs kept i l t is =
    ap (λ (ys : List ℕ). ys ++ get_or xs i 0 ∷ []) is
    ∙ sym (ap (filter f) (take_more xs i 0 l) ∙ filter-append f (take i xs) (get_or xs i 0 ∷ []) ∙ ap (λ (b : Bool). filter f (take i xs) ++ cond b (get_or xs i 0 ∷ []) []) t)

pub kept_same : (f : ℕ → Bool) (xs kept : List ℕ) (i : ℕ) → i < length xs → f (get_or xs i 0) ≡ false → kept ≡ filter f (take i xs) → kept ≡ filter f (take (i + 1) xs)
kept_same f xs kept i l t is =
    is
    ∙ sym (ap (filter f) (take_more xs i 0 l) ∙ filter-append f (take i xs) (get_or xs i 0 ∷ []) ∙ ap (λ (b : Bool). filter f (take i xs) ++ cond b (get_or xs i 0 ∷ []) []) t ∙ append-nil (filter f (take i xs)))

-- one visit further back
pub traced_back : (origins : List Origin) (visit at : ℕ) (came : Origin) (path more : List ℕ) → 0 < at → slice_get origins at ≡ Some came → ((front : List ℕ) → Traced origins at front → Traced origins visit (front ++ reverse path)) → more ≡ path ++ came.op ∷ []
    → (front : List ℕ) → Traced origins came.origin front → Traced origins visit (front ++ reverse more)
traced_back origins visit at came path more lt read so_far is front t =
    subst (Traced origins visit)
    (append_assoc front (came.op ∷ []) (reverse path) ∙ ap (λ (xs : List ℕ). front ++ xs) (sym (ap reverse is ∙ reverse-append path (came.op ∷ []))))
    (so_far (front ++ came.op ∷ []) (later at came front lt read t))

pub traced_whole : (origins : List Origin) (visit at : ℕ) (path : List ℕ) → at ≡ 0 → ((front : List ℕ) → Traced origins at front → Traced origins visit (front ++ reverse path)) → Traced origins visit (reverse path)
traced_whole origins visit at path is so_far = so_far [] (subst (λ (j : ℕ). Traced origins j []) (sym is) first)
