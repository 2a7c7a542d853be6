-- A loop that changes each element of a list in place.
use Rattle.std.specs.Prelude.{◌≡◌, ℕ, ◌+◌, ◌<◌, List, [], ◌∷◌, ◌++◌, length, map, take, drop, set, get_or}
use Rattle.std.proofs.Common.{arith, sym, ap, ◌∙◌, append_assoc}
use Rattle.std.proofs.lemmas.List.{drop_more, get_or_at, set_at, map_more, length-map, length-take-le}

pub record OneMore {X : Type 0} (f : X → X) (xs now : List X) (i : ℕ) (d : X) : Type 0 where
  pub element : get_or now i d ≡ get_or xs i d
  pub changed : set now i (f (get_or now i d)) ≡ map f (take (i + 1) xs) ++ drop (i + 1) xs

pub one_more_changed : {X : Type 0} (f : X → X) (xs now : List X) (i : ℕ) (d : X) → now ≡ map f (take i xs) ++ drop i xs → i < length xs → OneMore f xs now i d
one_more_changed f xs now i d is lt =
    let x = get_or xs i d in
    let front = map f (take i xs) in
    let rest = drop (i + 1) xs in
    let long : length front ≡ i = length-map (take i xs) f ∙ length-take-le i xs (omega arith) in
    let whole : now ≡ front ++ x ∷ rest = is ∙ ap (λ zs. front ++ zs) (drop_more xs i d lt) in
    let element : get_or now i d ≡ x = ap (λ zs. get_or zs i d) whole ∙ get_or_at front x rest d i long in
    record {
      element = element;
      changed = ap (λ zs. set zs i (f (get_or now i d))) whole ∙ set_at front x rest (f (get_or now i d)) i long ∙ ap (λ y. front ++ f y ∷ rest) element
          ∙ sym (ap (λ zs. zs ++ rest) (map_more f xs i d lt) ∙ append_assoc front (f x ∷ []) rest);
    }
