-- Laws of the first count above a limit.
use Rattle.std.specs.Prelude.{◌≡◌, ℕ, ◌+◌, ◌<◌, ◌≤◌, List, [], ◌∷◌, ◌++◌, length, true, false, map, flat_map, drop, get_or, nat_lt, zero, suc, Option, Some, None, is_some}
use Rattle.std.proofs.Common.{arith, refl, sym, ap, ◌∙◌}
use Rattle.std.specs.Option.{option_or}
use Rattle.std.proofs.lemmas.Bool.Decides.{nat_tests}
use Rattle.std.proofs.lemmas.List.{at_drop_more}
use Rattle.std.proofs.lemmas.List.Folds.{find-append}
use Rattle.sas_task.specs.Refusals.{above}

-- the first of two lists that has one
pub above_front : (most : ℕ) (xs ys : List ℕ) (found : Option ℕ) → found ≡ above most xs → is_some found ≡ true → found ≡ above most (xs ++ ys)
above_front most xs ys None is some = let k : false ≡ true = some in cc
above_front most xs ys (Some n) is some = rw (find-append (λ count. nat_lt most count) xs ys, ← is) refl

pub above_behind : (most : ℕ) (xs ys : List ℕ) → above most xs ≡ None → above most (xs ++ ys) ≡ above most ys
above_behind most xs ys none = rw (find-append (λ count. nat_lt most count) xs ys, none) refl

-- where no count is above the limit, the first isn't, and none of the others is
pub within_first : (most n : ℕ) (ns : List ℕ) → above most (n ∷ ns) ≡ None → (n ≤ most) × (above most ns ≡ None)
within_first most n ns none =
    elim (nat_lt most n) as (λ b. nat_lt most n ≡ b → (n ≤ most) × (above most ns ≡ None)) [
      | true ↦ λ is. let k : Some n ≡ None = rw is at none in cc
      | false ↦ λ is. (grind (arith, nat_tests, is), rw is at none)
    ] refl

-- each is within it
pub within_each : {X : Type 0} (most : ℕ) (f : X → ℕ) (xs : List X) (i : ℕ) (d : X) → above most (map f xs) ≡ None → i < length xs → f (get_or xs i d) ≤ most
within_each most f [] i d none lt = absurd (omega arith)
within_each most f (x ∷ xs) zero d none lt = (within_first most (f x) (map f xs) none).0
within_each most f (x ∷ xs) (suc i) d none lt = within_each most f xs i d (within_first most (f x) (map f xs) none).1 (omega arith)

-- a loop over lists of counts

one_more : {X : Type 0} (most : ℕ) (f : X → List ℕ) (xs : List X) (i : ℕ) (x : X) → i < length xs → x ≡ get_or xs i x → above most (flat_map f (drop i xs)) ≡ above most (f x ++ flat_map f (drop (i + 1) xs))
one_more most f xs i x lt is = at_drop_more (λ ys. above most (flat_map f ys)) xs i x lt ∙ ap (λ y. above most (f y ++ flat_map f (drop (i + 1) xs))) (sym is)

pub flat_front : {X : Type 0} (most : ℕ) (f : X → List ℕ) (xs : List X) (i : ℕ) (x : X) (found : Option ℕ) → i < length xs → x ≡ get_or xs i x → found ≡ above most (f x) → is_some found ≡ true →
    above most (flat_map f (drop i xs)) ≡ above most (flat_map f xs) → found ≡ above most (flat_map f xs)
flat_front most f xs i x found lt at is some so_far = above_front most (f x) (flat_map f (drop (i + 1) xs)) found is some ∙ sym (one_more most f xs i x lt at) ∙ so_far

pub flat_behind : {X : Type 0} (most : ℕ) (f : X → List ℕ) (xs : List X) (i : ℕ) (x : X) (found : Option ℕ) → i < length xs → x ≡ get_or xs i x → found ≡ above most (f x) → is_some found ≡ false →
    above most (flat_map f (drop i xs)) ≡ above most (flat_map f xs) → above most (flat_map f (drop (i + 1) xs)) ≡ above most (flat_map f xs)
flat_behind most f xs i x (Some n) lt at is some so_far = let k : true ≡ false = some in cc
flat_behind most f xs i x None lt at is some so_far = sym (above_behind most (f x) (flat_map f (drop (i + 1) xs)) (sym is)) ∙ sym (one_more most f xs i x lt at) ∙ so_far

pub above_append : (most : ℕ) (xs ys : List ℕ) → above most (xs ++ ys) ≡ option_or (above most xs) (above most ys)
above_append most xs ys = find-append (λ count. nat_lt most count) xs ys
