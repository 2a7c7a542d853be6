-- Laws of columns that stand side by side.
use Rattle.std.proofs.Common.{◌≡◌, ℕ, zero, suc, List, [], ◌∷◌, ◌++◌, length, slice_get, get_or, ◌<◌, Some, refl, ap, ◌∙◌, arith}
use Rattle.std.proofs.lemmas.Option.{slice_get-get_or}
use Rattle.search_log.specs.Columns.{beside}

pub length-beside : {A B C : Type 0} (f : A → B → C) (xs : List A) (ys : List B) → length xs ≡ length ys → length (beside f xs ys) ≡ length xs
length-beside f [] ys same = refl
length-beside f (x ∷ xs) [] same = absurd (omega (arith, same))
length-beside f (x ∷ xs) (y ∷ ys) same = ap suc (length-beside f xs ys (omega (arith, same)))

pub beside-push : {A B C : Type 0} (f : A → B → C) (xs : List A) (ys : List B) (x : A) (y : B) → length xs ≡ length ys → beside f (xs ++ x ∷ []) (ys ++ y ∷ []) ≡ beside f xs ys ++ f x y ∷ []
beside-push f [] [] x y same = refl
beside-push f [] (z ∷ zs) x y same = absurd (omega (arith, same))
beside-push f (w ∷ ws) [] x y same = absurd (omega (arith, same))
beside-push f (w ∷ ws) (z ∷ zs) x y same = ap (λ rest. f w z ∷ rest) (beside-push f ws zs x y (omega (arith, same)))

pub beside-at : {A B C : Type 0} (f : A → B → C) (xs : List A) (ys : List B) (i : ℕ) (x : A) (y : B) → slice_get xs i ≡ Some x → slice_get ys i ≡ Some y → slice_get (beside f xs ys) i ≡ Some (f x y)
beside-at f [] ys i x y at there = cc
beside-at f (w ∷ ws) [] i x y at there = cc
beside-at f (w ∷ ws) (z ∷ zs) zero x y at there =
    let a : w ≡ x = cc in
    let b : z ≡ y = cc in
    ap (λ v. Some (f v z)) a ∙ ap (λ v. Some (f x v)) b
beside-at f (w ∷ ws) (z ∷ zs) (suc i) x y at there = beside-at f ws zs i x y at there

pub beside-found : {A B C : Type 0} (f : A → B → C) (xs : List A) (ys : List B) (i : ℕ) (d : A) (e : B) → length xs ≡ length ys → i < length xs → slice_get (beside f xs ys) i ≡ Some (f (get_or xs i d) (get_or ys i e))
beside-found f xs ys i d e same lt = beside-at f xs ys i (get_or xs i d) (get_or ys i e) (slice_get-get_or xs i d lt) (slice_get-get_or ys i e (omega (arith, same, lt)))
