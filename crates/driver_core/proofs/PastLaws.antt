-- Laws of Pasts.
use Rattle.std.proofs.Common.{◌≡◌, Bool, true, false, if◌then◌else◌, List, [], ◌∷◌, ◌++◌, refl, sym, ap, ◌∙◌, append_assoc, subst}
use Rattle.std.proofs.lemmas.List.{append-nil}
use Rattle.driver_core.specs.Pasts.{each_after, filter_after, AllAfter}

-- Each of them at one more element.
pub each_after-push : {X Y : Type 0} (f : List X → X → Y) (past xs : List X) (x : X) → each_after f past (xs ++ x ∷ []) ≡ each_after f past xs ++ f (past ++ xs) x ∷ []
each_after-push f past [] x = let e = append-nil past in rw e refl
each_after-push f past (y ∷ ys) x =
    ap (λ rest. f past y ∷ rest)
    (each_after-push f (past ++ y ∷ []) ys x ∙ ap (λ whole. each_after f (past ++ y ∷ []) ys ++ f whole x ∷ []) (append_assoc past (y ∷ []) ys))

cond_cons-append : {X : Type 0} (b : Bool) (x : X) (xs ys : List X) → (if b then x ∷ xs else xs) ++ ys ≡ (if b then x ∷ (xs ++ ys) else xs ++ ys)
cond_cons-append true x xs ys = refl
cond_cons-append false x xs ys = refl

pub filter_after-push : {X : Type 0} (test : List X → X → Bool) (past xs : List X) (x : X) → filter_after test past (xs ++ x ∷ []) ≡ filter_after test past xs ++ (if test (past ++ xs) x then x ∷ [] else [])
filter_after-push test past [] x = let e = append-nil past in rw e refl
filter_after-push {X} test past (y ∷ ys) x =
    let after : List X = past ++ y ∷ [] in
    let last : List X → List X = λ whole. if test whole x then x ∷ [] else [] in
    ap (λ rest. if test past y then y ∷ rest else rest)
    (filter_after-push test after ys x ∙ ap (λ whole. filter_after test after ys ++ last whole) (append_assoc past (y ∷ []) ys))
    ∙ sym (cond_cons-append (test past y) y (filter_after test after ys) (last (past ++ y ∷ ys)))

pub AllAfter-push : {X : Type 0} (P : List X → X → Type 0) (past xs : List X) (x : X) → AllAfter P past xs → P (past ++ xs) x → AllAfter P past (xs ++ x ∷ [])
AllAfter-push P past [] x all next = (subst (λ whole. P whole x) (append-nil past) next, tt)
AllAfter-push P past (y ∷ ys) x all next =
    (all.0, AllAfter-push P (past ++ y ∷ []) ys x all.1 (subst (λ whole. P whole x) (sym (append_assoc past (y ∷ []) ys)) next))

-- The elements of a longer list, and its last one.
pub AllAfter-front : {X : Type 0} (P : List X → X → Type 0) (past xs : List X) (x : X) → AllAfter P past (xs ++ x ∷ []) → AllAfter P past xs
AllAfter-front P past [] x all = tt
AllAfter-front P past (y ∷ ys) x all = (all.0, AllAfter-front P (past ++ y ∷ []) ys x all.1)

pub AllAfter-last : {X : Type 0} (P : List X → X → Type 0) (past xs : List X) (x : X) → AllAfter P past (xs ++ x ∷ []) → P (past ++ xs) x
AllAfter-last P past [] x all = subst (λ whole. P whole x) (sym (append-nil past)) all.0
AllAfter-last P past (y ∷ ys) x all = subst (λ whole. P whole x) (append_assoc past (y ∷ []) ys) (AllAfter-last P (past ++ y ∷ []) ys x all.1)
