-- Laws of tests of lists and of counts within a limit.
use Rattle.std.specs.Prelude.{◌≡◌, ℕ, ◌≤◌, List, [], ◌∷◌, ◌++◌, Bool, true, false, ◌&&◌, not, nat_le, map, flat_map}
use Rattle.std.proofs.Common.{arith, refl, sym, ap, ◌∙◌}
use Rattle.std.specs.List.{list_all}
use Rattle.std.proofs.lemmas.List.Folds.{list_all-append, list_all-map}
use Rattle.std.proofs.lemmas.Bool.Decides.{nat_tests}
use Rattle.lama_num.proofs.ListLaws.{both}

-- no count is above the limit
abbrev pub within : ℕ → List ℕ → Bool
within most counts = list_all (λ count. nat_le count most) counts

pub not-not : (b : Bool) → not (not b) ≡ b
not-not true = refl
not-not false = refl

pub all-same : {X : Type 0} (p q : X → Bool) (xs : List X) → ((x : X) → p x ≡ q x) → list_all p xs ≡ list_all q xs
all-same p q [] same = refl
all-same p q (x ∷ xs) same = ap (λ b. b && list_all p xs) (same x) ∙ ap (λ b. q x && b) (all-same p q xs same)

pub le-test : (n most : ℕ) → nat_le n most ≡ true → n ≤ most
le-test n most is = grind (arith, nat_tests, is)

pub test-le : (n most : ℕ) → n ≤ most → nat_le n most ≡ true
test-le n most le = grind (arith, nat_tests, le)

pub one-within : (n most : ℕ) → within most (n ∷ []) ≡ true → nat_le n most ≡ true
one-within n most all = (both (nat_le n most) true all).0

pub and_true : (a b : Bool) → a ≡ true → b ≡ true → (a && b) ≡ true
and_true true b x y = y
and_true false b x y = x

pub within-one : (n most : ℕ) → nat_le n most ≡ true → within most (n ∷ []) ≡ true
within-one n most is = and_true (nat_le n most) true is refl

-- a test that follows from two others
pub all-two : {X : Type 0} (p q r : X → Bool) (xs : List X) → ((x : X) → p x ≡ true → q x ≡ true → r x ≡ true) → list_all p xs ≡ true → list_all q xs ≡ true → list_all r xs ≡ true
all-two p q r [] step ps qs = refl
all-two p q r (x ∷ xs) step ps qs =
    let a = both (p x) (list_all p xs) ps in
    let b = both (q x) (list_all q xs) qs in
    and_true (r x) (list_all r xs) (step x a.0 b.0) (all-two p q r xs step a.1 b.1)

pub all-one : {X : Type 0} (p r : X → Bool) (xs : List X) → ((x : X) → p x ≡ true → r x ≡ true) → list_all p xs ≡ true → list_all r xs ≡ true
all-one p r xs step ps = all-two p p r xs (λ x a b. step x a) ps ps

pub all-and : {X : Type 0} (p q : X → Bool) (xs : List X) → list_all p xs ≡ true → list_all q xs ≡ true → list_all (λ x. p x && q x) xs ≡ true
all-and p q xs ps qs = all-two p q (λ x. p x && q x) xs (λ x a b. and_true (p x) (q x) a b) ps qs

-- counts within a limit

pub within-flat_map : {X : Type 0} (most : ℕ) (f : X → List ℕ) (xs : List X) → within most (flat_map f xs) ≡ true → list_all (λ x. within most (f x)) xs ≡ true
within-flat_map most f [] all = refl
within-flat_map most f (x ∷ xs) all =
    let parts = both (within most (f x)) (within most (flat_map f xs)) (sym (list_all-append (λ n. nat_le n most) (f x) (flat_map f xs)) ∙ all) in
    and_true (within most (f x)) (list_all (λ x. within most (f x)) xs) parts.0 (within-flat_map most f xs parts.1)

pub flat_map-within : {X : Type 0} (most : ℕ) (f : X → List ℕ) (xs : List X) → list_all (λ x. within most (f x)) xs ≡ true → within most (flat_map f xs) ≡ true
flat_map-within most f [] all = refl
flat_map-within most f (x ∷ xs) all =
    let parts = both (within most (f x)) (list_all (λ x. within most (f x)) xs) all in
    list_all-append (λ n. nat_le n most) (f x) (flat_map f xs) ∙ and_true (within most (f x)) (within most (flat_map f xs)) parts.0 (flat_map-within most f xs parts.1)

pub within-map : {X : Type 0} (most : ℕ) (f : X → ℕ) (xs : List X) → within most (map f xs) ≡ true → list_all (λ x. nat_le (f x) most) xs ≡ true
within-map most f xs all = sym (list_all-map (λ n. nat_le n most) f xs) ∙ all

pub map-within : {X : Type 0} (most : ℕ) (f : X → ℕ) (xs : List X) → list_all (λ x. nat_le (f x) most) xs ≡ true → within most (map f xs) ≡ true
map-within most f xs all = list_all-map (λ n. nat_le n most) f xs ∙ all

pub within-both : (most : ℕ) (xs ys : List ℕ) → within most xs ≡ true → within most ys ≡ true → within most (xs ++ ys) ≡ true
within-both most xs ys a b = list_all-append (λ n. nat_le n most) xs ys ∙ and_true (within most xs) (within most ys) a b
