-- Lists of facts, each once, and marks of facts.
use Rattle.std.specs.Prelude.{◌≡◌, ◌≢◌, ℕ, ◌<◌, zero, suc, List, [], ◌∷◌, ◌++◌, length, Bool, true, false, not, nat_eq, nat_lt, filter, ◌||◌}
use Rattle.std.specs.List.{list_all, list_any}
use Rattle.std.proofs.Common.{arith, refl, sym, ap, ◌∙◌, append_assoc, ◌⊎◌, inl, inr}
use Rattle.std.proofs.lemmas.Bool.Decides.{nat_tests}
use Rattle.std.proofs.lemmas.List.Elements.{filter-append}
use Rattle.sas_task.specs.declared.contents.Fact.{Fact}
use Rattle.relaxed_task.proofs.Elements.{places}
use Rattle.relaxed_task.specs.Numbers.{distinct, number_by, is_below, is_among}
use Rattle.relaxed_task.specs.Making.{is_marked, AreMarked, with_one, with_all, all_numbers_by}

-- a test of some element passes over one that fails it
any_filter : (p : ℕ → Bool) (x : ℕ) (xs : List ℕ) → p x ≡ false → list_any p (filter (λ y. not (nat_eq y x)) xs) ≡ list_any p xs
any_filter p x [] fails = refl
any_filter p x (y ∷ xs) fails = by_place (places y x) (any_filter p x xs fails)
  where
    by_place : ((y ≡ x) × (nat_eq y x ≡ true)) ⊎ ((y ≢ x) × (nat_eq y x ≡ false)) → list_any p (filter (λ y. not (nat_eq y x)) xs) ≡ list_any p xs → list_any p (filter (λ y. not (nat_eq y x)) (y ∷ xs)) ≡ list_any p (y ∷ xs)
    by_place (inl here) rest = let no : p y ≡ false = ap p here.0 ∙ fails in rw (here.1, no) rest
    by_place (inr apart) rest = rw apart.1 (ap (λ b. p y || b) rest)

-- each once, of a list with one more
pub distinct-more : (xs : List ℕ) (y : ℕ) → distinct (xs ++ y ∷ []) ≡ with_one (distinct xs) y
distinct-more [] y = refl
distinct-more (x ∷ xs) y = by_place (places y x) (distinct-more xs y)
  where
    rest : List ℕ
    rest = filter (λ z. not (nat_eq z x)) (distinct xs)

    same : (b : Bool) → is_among (distinct xs) y ≡ b → nat_eq y x ≡ true → filter (λ z. not (nat_eq z x)) (with_one (distinct xs) y) ≡ rest
    same true among is = rw among refl
    same false among is = rw among (filter-append (λ z. not (nat_eq z x)) (distinct xs) (y ∷ []) ∙ rw is (nothing rest))
      where
        nothing : (zs : List ℕ) → zs ++ [] ≡ zs
        nothing [] = refl
        nothing (z ∷ zs) = ap (λ t. z ∷ t) (nothing zs)

    other : (b : Bool) → is_among (distinct xs) y ≡ b → nat_eq y x ≡ false → filter (λ z. not (nat_eq z x)) (with_one (distinct xs) y) ≡ with_one rest y
    other true among is =
        let there : is_among rest y ≡ true = any_filter (nat_eq y) x (distinct xs) is ∙ among in
        rw (among, there) refl
    other false among is =
        let there : is_among rest y ≡ false = any_filter (nat_eq y) x (distinct xs) is ∙ among in
        rw (among, there) (filter-append (λ z. not (nat_eq z x)) (distinct xs) (y ∷ []) ∙ rw is refl)

    by_place : ((y ≡ x) × (nat_eq y x ≡ true)) ⊎ ((y ≢ x) × (nat_eq y x ≡ false)) → distinct (xs ++ y ∷ []) ≡ with_one (distinct xs) y → distinct ((x ∷ xs) ++ y ∷ []) ≡ with_one (distinct (x ∷ xs)) y
    by_place (inl here) before =
        ap (λ t. x ∷ filter (λ z. not (nat_eq z x)) t) before ∙ (ap (λ t. x ∷ t) (same (is_among (distinct xs) y) refl here.1) ∙ rw here.1 refl)
    by_place (inr is) before =
        ap (λ t. x ∷ filter (λ z. not (nat_eq z x)) t) before ∙ (ap (λ t. x ∷ t) (other (is_among (distinct xs) y) refl is.1) ∙ turn (is_among rest y) refl is.1)
      where
        turn : (b : Bool) → is_among rest y ≡ b → nat_eq y x ≡ false → x ∷ with_one rest y ≡ with_one (x ∷ rest) y
        turn true among is = rw (is, among) refl
        turn false among is = rw (is, among) refl

pub with_all-distinct : (xs ys : List ℕ) → with_all (distinct xs) ys ≡ distinct (xs ++ ys)
with_all-distinct xs [] = ap distinct (sym (nothing xs))
  where
    nothing : (zs : List ℕ) → zs ++ [] ≡ zs
    nothing [] = refl
    nothing (z ∷ zs) = ap (λ t. z ∷ t) (nothing zs)
with_all-distinct xs (y ∷ ys) =
    ap (λ t. with_all t ys) (sym (distinct-more xs y)) ∙ (with_all-distinct (xs ++ y ∷ []) ys ∙ ap distinct (append_assoc xs (y ∷ []) ys))

-- what is marked is below how many marks there are
marked-within : (marks : List Bool) (fact : ℕ) → is_marked marks fact ≡ true → fact < length marks
marked-within [] fact is = let k : false ≡ true = is in cc
marked-within (m ∷ marks) zero is = omega arith
marked-within (m ∷ marks) (suc fact) is = let lt = marked-within marks fact is in omega arith

pub marked-below : (marks : List Bool) (facts : List ℕ) → AreMarked marks facts → list_all (is_below (length marks)) facts ≡ true
marked-below marks facts marked = from facts (λ fact among. marked-within marks fact (marked fact ∙ among))
  where
    below : (a b : ℕ) → a < b → nat_lt a b ≡ true
    below a b lt = grind (arith, nat_tests)

    self : (a : ℕ) → nat_eq a a ≡ true
    self a = grind (arith, nat_tests)

    later : (a b : Bool) → b ≡ true → (a || b) ≡ true
    later true b is = refl
    later false b is = is

    from : (facts : List ℕ) → ((fact : ℕ) → is_among facts fact ≡ true → fact < length marks) → list_all (is_below (length marks)) facts ≡ true
    from [] each = refl
    from (f ∷ facts) each =
        let first : is_among (f ∷ facts) f ≡ true = rw (self f) refl in
        let here : is_below (length marks) f ≡ true = below f (length marks) (each f first) in
        rw here (from facts (λ fact among. each fact (later (nat_eq fact f) (is_among facts fact) among)))

-- what two lists of facts add to nothing
pub two_lists : (offsets : List ℕ) (first second : List Fact) (a b c : List ℕ) → a ≡ [] → b ≡ with_all a (all_numbers_by offsets first) → c ≡ with_all b (all_numbers_by offsets second) →
    c ≡ distinct (all_numbers_by offsets (first ++ second))
two_lists offsets first second a b c none one two =
    let b_is : b ≡ distinct (all_numbers_by offsets first) = one ∙ (ap (λ t. with_all t (all_numbers_by offsets first)) none ∙ with_all-distinct [] (all_numbers_by offsets first)) in
    two ∙ (ap (λ t. with_all t (all_numbers_by offsets second)) b_is ∙ (with_all-distinct (all_numbers_by offsets first) (all_numbers_by offsets second) ∙ ap distinct (joined first)))
  where
    joined : (xs : List Fact) → all_numbers_by offsets xs ++ all_numbers_by offsets second ≡ all_numbers_by offsets (xs ++ second)
    joined [] = refl
    joined (x ∷ xs) = ap (λ t. number_by offsets x ∷ t) (joined xs)
