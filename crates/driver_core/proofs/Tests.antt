-- Tests of lists of numbers: counts, marks that stand for a test, and the list that a test leaves.
use Rattle.std.proofs.Common.{◌≡◌, ◌≢◌, ℕ, ◌+◌, ◌-◌, ◌<◌, ◌≤◌, Bool, true, false, not, cond, ◌&&◌, ◌||◌, ◌==◌, nat_le, List, [], ◌∷◌, ◌++◌, length, map, filter, set, replicate, slice_get, Option, Some, None, zero, suc, refl, sym, ap, ◌∙◌, subst, arith, inl, inr}
use Rattle.std.proofs.lemmas.Bool.{cases_Bool, cases_eq, cases_lt, ne_eqb, and_parts, and_from, or_cases, or_left, or_right, false_from_ne_true}
use Rattle.std.proofs.lemmas.List.Sums.{sum_by-cons}
use Rattle.std.specs.Option.{unwrap_or}
use Rattle.std.specs.List.{list_all, list_any, filter_map, count_by, sum_by, range_with_len}

-- two tests agree where each holds with the other
pub same_truth : (a b : Bool) → (a ≡ true → b ≡ true) → (b ≡ true → a ≡ true) → a ≡ b
same_truth true b to from = sym (to refl)
same_truth false true to from = from refl
same_truth false false to from = refl

count_by-cons : {X : Type 0} (p : X → Bool) (x : X) (xs : List X) → count_by p (x ∷ xs) ≡ cond (p x) 1 0 + count_by p xs
count_by-cons p x xs = sum_by-cons (λ y. cond (p y) 1 0) x xs

all_cases : (b rest : Bool) (n : ℕ) → (n == 0) ≡ rest → (cond (not b) 1 0 + n == 0) ≡ (b && rest)
all_cases true rest n e = ap (λ k. k == 0) (omega arith) ∙ e
all_cases false rest n e = ne_eqb (1 + n) 0 (λ same. absurd (omega arith))

left_cases : (p : ℕ → Bool) (x : ℕ) (rest : List ℕ) (a : Bool) (n : ℕ) → (n == 0) ≡ list_all p rest → (cond (a && not (p x)) 1 0 + n == 0) ≡ list_all p (cond a (x ∷ rest) rest)
left_cases p x rest true n e = all_cases (p x) (list_all p rest) n e
left_cases p x rest false n e = ap (λ k. k == 0) (omega arith) ∙ e

-- None is left where all that pass the one test pass the other.
pub none_left : (q p : ℕ → Bool) (xs : List ℕ) → (count_by (λ x. q x && not (p x)) xs == 0) ≡ list_all p (filter q xs)
none_left q p [] = refl
none_left q p (x ∷ xs) =
    ap (λ n. n == 0) (count_by-cons (λ y. q y && not (p y)) x xs)
    ∙ left_cases p x (filter q xs) (q x) (count_by (λ y. q y && not (p y)) xs) (none_left q p xs)

-- two tests that agree but at k, which the numbers have passed
count_by-past : (p q : ℕ → Bool) (k first n : ℕ) → ((x : ℕ) → x ≢ k → q x ≡ p x) → k < first → count_by q (range_with_len first n) ≡ count_by p (range_with_len first n)
count_by-past p q k first zero agree past = refl
count_by-past p q k first (suc n) agree past =
    count_by-cons q first (range_with_len (first + 1) n)
    ∙ ap (λ b. cond b 1 0 + count_by q (range_with_len (first + 1) n)) (agree first (λ same. absurd (omega arith)))
    ∙ ap (λ m. cond (p first) 1 0 + m) (count_by-past p q k (first + 1) n agree (omega arith))
    ∙ sym (count_by-cons p first (range_with_len (first + 1) n))

-- One number less passes the test.
pub count_by-falls : (p q : ℕ → Bool) (k first n : ℕ) → ((x : ℕ) → x ≢ k → q x ≡ p x) → p k ≡ true → q k ≡ false → first ≤ k → k < first + n → count_by p (range_with_len first n) ≡ count_by q (range_with_len first n) + 1
count_by-falls p q k first zero agree had lost from below = absurd (omega arith)
count_by-falls p q k first (suc n) agree had lost from below =
    elim (cases_eq first k) [
      | inl here ↦
          let p_here : count_by p (range_with_len first (suc n)) ≡ 1 + count_by p (range_with_len (first + 1) n) =
          count_by-cons p first (range_with_len (first + 1) n) ∙ ap (λ b. cond b 1 0 + count_by p (range_with_len (first + 1) n)) (ap p here ∙ had) in
          let q_here : count_by q (range_with_len first (suc n)) ≡ 0 + count_by q (range_with_len (first + 1) n) =
          count_by-cons q first (range_with_len (first + 1) n) ∙ ap (λ b. cond b 1 0 + count_by q (range_with_len (first + 1) n)) (ap q here ∙ lost) in
          let rest = count_by-past p q k (first + 1) n agree (omega arith) in
          omega (arith, p_here, q_here, rest)
      | inr other ↦
          let p_here = count_by-cons p first (range_with_len (first + 1) n) in
          let q_here = count_by-cons q first (range_with_len (first + 1) n) ∙ ap (λ b. cond b 1 0 + count_by q (range_with_len (first + 1) n)) (agree first other) in
          let rest = count_by-falls p q k (first + 1) n agree had lost (omega arith) (omega arith) in
          omega (arith, p_here, q_here, rest)
    ]

-- all numbers pass
pub count_by-all : (p : ℕ → Bool) (first n : ℕ) → ((x : ℕ) → first ≤ x → x < first + n → p x ≡ true) → count_by p (range_with_len first n) ≡ n
count_by-all p first zero each = refl
count_by-all p first (suc n) each =
    let here : count_by p (range_with_len first (suc n)) ≡ 1 + count_by p (range_with_len (first + 1) n) =
    count_by-cons p first (range_with_len (first + 1) n) ∙ ap (λ b. cond b 1 0 + count_by p (range_with_len (first + 1) n)) (each first (omega arith) (omega arith)) in
    omega (arith, here, count_by-all p (first + 1) n (λ x from below. each x (omega arith) (omega arith)))

-- marks that are all the same
pub all_marked : (p : ℕ → Bool) (mark : Bool) (first n : ℕ) → ((x : ℕ) → first ≤ x → x < first + n → p x ≡ mark) → replicate n mark ≡ map p (range_with_len first n)
all_marked p mark first zero each = refl
all_marked p mark first (suc n) each =
    λ i. sym (each first (omega arith) (omega arith)) i ∷ all_marked p mark (first + 1) n (λ x from below. each x (omega arith) (omega arith)) i

-- the mark at a place is that of its number
pub mark_at : (p : ℕ → Bool) (first n place number : ℕ) → first + place ≡ number → (p number ≡ true → place < n) → unwrap_or (slice_get (map p (range_with_len first n)) place) false ≡ p number
mark_at p first zero place number at within = sym (false_from_ne_true (p number) (λ is. absurd (omega (arith, within is))))
mark_at p first (suc n) zero number at within = let same : first ≡ number = omega arith in ap p same
mark_at p first (suc n) (suc place) number at within = mark_at p (first + 1) n place number (omega arith) (λ is. omega (arith, within is))

-- a number of the list that passes is counted
pub count_by-some : (p : ℕ → Bool) (k first n : ℕ) → p k ≡ true → first ≤ k → k < first + n → 0 < count_by p (range_with_len first n)
count_by-some p k first zero passes from below = absurd (omega arith)
count_by-some p k first (suc n) passes from below =
    elim (cases_eq first k) [
      | inl here ↦ omega (arith, count_by-cons p first (range_with_len (first + 1) n) ∙ ap (λ b. cond b 1 0 + count_by p (range_with_len (first + 1) n)) (ap p here ∙ passes))
      | inr other ↦ omega (arith, count_by-cons p first (range_with_len (first + 1) n), count_by-some p k (first + 1) n passes (omega arith) (omega arith))
    ]

-- the marks of a test are counted as what passes it
pub count_by-marks : (p : ℕ → Bool) (xs : List ℕ) → count_by (λ mark. mark) (map p xs) ≡ count_by p xs
count_by-marks p [] = refl
count_by-marks p (x ∷ xs) =
    count_by-cons (λ mark. mark) (p x) (map p xs) ∙ ap (λ n. cond (p x) 1 0 + n) (count_by-marks p xs) ∙ sym (count_by-cons p x xs)

pub list_any-marks : (p : ℕ → Bool) (xs : List ℕ) → list_any (λ mark. mark) (map p xs) ≡ list_any p xs
list_any-marks p [] = refl
list_any-marks p (x ∷ xs) = ap (λ b. p x || b) (list_any-marks p xs)

-- two tests that agree from here on
marks_past : (p q : ℕ → Bool) (k first n : ℕ) → ((x : ℕ) → x ≢ k → q x ≡ p x) → k < first → map q (range_with_len first n) ≡ map p (range_with_len first n)
marks_past p q k first zero agree past = refl
marks_past p q k first (suc n) agree past = λ i. agree first (λ same. absurd (omega arith)) i ∷ marks_past p q k (first + 1) n agree (omega arith) i

-- One number more passes the test: its mark is set.
pub marked : (p q : ℕ → Bool) (k first n place : ℕ) → ((x : ℕ) → x ≢ k → q x ≡ p x) → q k ≡ true → first + place ≡ k → place < n → map q (range_with_len first n) ≡ set (map p (range_with_len first n)) place true
marked p q k first zero place agree now at below = absurd (omega arith)
marked p q k first (suc n) zero agree now at below =
    let here : first ≡ k = omega arith in
    λ i. (ap q here ∙ now) i ∷ marks_past p q k (first + 1) n agree (omega arith) i
marked p q k first (suc n) (suc place) agree now at below =
    λ i. agree first (λ same. absurd (omega arith)) i ∷ marked p q k (first + 1) n place agree now (omega arith) (omega arith) i

-- a number of the range that passes is one of the list
pub any_of_range : (p : ℕ → Bool) (k first n : ℕ) → p k ≡ true → first ≤ k → k < first + n → list_any p (range_with_len first n) ≡ true
any_of_range p k first zero passes from below = absurd (omega arith)
any_of_range p k first (suc n) passes from below =
    elim (cases_eq first k) [
      | inl here ↦ or_left (p first) _ (ap p here ∙ passes)
      | inr other ↦ or_right (p first) _ (any_of_range p k (first + 1) n passes (omega arith) (omega arith))
    ]

all_kept : (p : ℕ → Bool) (x : ℕ) (rest : List ℕ) (a : Bool) → list_all p (cond a (x ∷ rest) rest) ≡ true → list_all p rest ≡ true
all_kept p x rest true all = (and_parts (p x) (list_all p rest) all).1
all_kept p x rest false all = all

-- all that pass the one test pass the other, and so does this one
pub one_of_all : (q p : ℕ → Bool) (k first n : ℕ) → list_all p (filter q (range_with_len first n)) ≡ true → q k ≡ true → first ≤ k → k < first + n → p k ≡ true
one_of_all q p k first zero all passes from below = absurd (omega arith)
one_of_all q p k first (suc n) all passes from below =
    let rest = filter q (range_with_len (first + 1) n) in
    elim (cases_eq first k) [
      | inl here ↦
          let is : q first ≡ true = ap q here ∙ passes in
          let whole : (p first && list_all p rest) ≡ true = subst (λ b. list_all p (cond b (first ∷ rest) rest) ≡ true) is all in
          sym (ap p here) ∙ (and_parts (p first) (list_all p rest) whole).0
      | inr other ↦ one_of_all q p k (first + 1) n (all_kept p first rest (q first) all) passes (omega arith) (omega arith)
    ]

all_more : (p p' : ℕ → Bool) (x : ℕ) (xs ys : List ℕ) (a : Bool) → (p x ≡ true → p' x ≡ true) → (list_all p xs ≡ true → list_all p' ys ≡ true) → list_all p (cond a (x ∷ xs) xs) ≡ true → list_all p' (cond a (x ∷ ys) ys) ≡ true
all_more p p' x xs ys true so more all = let parts = and_parts (p x) (list_all p xs) all in and_from (p' x) (list_all p' ys) (so parts.0) (more parts.1)
all_more p p' x xs ys false so more all = more all

-- more pass the second test
pub all_stay : (q q' p p' : ℕ → Bool) (xs : List ℕ) → ((x : ℕ) → q' x ≡ q x) → ((x : ℕ) → p x ≡ true → p' x ≡ true) → list_all p (filter q xs) ≡ true → list_all p' (filter q' xs) ≡ true
all_stay q q' p p' [] same so all = refl
all_stay q q' p p' (x ∷ xs) same so all =
    subst (λ b. list_all p' (cond b (x ∷ filter q' xs) (filter q' xs)) ≡ true) (sym (same x))
    (all_more p p' x (filter q xs) (filter q' xs) (q x) (so x) (all_stay q q' p p' xs same so) all)

-- some element passes, of those that pass the one test
pub any_so : {X : Type 0} (p q : X → Bool) (xs : List X) → ((x : X) → p x ≡ true → q x ≡ true) → list_any p xs ≡ true → list_any q xs ≡ true
any_so p q [] so any = any
any_so p q (x ∷ xs) so any =
    elim (or_cases (p x) (list_any p xs) any) [
      | inl here ↦ or_left (q x) _ (so x here)
      | inr later ↦ or_right (q x) _ (any_so p q xs so later)
    ]
