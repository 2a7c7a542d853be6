-- Numbers that ascend, and what of a range is among them.
use Rattle.std.proofs.Common.{◌≡◌, ◌∙◌, sym, ap, refl, ℕ, zero, suc, ◌+◌, ◌<◌, ◌≤◌, List, [], ◌∷◌, length, Bool, true, false, cond, nat_eq, filter, get_or, arith, inl, inr, ◌||◌, ◌⊎◌}
use Rattle.std.specs.List.{range_with_len}
use Rattle.std.specs.List.Sorted.{IsStrictlyIncreasing}
use Rattle.std.proofs.lemmas.Bool.{cases_Bool, or_right, eqb-true}
use Rattle.std.proofs.lemmas.List.Kept.{IsStrictlyIncreasing-filter}
use native.Mathlib.Numerals.{unary_clauses}
use Rattle.guide.specs.Operators.{is_among}

-- each number is above the one before, and the first not below a bound
abbrev AscendFrom : ℕ → List ℕ → Type 0
AscendFrom low [] = Unit {0}
AscendFrom low (x ∷ xs) = (low ≤ x) × AscendFrom (x + 1) xs

increases : (x : ℕ) (xs : List ℕ) → IsStrictlyIncreasing (x ∷ xs) → IsStrictlyIncreasing xs
increases x xs increasing k lt = let more : suc k + 1 < length (x ∷ xs) = omega arith in simp unary_clauses (simp unary_clauses at (increasing (suc k) more))

ascend : (low : ℕ) (xs : List ℕ) → (0 < length xs → low ≤ get_or xs 0 0) → IsStrictlyIncreasing xs → AscendFrom low xs
ascend low [] first increasing = tt
ascend low (x ∷ xs) first increasing = (first (omega arith), ascend (x + 1) xs (λ some. let lt : 0 + 1 < length (x ∷ xs) = omega arith in let up : x < get_or xs 0 0 = increasing 0 lt in omega arith) (increases x xs increasing))

not_below : (low x : ℕ) (xs : List ℕ) → AscendFrom low xs → x < low → is_among xs x ≡ false
not_below low x [] up lt = refl
not_below low x (y ∷ xs) up lt =
    let tail = not_below (y + 1) x xs up.1 (omega (arith, up.0)) in
    let head : x < y = omega (arith, up.0) in
    grind arith

-- What of a range a test keeps are the numbers, where it agrees on being among them.
kept_range : (test : ℕ → Bool) (n low : ℕ) (xs : List ℕ) → AscendFrom low xs → ((x : ℕ) → low ≤ x → test x ≡ is_among xs x) → ((x : ℕ) → is_among xs x ≡ true → x < low + n) →
    filter test (range_with_len low n) ≡ xs
kept_range test zero low [] up agree few = refl
kept_range test zero low (x ∷ xs) up agree few = let here : is_among (x ∷ xs) x ≡ true = grind arith in let lt = few x here in absurd (omega (arith, up.0))
kept_range test (suc n) low [] up agree few =
    let rest = kept_range test n (low + 1) [] tt (λ x le. agree x (omega arith)) (λ x there. absurd (cc)) in
    let out : test low ≡ false = agree low (omega arith) in
    rw out rest
kept_range test (suc n) low (x ∷ xs) up agree few = elim (cases_Bool (nat_eq x low)) [
  | inl same ↦
      let is : x ≡ low = eqb-true x low same in
      let inside : test low ≡ true = agree low (omega arith) ∙ (grind arith) in
      let rest : filter test (range_with_len (low + 1) n) ≡ xs = kept_range test n (low + 1) xs (rw is at up.1) (λ y le. agree y (omega arith) ∙ (grind arith)) (λ y there. let lt = few y (or_right (nat_eq y x) (is_among xs y) there) in omega arith) in
      rw inside (rw is (ap (λ (ys : List ℕ). low ∷ ys) rest))
  | inr other ↦
      let above : low < x = grind arith in
      let outside : test low ≡ false = agree low (omega arith) ∙ not_below (low + 1) low (x ∷ xs) (omega arith, up.1) (omega arith) in
      rw outside (kept_range test n (low + 1) (x ∷ xs) (omega arith, up.1) (λ y le. agree y (omega arith)) (λ y there. let lt = few y there in omega arith))
]

filter_within : (test p : ℕ → Bool) → ((x : ℕ) → test x ≡ true → p x ≡ true) → (xs : List ℕ) → filter test (filter p xs) ≡ filter test xs
filter_within test p within [] = refl
filter_within test p within (x ∷ xs) = let rest = filter_within test p within xs in elim (cases_Bool (p x)) [
  | inl passes ↦ rw passes (ap (λ (ys : List ℕ). cond (test x) (x ∷ ys) ys) rest)
  | inr fails ↦ elim (cases_Bool (test x)) [
    | inl is ↦ let passes = within x is in cc
    | inr out ↦ rw (fails, out) rest
  ]
]

-- what is among what a test keeps passes it
passes : (p : ℕ → Bool) (xs : List ℕ) (x : ℕ) → is_among (filter p xs) x ≡ true → p x ≡ true
passes p [] x there = absurd (cc)
passes p (y ∷ xs) x there = elim (cases_Bool (p y)) [
  | inl is ↦ by_head is (passes p xs x) (cases_Bool (nat_eq x y)) (rw is at there)
  | inr out ↦ passes p xs x (rw out at there)
]
  where
    by_head : p y ≡ true → (is_among (filter p xs) x ≡ true → p x ≡ true) → (nat_eq x y ≡ true) ⊎ (nat_eq x y ≡ false) → (nat_eq x y || is_among (filter p xs) x) ≡ true → p x ≡ true
    by_head is rest (inl same) h = ap p (eqb-true x y same) ∙ is
    by_head is rest (inr other) h = rest (rw other at h)

-- What a test keeps of numbers that ascend is what, of those of a range that pass it, is among them, where only numbers of the range do.
pub sublist : (p : ℕ → Bool) (n : ℕ) (xs kept : List ℕ) → IsStrictlyIncreasing xs → ((x : ℕ) → p x ≡ true → x < n) → kept ≡ filter p xs → kept ≡ filter (is_among kept) (filter p (range_with_len 0 n))
sublist p n xs kept up within is =
    let rises : IsStrictlyIncreasing kept = rw is (IsStrictlyIncreasing-filter p xs up) in
    let pass : (x : ℕ) → is_among kept x ≡ true → p x ≡ true = λ x there. passes p xs x (rw is at there) in
    sym (filter_within (is_among kept) p pass (range_with_len 0 n)
    ∙ kept_range (is_among kept) n 0 kept (ascend 0 kept (λ some. omega arith) rises) (λ x le. refl) (λ x there. let lt : x < n = within x (pass x there) in omega arith))
