-- Tests of some of the numbers below one.
use Rattle.std.proofs.Common.{◌≡◌, ◌∙◌, sym, ap, refl, ℕ, zero, suc, ◌+◌, ◌<◌, ◌≤◌, ◌∷◌, Bool, true, false, ◌&&◌, inl, inr, filter, if◌then◌else◌, arith}
use Rattle.std.specs.List.{list_any, range_with_len}
use Rattle.std.proofs.lemmas.Bool.{cases_eq, or_cases, or_left, or_right}
use Rattle.lama_num.proofs.BoolLaws.{both_ways}

-- a number of a range passes a test
pub record Passes (a n : ℕ) (test : ℕ → Bool) : Type 0 where
  pub number : ℕ
  pub from : a ≤ number
  pub below : number < a + n
  pub passes : test number ≡ true

pub from_range : (a n : ℕ) (test : ℕ → Bool) → list_any test (range_with_len a n) ≡ true → Passes a n test
from_range a zero test h = let k : false ≡ true = h in cc
from_range a (suc n) test h = elim (or_cases (test a) (list_any test (range_with_len (a + 1) n)) h) [
  | inl here ↦ record { number = a; from = omega arith; below = omega arith; passes = here }
  | inr later ↦ let p = from_range (a + 1) n test later in record { number = p.number; from = omega (arith, p.from); below = omega (arith, p.below); passes = p.passes }
]

pub to_range : (a n : ℕ) (test : ℕ → Bool) (m : ℕ) → a ≤ m → m < a + n → test m ≡ true → list_any test (range_with_len a n) ≡ true
to_range a zero test m from below passes = absurd (omega arith)
to_range a (suc n) test m from below passes = elim (cases_eq m a) [
  | inl same ↦ or_left _ _ (ap test (sym same) ∙ passes)
  | inr ne ↦ or_right (test a) _ (to_range (a + 1) n test m (omega arith) (omega arith) passes)
]

-- the same of those that are kept
pub from_kept : (a n : ℕ) (keep test : ℕ → Bool) → list_any test (filter keep (range_with_len a n)) ≡ true → Passes a n (λ m. keep m && test m)
from_kept a zero keep test h = let k : false ≡ true = h in cc
from_kept a (suc n) keep test h = by (keep a) refl h (from_kept (a + 1) n keep test)
  where
    wider : Passes (a + 1) n (λ m. keep m && test m) → Passes a (suc n) (λ m. keep m && test m)
    wider p = record { number = p.number; from = omega (arith, p.from); below = omega (arith, p.below); passes = p.passes }

    by : (b : Bool) → keep a ≡ b → list_any test (if b then a ∷ filter keep (range_with_len (a + 1) n) else filter keep (range_with_len (a + 1) n)) ≡ true →
        (list_any test (filter keep (range_with_len (a + 1) n)) ≡ true → Passes (a + 1) n (λ m. keep m && test m)) → Passes a (suc n) (λ m. keep m && test m)
    by true is h later = elim (or_cases (test a) (list_any test (filter keep (range_with_len (a + 1) n))) h) [
      | inl here ↦ record { number = a; from = omega arith; below = omega arith; passes = rw is here }
      | inr rest ↦ wider (later rest)
    ]
    by false is h later = wider (later h)

pub to_kept : (a n : ℕ) (keep test : ℕ → Bool) (m : ℕ) → a ≤ m → m < a + n → keep m ≡ true → test m ≡ true → list_any test (filter keep (range_with_len a n)) ≡ true
to_kept a zero keep test m from below kept passes = absurd (omega arith)
to_kept a (suc n) keep test m from below kept passes = elim (cases_eq m a) [
  | inl same ↦ let here : keep a ≡ true = ap keep (sym same) ∙ kept in rw here (or_left _ _ (ap test (sym same) ∙ passes))
  | inr ne ↦ more (keep a) (to_kept (a + 1) n keep test m (omega arith) (omega arith) kept passes)
]
  where
    more : (b : Bool) → list_any test (filter keep (range_with_len (a + 1) n)) ≡ true → list_any test (if b then a ∷ filter keep (range_with_len (a + 1) n) else filter keep (range_with_len (a + 1) n)) ≡ true
    more true rest = or_right (test a) _ rest
    more false rest = rest
