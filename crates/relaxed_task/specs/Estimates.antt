-- The lesser of estimates, and their order.
use Rattle.std.specs.Prelude.{◌≡◌, ◌≤◌, ℕ, min, Bool, true, false}
use Rattle.lama_num.specs.declared.estimates.Estimate.{Estimate}
use Rattle.lama_num.specs.declared.estimates.Estimate.TheVariants.{Finite, Infinite}

-- the lesser
abbrev pub least : Estimate → Estimate → Estimate
least (Finite a) (Finite b) = Finite (min a b)
least (Finite a) Infinite = Finite a
least Infinite b = b

abbrev pub is_finite : Estimate → Bool
is_finite (Finite a) = true
is_finite Infinite = false

-- no more than another
abbrev pub IsAtMost : Estimate → Estimate → Type 0
IsAtMost (Finite a) (Finite b) = a ≤ b
IsAtMost (Finite a) Infinite = Unit {0}
IsAtMost Infinite (Finite b) = ⊥
IsAtMost Infinite Infinite = Unit {0}

-- the least over all rounds
pub record IsLeast (values : ℕ → Estimate) (value : Estimate) : Type 0 where
  pub round : ℕ
  pub is : values round ≡ value
  pub least : (n : ℕ) → IsAtMost value (values n)
