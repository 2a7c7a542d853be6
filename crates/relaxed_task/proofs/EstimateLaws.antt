-- Laws of estimates: their order, sums and the lesser of two.
use Rattle.std.proofs.Common.{◌≡◌, ap, refl, ℕ, min, ◌≤◌, ◌⊎◌, inl, inr, true, false, ◌&&◌, ◌||◌, sym, ◌∙◌, arith}
use Rattle.lama_num.specs.declared.estimates.Estimate.{Estimate}
use Rattle.lama_num.specs.declared.estimates.Estimate.TheVariants.{Finite, Infinite}
use Rattle.lama_num.specs.Estimates.{estimate_sum}
use Rattle.relaxed_task.specs.Estimates.{least, is_finite, IsAtMost}

-- order
pub at_most_self : (a : Estimate) → IsAtMost a a
at_most_self (Finite a) = omega arith
at_most_self Infinite = tt

pub at_most_trans : (a b c : Estimate) → IsAtMost a b → IsAtMost b c → IsAtMost a c
at_most_trans (Finite a) (Finite b) (Finite c) h k = omega arith
at_most_trans (Finite a) b Infinite h k = tt
at_most_trans (Finite a) Infinite (Finite c) h k = absurd k
at_most_trans Infinite (Finite b) c h k = absurd h
at_most_trans Infinite Infinite (Finite c) h k = absurd k
at_most_trans Infinite Infinite Infinite h k = tt

pub at_most_infinite : (a : Estimate) → IsAtMost a Infinite
at_most_infinite (Finite a) = tt
at_most_infinite Infinite = tt

pub at_most_both : (a b : Estimate) → IsAtMost a b → IsAtMost b a → a ≡ b
at_most_both (Finite a) (Finite b) h k = ap (λ (n : ℕ). Finite n) (omega arith)
at_most_both (Finite a) Infinite h k = absurd k
at_most_both Infinite (Finite b) h k = absurd h
at_most_both Infinite Infinite h k = refl

-- what is finite
pub infinite_where_not : (a : Estimate) → is_finite a ≡ false → a ≡ Infinite
infinite_where_not (Finite a) h = let k : true ≡ false = h in cc
infinite_where_not Infinite h = refl

pub infinite_only : (a : Estimate) → IsAtMost Infinite a → a ≡ Infinite
infinite_only (Finite a) h = absurd h
infinite_only Infinite h = refl

pub finite_below : (a : Estimate) (n : ℕ) → IsAtMost a (Finite n) → (k : ℕ) × (a ≡ Finite k) × (k ≤ n)
finite_below (Finite k) n le = (k, refl, le)
finite_below Infinite n le = absurd le

pub finite_least : (a b : Estimate) → is_finite (least a b) ≡ (is_finite a || is_finite b)
finite_least (Finite a) (Finite b) = refl
finite_least (Finite a) Infinite = refl
finite_least Infinite b = refl

pub finite_plus : (a b : Estimate) → is_finite (estimate_sum a b) ≡ (is_finite a && is_finite b)
finite_plus (Finite a) (Finite b) = refl
finite_plus (Finite a) Infinite = refl
finite_plus Infinite b = refl

-- the lesser of two
pub least_left : (a b : Estimate) → IsAtMost (least a b) a
least_left (Finite a) (Finite b) = omega arith
least_left (Finite a) Infinite = omega arith
least_left Infinite b = at_most_infinite b

pub least_right : (a b : Estimate) → IsAtMost (least a b) b
least_right (Finite a) (Finite b) = omega arith
least_right (Finite a) Infinite = tt
least_right Infinite b = at_most_self b

pub both_at_least : (a b c : Estimate) → IsAtMost a b → IsAtMost a c → IsAtMost a (least b c)
both_at_least (Finite a) (Finite b) (Finite c) h k = omega arith
both_at_least (Finite a) (Finite b) Infinite h k = h
both_at_least (Finite a) Infinite c h k = k
both_at_least Infinite (Finite b) c h k = absurd h
both_at_least Infinite Infinite c h k = k

pub least_cases : (a b : Estimate) (n : ℕ) → least a b ≡ Finite n → (a ≡ Finite n) ⊎ (b ≡ Finite n)
least_cases (Finite a) (Finite b) n is = by_order (order a b)
  where
    order : (a b : ℕ) → (min a b ≡ a) ⊎ (min a b ≡ b)
    order a b = grind arith

    by_order : (min a b ≡ a) ⊎ (min a b ≡ b) → (Finite a ≡ Finite n) ⊎ (Finite b ≡ Finite n)
    by_order (inl e) = inl (ap (λ (k : ℕ). Finite k) (sym e) ∙ is)
    by_order (inr e) = inr (ap (λ (k : ℕ). Finite k) (sym e) ∙ is)
least_cases (Finite a) Infinite n is = inl is
least_cases Infinite b n is = inr is

-- sums
pub plus_at_most : (a b c d : Estimate) → IsAtMost a c → IsAtMost b d → IsAtMost (estimate_sum a b) (estimate_sum c d)
plus_at_most (Finite a) (Finite b) (Finite c) (Finite d) h k = omega arith
plus_at_most (Finite a) (Finite b) (Finite c) Infinite h k = tt
plus_at_most (Finite a) (Finite b) Infinite d h k = tt
plus_at_most (Finite a) Infinite (Finite c) (Finite d) h k = absurd k
plus_at_most (Finite a) Infinite (Finite c) Infinite h k = tt
plus_at_most (Finite a) Infinite Infinite d h k = tt
plus_at_most Infinite b (Finite c) d h k = absurd h
plus_at_most Infinite b Infinite d h k = tt

pub plus_assoc : (a b c : Estimate) → estimate_sum (estimate_sum a b) c ≡ estimate_sum a (estimate_sum b c)
plus_assoc (Finite a) (Finite b) (Finite c) = ap (λ (n : ℕ). Finite n) (omega arith)
plus_assoc (Finite a) (Finite b) Infinite = refl
plus_assoc (Finite a) Infinite c = refl
plus_assoc Infinite b c = refl

-- at most 1,000,000,000, where it is finite
abbrev pub IsCapped : Estimate → Type 0
IsCapped (Finite a) = a ≤ 1000000000
IsCapped Infinite = Unit {0}

pub plus_capped : (a b : Estimate) → IsCapped (estimate_sum a b)
plus_capped (Finite a) (Finite b) = omega arith
plus_capped (Finite a) Infinite = tt
plus_capped Infinite b = tt

pub least_capped : (a b : Estimate) → IsCapped a → IsCapped b → IsCapped (least a b)
least_capped (Finite a) (Finite b) h k = omega arith
least_capped (Finite a) Infinite h k = h
least_capped Infinite b h k = k

pub plus_zero : (a : Estimate) → IsCapped a → estimate_sum a (Finite 0) ≡ a
plus_zero (Finite a) h = ap (λ (n : ℕ). Finite n) (omega arith)
plus_zero Infinite h = refl

pub zero_plus : (a : Estimate) → IsCapped a → estimate_sum (Finite 0) a ≡ a
zero_plus (Finite a) h = ap (λ (n : ℕ). Finite n) (omega arith)
zero_plus Infinite h = refl

pub plus_left : (a b : Estimate) → IsCapped a → IsAtMost a (estimate_sum a b)
plus_left (Finite a) (Finite b) capped = omega arith
plus_left (Finite a) Infinite capped = tt
plus_left Infinite b capped = tt

pub plus_right : (a b : Estimate) → IsCapped b → IsAtMost b (estimate_sum a b)
plus_right (Finite a) (Finite b) capped = omega arith
plus_right (Finite a) Infinite capped = tt
plus_right Infinite (Finite b) capped = tt
plus_right Infinite Infinite capped = tt
