-- Sums over the nodes below a number.
use Rattle.std.proofs.Common.{◌≡◌, ◌∙◌, ap, refl, ℕ, zero, suc, ◌+◌, List, [], ◌∷◌, ◌++◌, Bool, true, false, filter, sum_by, min, if◌then◌else◌, arith}
use Rattle.std.specs.List.{range_with_len}
use Rattle.std.proofs.lemmas.List.Sums.{sum_by-append}
use Rattle.std.proofs.lemmas.List.Elements.{filter-append}

range_more_from : (a n : ℕ) → range_with_len a (n + 1) ≡ range_with_len a n ++ (a + n) ∷ []
range_more_from a zero = let e : range_with_len a 1 ≡ a ∷ [] = refl in e ∙ ap (λ k. k ∷ []) (omega arith)
range_more_from a (suc n) =
    let long : suc n + 1 ≡ suc (n + 1) = omega arith in
    let place : (a + 1) + n ≡ a + suc n = omega arith in
    ap (range_with_len a) long ∙ ap (λ (ns : List ℕ). a ∷ ns) (range_more_from (a + 1) n ∙ ap (λ k. range_with_len (a + 1) n ++ k ∷ []) place)

pub range_more : (n : ℕ) → range_with_len 0 (n + 1) ≡ range_with_len 0 n ++ n ∷ []
range_more n = range_more_from 0 n ∙ ap (λ k. range_with_len 0 n ++ k ∷ []) (omega arith)

-- the sum over one node more
pub sum_more : (f : ℕ → ℕ) (p : ℕ → Bool) (n : ℕ) → sum_by f (filter p (range_with_len 0 (n + 1))) ≡ sum_by f (filter p (range_with_len 0 n)) + (if p n then f n else 0)
sum_more f p n =
    ap (λ (ns : List ℕ). sum_by f (filter p ns)) (range_more n)
    ∙ (ap (sum_by f) (filter-append p (range_with_len 0 n) (n ∷ []))
    ∙ (sum_by-append f (filter p (range_with_len 0 n)) (filter p (n ∷ [])) ∙ ap (λ k. sum_by f (filter p (range_with_len 0 n)) + k) (one (p n))))
  where
    one : (b : Bool) → sum_by f (if b then n ∷ [] else []) ≡ (if b then f n else 0)
    one true = omega arith
    one false = refl

-- the sum so far, cut off at the greatest estimate
pub capped_more : (f : ℕ → ℕ) (p : ℕ → Bool) (n sum : ℕ) → p n ≡ true → sum ≡ min (sum_by f (filter p (range_with_len 0 n))) 1000000000 →
    min (sum + f n) 1000000000 ≡ min (sum_by f (filter p (range_with_len 0 (n + 1)))) 1000000000
capped_more f p n sum passes is =
    let more : sum_by f (filter p (range_with_len 0 (n + 1))) ≡ sum_by f (filter p (range_with_len 0 n)) + f n = sum_more f p n ∙ ap (λ b. sum_by f (filter p (range_with_len 0 n)) + (if b then f n else 0)) passes in
    omega (arith, more, is)

pub capped_same : (f : ℕ → ℕ) (p : ℕ → Bool) (n sum : ℕ) → p n ≡ false → sum ≡ min (sum_by f (filter p (range_with_len 0 n))) 1000000000 →
    sum ≡ min (sum_by f (filter p (range_with_len 0 (n + 1)))) 1000000000
capped_same f p n sum fails is =
    let more : sum_by f (filter p (range_with_len 0 (n + 1))) ≡ sum_by f (filter p (range_with_len 0 n)) + 0 = sum_more f p n ∙ ap (λ b. sum_by f (filter p (range_with_len 0 n)) + (if b then f n else 0)) fails in
    omega (arith, more, is)
