-- Rows at their places in one list.
use Rattle.std.proofs.Common.{◌≡◌, ◌≢◌, ◌∙◌, sym, ap, subst, ℕ, ◌+◌, ◌-◌, ◌*◌, ◌<◌, ◌≤◌, ◌⊎◌, inl, inr, List, ◌++◌, length, take, drop, arith, length-append, length-take, length-drop}
use Rattle.std.proofs.Math.Nat.{mul-le-mul_right}
use Rattle.std.proofs.lemmas.Slice.{between_is, between-put_mid, take-put_mid_below, drop-put_mid}
use borrow.Rule.Slice.PartMut.{put_mid, post_of}
use Rattle.lm_tracks.specs.Rows.{row_in, IsThere, Stores}

next_place : (m n w : ℕ) → m < n → m * w + w ≤ n * w
next_place m n w lt =
    let le : m + 1 ≤ n = omega arith in
    let mul : (m + 1) * w ≤ n * w = mul-le-mul_right w le in
    omega arith

apart : (m n : ℕ) → m ≢ n → (m < n) ⊎ (n < m)
apart m n other = grind arith

written_long : (a k : ℕ) (old row : List ℕ) → a + k ≤ length old → length row ≡ k → length (put_mid a k old row) ≡ length old
written_long a k old row le same =
    omega (arith, length-append (take a old) (row ++ post_of a k old), length-append row (post_of a k old), length-take a old, length-drop k (drop a old), length-drop a old)

-- a row that is written over what stood at its place
pub stored : (old row written : List ℕ) (n k : ℕ) → IsThere old (length row) n → k ≡ length row → written ≡ row → Stores old (put_mid (n * length row) k old written) row n
stored old row written n k there long is = subst (λ (ys : List ℕ). Stores old (put_mid (n * length row) k old ys) row n) (sym is) (record {
  there = omega (arith, same_long);
  here = between-put_mid start k old row (start + length row) within (omega arith);
  others_there = λ m le. omega (arith, same_long);
  others = λ m other le. by_order m le (apart m n other);
})
  where
    start : ℕ
    start = n * length row

    within : n * length row ≤ length old
    within = omega arith

    same_long : length (put_mid (n * length row) k old row) ≡ length old
    same_long = written_long (n * length row) k old row (omega arith) (sym long)

    by_order : (m : ℕ) → IsThere old (length row) m → (m < n) ⊎ (n < m) → row_in (put_mid (n * length row) k old row) (length row) m ≡ row_in old (length row) m
    by_order m le (inl before) =
        let end : m * length row + length row ≤ n * length row = next_place m n (length row) before in
        between_is (put_mid (n * length row) k old row) (m * length row) (m * length row + length row)
        ∙ (ap (drop (m * length row)) (take-put_mid_below (n * length row) k old row (m * length row + length row) end within)
        ∙ sym (between_is old (m * length row) (m * length row + length row)))
    by_order m le (inr behind) =
        let begin : n * length row + length row ≤ m * length row = next_place n m (length row) behind in
        let past : n * length row + k ≤ m * length row = omega arith in
        ap (take ((m * length row + length row) - m * length row)) (drop-put_mid (n * length row) k old row (m * length row) past within (sym long))
