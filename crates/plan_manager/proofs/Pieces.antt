-- Bytes that are moved from a text to a window.
use Rattle.std.proofs.Common.{◌≡◌, ◌∙◌, sym, ap, refl, ℕ, ◌≤◌, ◌<◌, List, [], ◌++◌, length, arith, ◌⊎◌, inl, inr, append_assoc, append-nil}

-- a part went to the window as far as there was room
pub record IsPut (old new part rest : List ℕ) : Type 0 where
  pub moved : new ++ rest ≡ old ++ part
  pub full : length new < 8192 → rest ≡ []
  pub stuck : 8192 ≤ length old → (new ≡ old) × (rest ≡ part)

short_or_full : (n : ℕ) → (n < 8192) ⊎ (8192 ≤ n)
short_or_full n = grind arith

whole : (old new part rest : List ℕ) → IsPut old new part rest → length new < 8192 → new ≡ old ++ part
whole old new part rest put short =
    let none : rest ≡ [] = put.full short in
    sym (append-nil new) ∙ ap (λ r. new ++ r) (sym none) ∙ put.moved

-- three parts, one after the other
pub put_three : (w v u t a b c x y z later : List ℕ) → IsPut w v a x → IsPut v u b y → IsPut u t c z → t ++ ((x ++ y ++ z) ++ later) ≡ w ++ ((a ++ b ++ c) ++ later)
put_three w v u t a b c x y z later first second third =
    elim (short_or_full (length v)) [
      | inl short ↦
          let none_x : x ≡ [] = first.full short in
          let all_v : v ≡ w ++ a = whole w v a x first short in
          elim (short_or_full (length u)) [
            | inl shorter ↦
                let none_y : y ≡ [] = second.full shorter in
                let all_u : u ≡ v ++ b = whole v u b y second shorter in
                let goes : (t ++ z) ++ later ≡ (((w ++ a) ++ b) ++ c) ++ later = ap (λ l. l ++ later) (third.moved ∙ ap (λ l. l ++ c) (all_u ∙ ap (λ l. l ++ b) all_v)) in
                rw (none_x, none_y) (sym (append_assoc t z later) ∙ goes ∙ simp append_assoc)
            | inr full ↦
                let same = third.stuck full in
                let left : ((u ++ y) ++ c) ++ later ≡ u ++ ((y ++ c) ++ later) = simp append_assoc in
                let goes : ((u ++ y) ++ c) ++ later ≡ (((w ++ a) ++ b) ++ c) ++ later = ap (λ l. (l ++ c) ++ later) (second.moved ∙ ap (λ l. l ++ b) all_v) in
                rw (none_x, same.0, same.1) (sym left ∙ goes ∙ simp append_assoc)
          ]
      | inr full ↦
          let same = second.stuck full in
          let also = third.stuck (rw same.0 full) in
          let left : (((v ++ x) ++ b) ++ c) ++ later ≡ v ++ ((x ++ b ++ c) ++ later) = simp append_assoc in
          let goes : (((v ++ x) ++ b) ++ c) ++ later ≡ (((w ++ a) ++ b) ++ c) ++ later = ap (λ l. ((l ++ b) ++ c) ++ later) first.moved in
          rw (also.0, also.1, same.0, same.1) (sym left ∙ goes ∙ simp append_assoc)
    ]

-- where there is still room nothing of them is left
pub three_put : (w v u t a b c x y z : List ℕ) → IsPut w v a x → IsPut v u b y → IsPut u t c z → length t < 8192 → x ++ y ++ z ≡ []
three_put w v u t a b c x y z first second third short =
    elim (short_or_full (length u)) [
      | inl shorter ↦ elim (short_or_full (length v)) [
        | inl shortest ↦ rw (first.full shortest, second.full shorter, third.full short) refl
        | inr full ↦ let same = second.stuck full in absurd (omega (arith, ap length same.0))
      ]
      | inr full ↦ let same = third.stuck full in absurd (omega (arith, ap length same.0))
    ]
