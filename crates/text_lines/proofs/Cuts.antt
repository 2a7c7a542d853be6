-- The first line of a text, and the first word of a line.
use Rattle.std.proofs.Common.{◌≡◌, sym, refl, ℕ, suc, ◌+◌, ◌<◌, ◌≤◌, List, [], ◌∷◌, length, take, drop, Bool, true, false, cond, nat_eq, nat_lt, Some, None, arith, position}
use Rattle.std.specs.List.{position_or_len}
use Rattle.std.proofs.lemmas.Bool.Decides.{nat_tests}
use Rattle.text_lines.specs.Lines.{cut_lines, pieces_of, words_of, is_blank, onto, FirstIsNoBlank}

abbrev is_feed : ℕ → Bool
is_feed b = nat_eq b 10

-- the place of a separator, or the length where there is none
abbrev at : (ℕ → Bool) → List ℕ → ℕ
at s bytes = position_or_len s bytes

found_is : (s : ℕ → Bool) (bytes : List ℕ) (i : ℕ) (t : Bool) → nat_lt (at s bytes) (length bytes) ≡ t → cond t (Some (at s bytes)) None ≡ Some i → (i ≡ at s bytes) × (at s bytes < length bytes)
found_is s bytes i true is found = let f : Some (at s bytes) ≡ Some i = found in let e : at s bytes ≡ i = cc in (sym e, grind (arith, nat_tests, is))
found_is s bytes i false is found = let f : None ≡ Some i = found in cc

none_is : (s : ℕ → Bool) (bytes : List ℕ) (t : Bool) → nat_lt (at s bytes) (length bytes) ≡ t → cond t (Some (at s bytes)) None ≡ None → length bytes ≤ at s bytes
none_is s bytes true is none = let f : Some (at s bytes) ≡ None = none in cc
none_is s bytes false is none = grind (arith, nat_tests, is)

line_at : (bytes : List ℕ) (k : ℕ) → k ≡ at is_feed bytes → k < length bytes → cut_lines bytes ≡ take k bytes ∷ cut_lines (drop (k + 1) bytes)
line_at [] k is lt = absurd (omega arith)
line_at (b ∷ bs) k is lt =
    elim (nat_eq b 10) as (λ t. nat_eq b 10 ≡ t → cut_lines (b ∷ bs) ≡ take k (b ∷ bs) ∷ cut_lines (drop (k + 1) (b ∷ bs))) [
      | true ↦ λ e. let z : k ≡ 0 = rw e at is in rw (z, e) refl
      | false ↦ λ e.
          let one_more : k ≡ 1 + at is_feed bs = rw e at is in
          let s : k ≡ suc (at is_feed bs) = omega arith in
          let tail : cut_lines bs ≡ take (at is_feed bs) bs ∷ cut_lines (drop (at is_feed bs + 1) bs) = line_at bs (at is_feed bs) refl (omega arith) in
          let one : suc (at is_feed bs) + 1 ≡ suc (at is_feed bs + 1) = omega arith in
          rw (s, e, tail, one) refl
    ] refl

last_line : (bytes : List ℕ) → length bytes ≤ at is_feed bytes → 0 < length bytes → cut_lines bytes ≡ bytes ∷ []
last_line [] le pos = absurd (omega arith)
last_line (b ∷ bs) le pos =
    elim (nat_eq b 10) as (λ t. nat_eq b 10 ≡ t → cut_lines (b ∷ bs) ≡ (b ∷ bs) ∷ []) [
      | true ↦ λ e. let here : suc (length bs) ≤ 0 = rw e at le in absurd (omega arith)
      | false ↦ λ e. let more : suc (length bs) ≤ 1 + at is_feed bs = rw e at le in rw e (rest bs (omega arith) (last_line bs (omega arith)))
    ] refl
  where
    rest : (xs : List ℕ) → length xs ≤ at is_feed xs → (0 < length xs → cut_lines xs ≡ xs ∷ []) → onto b (cut_lines xs) ≡ (b ∷ xs) ∷ []
    rest [] le whole = refl
    rest (x ∷ xs) le whole = let w : cut_lines (x ∷ xs) ≡ (x ∷ xs) ∷ [] = whole (omega arith) in rw w refl

-- a line with its line feed
pub cut_lines-position : (bytes : List ℕ) (i : ℕ) → position (λ b. nat_eq b 10) bytes ≡ Some i → cut_lines bytes ≡ take i bytes ∷ cut_lines (drop (i + 1) bytes)
cut_lines-position bytes i found = let is = found_is is_feed bytes i _ refl found in line_at bytes i is.0 (omega arith)

-- a line without
pub cut_lines-none : (bytes : List ℕ) → position (λ b. nat_eq b 10) bytes ≡ None → 0 < length bytes → cut_lines bytes ≡ bytes ∷ []
cut_lines-none bytes none pos = last_line bytes (none_is is_feed bytes _ refl none) pos

piece_at : (bytes : List ℕ) (k : ℕ) → k ≡ at is_blank bytes → k < length bytes → pieces_of bytes ≡ take k bytes ∷ pieces_of (drop (k + 1) bytes)
piece_at [] k is lt = absurd (omega arith)
piece_at (b ∷ bs) k is lt =
    elim (is_blank b) as (λ t. is_blank b ≡ t → pieces_of (b ∷ bs) ≡ take k (b ∷ bs) ∷ pieces_of (drop (k + 1) (b ∷ bs))) [
      | true ↦ λ e. let z : k ≡ 0 = rw e at is in rw (z, e) refl
      | false ↦ λ e.
          let one_more : k ≡ 1 + at is_blank bs = rw e at is in
          let s : k ≡ suc (at is_blank bs) = omega arith in
          let tail : pieces_of bs ≡ take (at is_blank bs) bs ∷ pieces_of (drop (at is_blank bs + 1) bs) = piece_at bs (at is_blank bs) refl (omega arith) in
          let one : suc (at is_blank bs) + 1 ≡ suc (at is_blank bs + 1) = omega arith in
          rw (s, e, tail, one) refl
    ] refl

last_piece : (bytes : List ℕ) → length bytes ≤ at is_blank bytes → pieces_of bytes ≡ bytes ∷ []
last_piece [] le = refl
last_piece (b ∷ bs) le =
    elim (is_blank b) as (λ t. is_blank b ≡ t → pieces_of (b ∷ bs) ≡ (b ∷ bs) ∷ []) [
      | true ↦ λ e. let here : suc (length bs) ≤ 0 = rw e at le in absurd (omega arith)
      | false ↦ λ e. let more : suc (length bs) ≤ 1 + at is_blank bs = rw e at le in let tail : pieces_of bs ≡ bs ∷ [] = last_piece bs (omega arith) in rw (e, tail) refl
    ] refl

-- a word with the blank behind it
pub words_of-position : (bytes : List ℕ) (i : ℕ) → FirstIsNoBlank bytes → position is_blank bytes ≡ Some i → words_of bytes ≡ take i bytes ∷ words_of (drop (i + 1) bytes)
words_of-position [] i bare found = let is = found_is is_blank [] i _ refl found in absurd (omega arith)
words_of-position (b ∷ bs) i bare found =
    let is = found_is is_blank (b ∷ bs) i _ refl found in
    let one_more : i ≡ 1 + at is_blank bs = rw bare at is.0 in
    let s : i ≡ suc (at is_blank bs) = omega arith in
    let cut : pieces_of (b ∷ bs) ≡ take i (b ∷ bs) ∷ pieces_of (drop (i + 1) (b ∷ bs)) = piece_at (b ∷ bs) i is.0 (omega arith) in
    rw cut (rw s refl)

-- a word without
pub words_of-none : (bytes : List ℕ) → FirstIsNoBlank bytes → position is_blank bytes ≡ None → 0 < length bytes → words_of bytes ≡ bytes ∷ []
words_of-none [] bare none pos = absurd (omega arith)
words_of-none (b ∷ bs) bare none pos = let cut : pieces_of (b ∷ bs) ≡ (b ∷ bs) ∷ [] = last_piece (b ∷ bs) (none_is is_blank (b ∷ bs) _ refl none) in rw cut refl
