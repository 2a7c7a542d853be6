-- Laws of Laws.
use Rattle.std.specs.Prelude.{◌≡◌, ℕ, List, [], ◌∷◌, ◌++◌, true, false, ◌&&◌, not, nat_eq, map, reverse}
use Rattle.std.specs.List.{list_all}
use Rattle.std.proofs.Common.{◌∙◌, refl, ap}
use Rattle.std.proofs.lemmas.List.{reverse-append, reverse-reverse}
use Rattle.lama_num.proofs.ListLaws.{both}
use Rattle.text_lines.specs.Lines.{cut_lines, is_margin, without_left, without_right, trimmed, lines_of}
use Rattle.text_lines.specs.Texts.{text_of, has_no_feed, begins_bare, is_line}

-- a line with its line feed is cut off
pub cut_lines-feed : (line rest : List ℕ) → has_no_feed line ≡ true → cut_lines (line ++ 10 ∷ rest) ≡ line ∷ cut_lines rest
cut_lines-feed [] rest is = refl
cut_lines-feed (b ∷ bs) rest is =
    let parts = both (not (nat_eq b 10)) (has_no_feed bs) is in
    let more : cut_lines (bs ++ 10 ∷ rest) ≡ bs ∷ cut_lines rest = cut_lines-feed bs rest parts.1 in
    elim (nat_eq b 10) as (λ t. nat_eq b 10 ≡ t → cut_lines (b ∷ (bs ++ 10 ∷ rest)) ≡ (b ∷ bs) ∷ cut_lines rest) [
      | true ↦ λ e. let k : false ≡ true = rw e at parts.0 in cc
      | false ↦ λ e. rw (e, more) refl
    ] refl

left_bare : (line : List ℕ) → begins_bare line ≡ true → without_left line ≡ line
left_bare [] is = refl
left_bare (b ∷ bs) is = elim (is_margin b) as (λ t. is_margin b ≡ t → without_left (b ∷ bs) ≡ b ∷ bs) [
  | true ↦ λ e. let k : false ≡ true = rw e at is in cc
  | false ↦ λ e. rw e refl
] refl

-- a line that is bare at both ends stays
pub trimmed-bare : (line : List ℕ) → begins_bare line ≡ true → begins_bare (reverse line) ≡ true → trimmed line ≡ line
trimmed-bare line first last = ap without_right (left_bare line first) ∙ ap reverse (left_bare (reverse line) last) ∙ reverse-reverse line

-- a line is bare at its end where its last byte is no margin
pub begins_bare-reverse : (front : List ℕ) (b : ℕ) → is_margin b ≡ false → begins_bare (reverse (front ++ b ∷ [])) ≡ true
begins_bare-reverse front b bare = rw (reverse-append front (b ∷ [])) (ap not bare)

-- reading gives the lines that a text was made of
pub lines_of-text_of : (lines : List (List ℕ)) → list_all is_line lines ≡ true → lines_of (text_of lines) ≡ lines
lines_of-text_of [] all = refl
lines_of-text_of (line ∷ lines) all =
    let parts = both (is_line line) (list_all is_line lines) all in
    let here = both (has_no_feed line) (begins_bare line && begins_bare (reverse line)) parts.0 in
    let ends = both (begins_bare line) (begins_bare (reverse line)) here.1 in
    ap (map trimmed) (cut_lines-feed line (text_of lines) here.0)
    ∙ (ap (λ l. l ∷ lines_of (text_of lines)) (trimmed-bare line ends.0 ends.1) ∙ ap (λ ls. line ∷ ls) (lines_of-text_of lines parts.1))
