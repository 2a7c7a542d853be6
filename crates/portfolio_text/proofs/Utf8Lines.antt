-- The lines of a text are text.
use Rattle.std.proofs.Common.{◌≡◌, refl, sym, ap, subst, ℕ, zero, suc, ◌<◌, ◌≤◌, Bool, true, false, List, [], ◌∷◌, ◌++◌, length, map, reverse, get_or, arith, length-append, nat_eq}
use Rattle.std.specs.Prelude.{not, ◌||◌, if◌then◌else◌, ◌⊎◌}
use Rattle.std.proofs.Common.{inl, inr}
use Rattle.std.specs.List.{list_all, list_any}
use Rattle.std.specs.Str.{IsUtf8, is_utf8}
use Rattle.std.proofs.Math.Seq.{take-append_seam, drop-append_seam}
use Rattle.std.proofs.lemmas.Bool.{eqb-true, not-true as is_not}
use Rattle.std.proofs.lemmas.List.{reverse-append, reverse-reverse}
use Rattle.std.proofs.lemmas.Str.{IsUtf8-take, IsUtf8-drop, IsUtf8-from_is_utf8, is_utf8-from_IsUtf8, IsCharBoundary-before_ascii, IsCharBoundary-after_ascii}
use Rattle.lama_num.proofs.ListLaws.{both}
use Rattle.text_lines.specs.Lines.{cut_lines, onto, is_margin, without_left, trimmed, lines_of}
use Rattle.text_lines.specs.Texts.{has_no_feed}
use Rattle.text_lines.proofs.LineLaws.{cut_lines-feed}
use Rattle.portfolio_text.specs.PortfolioText.{is_plain}

-- the byte behind a front
at_seam : (front rest : List ℕ) (b : ℕ) → get_or (front ++ b ∷ rest) (length front) 0 ≡ b
at_seam [] rest b = refl
at_seam (x ∷ xs) rest b = at_seam xs rest b

-- what stands in front of a byte of ASCII is text
pub text_before : (front rest : List ℕ) (b : ℕ) → b < 128 → IsUtf8 (front ++ b ∷ rest) → IsUtf8 front
text_before front rest b small text =
    let at = at_seam front rest b in
    let len = length-append front (b ∷ rest) in
    let boundary = IsCharBoundary-before_ascii (front ++ b ∷ rest) (length front) (omega arith) (omega arith) in
    subst IsUtf8 (take-append_seam front (b ∷ rest)) (IsUtf8-take (front ++ b ∷ rest) (length front) text boundary)

-- so is what begins with it
pub text_from : (front rest : List ℕ) (b : ℕ) → b < 128 → IsUtf8 (front ++ b ∷ rest) → IsUtf8 (b ∷ rest)
text_from front rest b small text =
    let at = at_seam front rest b in
    let len = length-append front (b ∷ rest) in
    let boundary = IsCharBoundary-before_ascii (front ++ b ∷ rest) (length front) (omega arith) (omega arith) in
    subst IsUtf8 (drop-append_seam front (b ∷ rest)) (IsUtf8-drop (front ++ b ∷ rest) (length front) text boundary)

-- and what stands behind it
pub text_behind : (rest : List ℕ) (b : ℕ) → b < 128 → IsUtf8 (b ∷ rest) → IsUtf8 rest
text_behind rest b small text = IsUtf8-drop (b ∷ rest) 1 text (IsCharBoundary-after_ascii (b ∷ rest) 0 text (omega arith) small)

margin_small : (b : ℕ) → is_margin b ≡ true → b < 128
margin_small b margin = by_tests (nat_eq b 32) (nat_eq b 9) (nat_eq b 13) refl refl refl margin
  where
    by_tests : (space tab return : Bool) → nat_eq b 32 ≡ space → nat_eq b 9 ≡ tab → nat_eq b 13 ≡ return → ((space || tab) || return) ≡ true → b < 128
    by_tests true tab return s t r any = omega (arith, eqb-true b 32 s)
    by_tests false true return s t r any = omega (arith, eqb-true b 9 t)
    by_tests false false true s t r any = omega (arith, eqb-true b 13 r)
    by_tests false false false s t r any = let k : false ≡ true = any in absurd (let f : ⊥ = cc in f)

-- lines that are trimmed

left_text : (line : List ℕ) → IsUtf8 line → IsUtf8 (without_left line)
left_text [] text = text
left_text (b ∷ bs) text = by_test (is_margin b) refl (left_text bs)
  where
    by_test : (margin : Bool) → is_margin b ≡ margin → (IsUtf8 bs → IsUtf8 (without_left bs)) → IsUtf8 (if margin then without_left bs else b ∷ bs)
    by_test true e more = more (text_behind bs b (margin_small b e) text)
    by_test false e more = text

turned_text : (line : List ℕ) → IsUtf8 (reverse line) → IsUtf8 (reverse (without_left line))
turned_text [] text = text
turned_text (b ∷ bs) text = by_test (is_margin b) refl (turned_text bs)
  where
    by_test : (margin : Bool) → is_margin b ≡ margin → (IsUtf8 (reverse bs) → IsUtf8 (reverse (without_left bs))) → IsUtf8 (reverse (if margin then without_left bs else b ∷ bs))
    by_test true e more = more (text_before (reverse bs) [] b (margin_small b e) (subst IsUtf8 (reverse-append (b ∷ []) bs) text))
    by_test false e more = text

trimmed_text : (line : List ℕ) → IsUtf8 line → IsUtf8 (trimmed line)
trimmed_text line text =
    let left : List ℕ = without_left line in
    turned_text (reverse left) (subst IsUtf8 (sym (reverse-reverse left)) (left_text line text))

-- lines that are cut

pub record AtFeed (bytes : List ℕ) : Type 0 where
  pub line : List ℕ
  pub rest : List ℕ
  pub bare : has_no_feed line ≡ true
  pub is : bytes ≡ line ++ 10 ∷ rest

-- a text has no line feed, or a first one
first_feed : (bytes : List ℕ) → (has_no_feed bytes ≡ true) ⊎ AtFeed bytes
first_feed [] = inl refl
first_feed (b ∷ bs) = by_test (nat_eq b 10) refl (first_feed bs)
  where
    by_test : (feed : Bool) → nat_eq b 10 ≡ feed → (has_no_feed bs ≡ true) ⊎ AtFeed bs → (has_no_feed (b ∷ bs) ≡ true) ⊎ AtFeed (b ∷ bs)
    by_test true e found = inr (record { line = []; rest = bs; bare = refl; is = ap (λ (c : ℕ). c ∷ bs) (eqb-true b 10 e) })
    by_test false e (inl bare) = inl (rw (e, bare) refl)
    by_test false e (inr at) = inr (record { line = b ∷ at.line; rest = at.rest; bare = rw (e, at.bare) refl; is = ap (λ (bytes : List ℕ). b ∷ bytes) at.is })

one_line : (b : ℕ) (bs : List ℕ) → has_no_feed (b ∷ bs) ≡ true → cut_lines (b ∷ bs) ≡ (b ∷ bs) ∷ []
one_line b [] bare = rw (is_not (nat_eq b 10) (both (not (nat_eq b 10)) true bare).0) refl
one_line b (x ∷ xs) bare =
    let parts = both (not (nat_eq b 10)) (has_no_feed (x ∷ xs)) bare in
    let first : nat_eq b 10 ≡ false = is_not (nat_eq b 10) parts.0 in
    rw first (ap (onto b) (one_line x xs parts.1))

abbrev are_text : List (List ℕ) → Bool
are_text lines = list_all is_utf8 (map trimmed lines)

trimmed_is : (line : List ℕ) → IsUtf8 line → is_utf8 (trimmed line) ≡ true
trimmed_is line text = is_utf8-from_IsUtf8 (trimmed line) (trimmed_text line text)

cut_text : (n : ℕ) (bytes : List ℕ) → length bytes ≤ n → IsUtf8 bytes → are_text (cut_lines bytes) ≡ true
cut_text n [] few text = refl
cut_text zero (b ∷ bs) few text = absurd (omega arith)
cut_text (suc n) (b ∷ bs) few text = by_feed (first_feed (b ∷ bs)) (cut_text n)
  where
    by_feed : (has_no_feed (b ∷ bs) ≡ true) ⊎ AtFeed (b ∷ bs) → ((rest : List ℕ) → length rest ≤ n → IsUtf8 rest → are_text (cut_lines rest) ≡ true) → are_text (cut_lines (b ∷ bs)) ≡ true
    by_feed (inl bare) more = rw (one_line b bs bare, trimmed_is (b ∷ bs) text) refl
    by_feed (inr at) more =
        let whole : IsUtf8 (at.line ++ 10 ∷ at.rest) = subst IsUtf8 at.is text in
        let len = length-append at.line (10 ∷ at.rest) in
        let same : length (b ∷ bs) ≡ length (at.line ++ 10 ∷ at.rest) = ap length at.is in
        let line : IsUtf8 at.line = text_before at.line at.rest 10 (omega arith) whole in
        let rest : IsUtf8 at.rest = text_behind at.rest 10 (omega arith) (text_from at.line at.rest 10 (omega arith) whole) in
        subst (λ (bytes : List ℕ). are_text (cut_lines bytes) ≡ true) (sym at.is) (rw (cut_lines-feed at.line at.rest at.bare, trimmed_is at.line line, more at.rest (omega arith) rest) refl)

pub lines_are_text : (bytes : List ℕ) → is_plain bytes ≡ true → list_all is_utf8 (lines_of bytes) ≡ true
lines_are_text bytes plain = cut_text (length bytes) bytes (omega arith) (IsUtf8-from_is_utf8 bytes (both (is_utf8 bytes) (not (list_any (λ b. nat_eq b 0) bytes)) plain).0)

-- bytes that aren't text fail the test
pub not_text : (bytes : List ℕ) → ¬ (IsUtf8 bytes) → false ≡ is_utf8 bytes
not_text bytes other = by_test (is_utf8 bytes) refl
  where
    by_test : (text : Bool) → is_utf8 bytes ≡ text → false ≡ text
    by_test true e = absurd (other (IsUtf8-from_is_utf8 bytes e))
    by_test false e = refl
