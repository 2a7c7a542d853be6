-- Where the first blank of a line is.
use Rattle.std.proofs.Common.{◌≡◌, refl, sym, ap, ℕ, zero, suc, ◌<◌, ◌≤◌, Bool, true, false, List, [], ◌∷◌, length, take, drop, get_or, Some, None, arith, nat_eq, nat_lt}
use Rattle.std.specs.Prelude.{position, slice_get, if◌then◌else◌, ◌||◌}
use Rattle.std.specs.List.{position_or_len}
use Rattle.std.specs.Str.{IsUtf8, IsCharBoundary}
use Rattle.std.proofs.lemmas.Bool.{eqb-true}
use Rattle.std.proofs.lemmas.Bool.Decides.{nat_tests}
use Rattle.std.proofs.lemmas.List.Quantifiers.{position-Some}
use Rattle.std.proofs.lemmas.Str.{IsCharBoundary-before_ascii, IsCharBoundary-after_ascii}
use Rattle.text_lines.specs.Lines.{is_blank}
use Rattle.portfolio_text.specs.PortfolioText.{first_word, without_blanks, behind_word}

blank_small : (b : ℕ) → is_blank b ≡ true → b < 128
blank_small b blank = by_tests (nat_eq b 32) (nat_eq b 9) refl refl blank
  where
    by_tests : (space tab : Bool) → nat_eq b 32 ≡ space → nat_eq b 9 ≡ tab → (space || tab) ≡ true → b < 128
    by_tests true tab s t any = omega (arith, eqb-true b 32 s)
    by_tests false true s t any = omega (arith, eqb-true b 9 t)
    by_tests false false s t any = let k : false ≡ true = any in absurd (let f : ⊥ = cc in f)

-- a text may be cut in front of a blank
pub cut_before : (text : List ℕ) (i : ℕ) → position is_blank text ≡ Some i → IsCharBoundary text i
cut_before text i found = let at = position-Some is_blank text i 0 found in IsCharBoundary-before_ascii text i at.0 (blank_small (get_or text i 0) at.1)

-- and behind the one that it begins with
pub cut_behind : (text : List ℕ) (b : ℕ) → IsUtf8 text → slice_get text 0 ≡ Some b → is_blank b ≡ true → IsCharBoundary text 1
cut_behind [] b utf8 first blank = let k : None ≡ Some b = first in absurd (let f : ⊥ = cc in f)
cut_behind (c ∷ cs) b utf8 first blank =
    let k : Some c ≡ Some b = first in
    let same : c ≡ b = cc in
    let small : b < 128 = blank_small b blank in
    IsCharBoundary-after_ascii (c ∷ cs) 0 utf8 (omega arith) (omega arith)

place_found : (place len i : ℕ) (within : Bool) → nat_lt place len ≡ within → (if within then Some place else None) ≡ Some i → i ≡ place
place_found place len i true e is = let same : place ≡ i = cc in sym same
place_found place len i false e is = let k : None ≡ Some i = is in cc

none_found : (place len : ℕ) (within : Bool) → nat_lt place len ≡ within → (if within then Some place else None) ≡ None → len ≤ place
none_found place len true e is = let k : Some place ≡ None = is in cc
none_found place len false e is = grind (arith, nat_tests)

place_is : (line : List ℕ) (i : ℕ) → position is_blank line ≡ Some i → i ≡ position_or_len is_blank line
place_is line i found = place_found (position_or_len is_blank line) (length line) i (nat_lt (position_or_len is_blank line) (length line)) refl found

no_place : (line : List ℕ) → position is_blank line ≡ None → length line ≤ position_or_len is_blank line
no_place line none = none_found (position_or_len is_blank line) (length line) (nat_lt (position_or_len is_blank line) (length line)) refl none

take_all : (xs : List ℕ) (k : ℕ) → length xs ≤ k → take k xs ≡ xs
take_all [] zero le = refl
take_all [] (suc k) le = refl
take_all (x ∷ xs) zero le = absurd (omega arith)
take_all (x ∷ xs) (suc k) le = ap (λ (ys : List ℕ). x ∷ ys) (take_all xs k (omega arith))

drop_all : (xs : List ℕ) (k : ℕ) → length xs ≤ k → drop k xs ≡ []
drop_all [] zero le = refl
drop_all [] (suc k) le = refl
drop_all (x ∷ xs) zero le = absurd (omega arith)
drop_all (x ∷ xs) (suc k) le = drop_all xs k (omega arith)

-- the first word, and what follows it, by the place of the first blank
pub first_by : (line : List ℕ) (i : ℕ) → position is_blank line ≡ Some i → take i line ≡ first_word line
first_by line i found = ap (λ (k : ℕ). take k line) (place_is line i found)

pub first_all : (line : List ℕ) → position is_blank line ≡ None → line ≡ first_word line
first_all line none = sym (take_all line (position_or_len is_blank line) (no_place line none))

pub behind_by : (line : List ℕ) (i : ℕ) → position is_blank line ≡ Some i → without_blanks (drop i line) ≡ behind_word line
behind_by line i found = ap (λ (k : ℕ). without_blanks (drop k line)) (place_is line i found)

pub behind_none : (line : List ℕ) → position is_blank line ≡ None → [] ≡ behind_word line
behind_none line none = sym (ap without_blanks (drop_all line (position_or_len is_blank line) (no_place line none)))
