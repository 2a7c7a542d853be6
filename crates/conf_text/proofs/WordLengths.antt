-- How long a word is.
use Rattle.std.proofs.Common.{◌≡◌, refl, sym, ℕ, ◌<◌, ◌≤◌, Bool, true, false, List, length, Some, None, arith}
use Rattle.std.specs.Prelude.{position, nat_lt, if◌then◌else◌}
use Rattle.std.specs.List.{position_or_len}
use Rattle.std.proofs.lemmas.Bool.{ltb-true}
use Rattle.std.proofs.lemmas.Bool.Decides.{nat_tests}
use Rattle.std.proofs.lemmas.List.Sums.{prefix_len-le-length}
use Rattle.conf_text.specs.Tokens.{ends_word}

-- where a place was found, by the test of whether it lies within
at_place : (place len n : ℕ) (within : Bool) → nat_lt place len ≡ within → (if within then Some place else None) ≡ Some n → (n ≡ place) × (n ≤ len)
at_place place len n true e is = let same : place ≡ n = cc in let lt : place < len = ltb-true place len e in (sym same, omega arith)
at_place place len n false e is = let k : None ≡ Some n = is in cc

at_none : (place len : ℕ) (within : Bool) → place ≤ len → nat_lt place len ≡ within → (if within then Some place else None) ≡ None → len ≡ place
at_none place len true le e is = let k : Some place ≡ None = is in cc
at_none place len false le e is = grind (arith, nat_tests)

pub found : (text : List ℕ) (n : ℕ) → position ends_word text ≡ Some n → (n ≡ position_or_len ends_word text) × (n ≤ length text)
found text n is = at_place (position_or_len ends_word text) (length text) n (nat_lt (position_or_len ends_word text) (length text)) refl is

pub not_found : (text : List ℕ) → position ends_word text ≡ None → length text ≡ position_or_len ends_word text
not_found text is = at_none (position_or_len ends_word text) (length text) (nat_lt (position_or_len ends_word text) (length text)) (prefix_len-le-length _ text) refl is
