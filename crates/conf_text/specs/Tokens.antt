-- A text as tokens.
use Rattle.std.specs.Prelude.{ℕ, ◌+◌, List, [], ◌∷◌, take, drop, Bool, false, nat_eq, not, ◌||◌, if◌then◌else◌}
use Rattle.std.specs.List.{position_or_len}
use Rattle.std.specs.Char.{is_ascii_alphanumeric}
use Rattle.text_lines.specs.Lines.{is_blank}

-- a place in a text: how many bytes came before, and those that are left
pub record Spot : Type 0 where
  pub place : ℕ
  pub left : List ℕ

-- a word, or one other byte, with its place; at the end of the text it has no byte
pub record Token : Type 0 where
  pub place : ℕ
  pub text : List ℕ

-- letters and digits of ASCII, and `_`
abbrev pub is_word_byte : ℕ → Bool
is_word_byte b = is_ascii_alphanumeric b || nat_eq b 95

abbrev pub is_word : List ℕ → Bool
is_word [] = false
is_word (b ∷ bs) = is_word_byte b

-- where the next token begins: blanks are passed over
unfoldable pub after_blanks : ℕ → List ℕ → Spot
after_blanks place [] = record { place = place; left = [] }
after_blanks place (b ∷ bs) = if is_blank b then after_blanks (place + 1) bs else record { place = place; left = b ∷ bs }

abbrev pub ends_word : ℕ → Bool
ends_word b = not (is_word_byte b)

-- a word goes on as long as it can
unfoldable pub token_length : List ℕ → ℕ
token_length [] = 0
token_length (b ∷ bs) = if is_word_byte b then position_or_len ends_word (b ∷ bs) else 1

abbrev pub cut_token : Spot → Token × Spot
cut_token s = let n = token_length s.left in (record { place = s.place; text = take n s.left }, record { place = s.place + n; left = drop n s.left })

-- the next token, and the place behind it
unfoldable pub next : Spot → Token × Spot
next s = cut_token (after_blanks s.place s.left)
