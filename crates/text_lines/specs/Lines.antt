-- A text as lines, and a line as words.
use Rattle.std.specs.Prelude.{◌≡◌, ℕ, List, [], ◌∷◌, length, Bool, true, false, nat_eq, ◌||◌, not, if◌then◌else◌, map, filter, reverse}

-- a byte goes onto the first piece
abbrev pub onto : ℕ → List (List ℕ) → List (List ℕ)
onto b [] = (b ∷ []) ∷ []
onto b (piece ∷ pieces) = (b ∷ piece) ∷ pieces

-- The text is cut at each line feed. Behind the last one there is no line unless it has bytes.
abbrev pub cut_lines : List ℕ → List (List ℕ)
cut_lines [] = []
cut_lines (b ∷ bs) = if nat_eq b 10 then [] ∷ cut_lines bs else onto b (cut_lines bs)

-- space and tab
abbrev pub is_blank : ℕ → Bool
is_blank b = nat_eq b 32 || nat_eq b 9

-- what may stand at both ends of a line: blanks, and carriage returns
abbrev pub is_margin : ℕ → Bool
is_margin b = is_blank b || nat_eq b 13

abbrev pub without_left : List ℕ → List ℕ
without_left [] = []
without_left (b ∷ bs) = if is_margin b then without_left bs else b ∷ bs

abbrev pub without_right : List ℕ → List ℕ
without_right bs = reverse (without_left (reverse bs))

-- a line without what may stand at its ends
abbrev pub trimmed : List ℕ → List ℕ
trimmed line = without_right (without_left line)

-- the lines of a text, trimmed
abbrev pub lines_of : List ℕ → List (List ℕ)
lines_of bytes = map trimmed (cut_lines bytes)

-- A line is cut at each blank, so two blanks have an empty piece between them.
abbrev pub pieces_of : List ℕ → List (List ℕ)
pieces_of [] = [] ∷ []
pieces_of (b ∷ bs) = if is_blank b then [] ∷ pieces_of bs else onto b (pieces_of bs)

abbrev pub is_some_bytes : List ℕ → Bool
is_some_bytes [] = false
is_some_bytes (b ∷ bs) = true

-- the words of a line, with one or more blanks between them
abbrev pub words_of : List ℕ → List (List ℕ)
words_of line = filter is_some_bytes (pieces_of line)

-- the lines that are left, and the number of the first of them
pub record Place : Type 0 where
  pub left : List (List ℕ)
  pub line : ℕ

-- the first byte isn't a blank
abbrev pub FirstIsNoBlank : List ℕ → Type 0
FirstIsNoBlank [] = Unit {0}
FirstIsNoBlank (b ∷ bs) = is_blank b ≡ false
