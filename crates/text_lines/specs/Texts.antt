-- Texts that are put together from lines are cut into these lines again.
use Rattle.std.specs.Prelude.{ℕ, List, [], ◌∷◌, ◌++◌, Bool, true, ◌&&◌, not, nat_eq, reverse}
use Rattle.std.specs.List.{list_all}
use Rattle.text_lines.specs.Lines.{is_margin}

-- the text of lines, each with its line feed
abbrev pub text_of : List (List ℕ) → List ℕ
text_of [] = []
text_of (line ∷ lines) = line ++ 10 ∷ text_of lines

abbrev pub has_no_feed : List ℕ → Bool
has_no_feed line = list_all (λ b. not (nat_eq b 10)) line

-- nothing is dropped at its beginning
abbrev pub begins_bare : List ℕ → Bool
begins_bare [] = true
begins_bare (b ∷ bs) = not (is_margin b)

-- a line that reading leaves as it is
abbrev pub is_line : List ℕ → Bool
is_line line = has_no_feed line && (begins_bare line && begins_bare (reverse line))
