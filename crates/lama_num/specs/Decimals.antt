-- Decimal numbers as texts of ASCII digits.
use Rattle.std.specs.Prelude.{ℕ, ◌+◌, ◌-◌, ◌*◌, ◌^◌, List, [], ◌∷◌, length, Bool, false, ◌&&◌, Option, Some, None, nat_lt, if◌then◌else◌}
use Rattle.std.specs.Str.{all_ascii_digits}

-- one digit or more, and nothing else
abbrev pub is_decimal : List ℕ → Bool
is_decimal [] = false
is_decimal (c ∷ cs) = all_ascii_digits (c ∷ cs)

-- the number that digits write: each counts by its place
abbrev pub decimal_value : List ℕ → ℕ
decimal_value [] = 0
decimal_value (c ∷ cs) = (c - 48) * 10 ^ length cs + decimal_value cs

-- the number of 64 bits that a text writes, if it writes one; leading zeros are allowed
abbrev pub decimal_of : List ℕ → Option ℕ
decimal_of text = if is_decimal text && nat_lt (decimal_value text) (2 ^ 64) then Some (decimal_value text) else None
