-- The names of a run's own files.
use Rattle.std.specs.Prelude.{ℕ, List, [], ◌∷◌, length, take, drop, Bool, true, false, nat_eq, nat_le, ◌&&◌, ◌||◌, Option, Some, None, codes, decimal}
use Rattle.std.specs.Char.{is_ascii_digit}
use Rattle.std.specs.Str.{bytes_eq}
use Rattle.lama_num.specs.Decimals.{decimal_of}
use Rattle.lama_num.specs.declared.names.TheConstants.{MOST_PLANS}

-- the decimal of a number from 1 to 9,999, without leading zeros
abbrev pub is_plan_number : List ℕ → Bool
is_plan_number digits = numbers (decimal_of digits)
  where
    numbers : Option ℕ → Bool
    numbers None = false
    numbers (Some n) = nat_le 1 n && (nat_le n MOST_PLANS && bytes_eq digits (decimal n))

abbrev pub begins_with_digit : List ℕ → Bool
begins_with_digit [] = false
begins_with_digit (b ∷ bs) = is_ascii_digit b

-- c and a digit, as the files of a child begin behind the dot
abbrev pub is_of_child : List ℕ → Bool
is_of_child [] = false
is_of_child (b ∷ bs) = nat_eq b 99 && begins_with_digit bs

-- what a run's own files have behind their base: nothing; or a dot, and "part", a plan's number, or what begins as a child's
abbrev pub is_own_ending : List ℕ → Bool
is_own_ending [] = true
is_own_ending (b ∷ bs) = nat_eq b 46 && (bytes_eq bs (codes "part") || (is_plan_number bs || is_of_child bs))

-- a name of the run's own files
abbrev pub is_own_name : List ℕ → List ℕ → Bool
is_own_name base name = bytes_eq (take (length base) name) base && is_own_ending (drop (length base) name)
