-- Sets of numbers as rows of bits.
use Rattle.std.specs.Prelude.{ℕ, ◌+◌, ◌/◌, ◌%◌, List, Bool, nat_eq, slice_index}
use Rattle.std.specs.Int.{bit_at}

-- the bit of a number, 64 to a word
abbrev pub has : List ℕ → ℕ → Bool
has row number = nat_eq (bit_at (slice_index row (number / 64)) (number % 64)) 1

-- how many words a row has for the numbers below a count
abbrev pub words_of : ℕ → ℕ
words_of count = (count + 63) / 64
