-- Rows of one length, one after the other in one list.
use Rattle.std.specs.Prelude.{◌≡◌, ◌≢◌, ℕ, ◌+◌, ◌*◌, ◌≤◌, List, length}
use Rattle.std.specs.List.{slice_range}

-- the row of a number
abbrev pub row_in : List ℕ → ℕ → ℕ → List ℕ
row_in rows words number = slice_range rows (number * words) (number * words + words)

-- it is there
abbrev pub IsThere : List ℕ → ℕ → ℕ → Type 0
IsThere rows words number = number * words + words ≤ length rows

-- The row of a number was written: it is there, and the others that were there are as they were.
pub record Stores (old new row : List ℕ) (number : ℕ) : Type 0 where
  pub there : IsThere new (length row) number
  pub here : row_in new (length row) number ≡ row
  pub others_there : (n : ℕ) → IsThere old (length row) n → IsThere new (length row) n
  pub others : (n : ℕ) → n ≢ number → IsThere old (length row) n → row_in new (length row) n ≡ row_in old (length row) n
