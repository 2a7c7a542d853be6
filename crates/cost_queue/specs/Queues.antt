-- Numbers that wait, each under a price.
use Rattle.std.specs.Prelude.{◌≡◌, ℕ, ◌≤◌, List, Option, Some, None, slice_index_or, slice_set}
use Rattle.std.specs.List.{count_by}
use Rattle.std.specs.Option.{is_some}
use Rattle.cost_queue.specs.declared.entry.Entry.{Entry}

-- the price under which a number waits
abbrev pub price_of : List (Option ℕ) → ℕ → Option ℕ
price_of waiting number = slice_index_or waiting number None

-- no number waits
abbrev pub IsIdle : List (Option ℕ) → Type 0
IsIdle waiting = (number : ℕ) → price_of waiting number ≡ None

-- A number that waited waits no more, and no number waited under a lower price.
pub record IsTaken (old new : List (Option ℕ)) (entry : Entry) : Type 0 where
  pub waited : price_of old entry.number ≡ Some entry.price
  pub rest : new ≡ slice_set old entry.number None
  pub least : (number price : ℕ) → price_of old number ≡ Some price → entry.price ≤ price

-- one was taken out, or none waits
abbrev pub IsPopped : List (Option ℕ) → List (Option ℕ) → Option Entry → Type 0
IsPopped old new None = (new ≡ old) × IsIdle old
IsPopped old new (Some entry) = IsTaken old new entry

-- how many wait: fewer with each that is taken out
abbrev pub waiting_count : List (Option ℕ) → ℕ
waiting_count waiting = count_by is_some waiting
