-- Bounds on costs.
use Rattle.std.specs.Prelude.{ℕ, Bool, true, nat_lt, Option, Some, None}

-- whether a cost is below the bound, if there is one
abbrev pub is_below : Option ℕ → ℕ → Bool
is_below None cost = true
is_below (Some bound) cost = nat_lt cost bound
