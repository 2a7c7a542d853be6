-- Rows of states by number.
use Rattle.std.specs.Prelude.{ℕ, List, [], ◌∷◌, ◌++◌, length, nat_lt, slice_set, if◌then◌else◌}
use Rattle.lazy_search.specs.declared.rows.LatestVisit.{LatestVisit}

-- the rows with one put in its place, or behind them
abbrev pub row_put : List LatestVisit → ℕ → LatestVisit → List LatestVisit
row_put rows id row = if nat_lt id (length rows) then slice_set rows id row else rows ++ row ∷ []
