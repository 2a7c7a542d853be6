-- The counters and the least estimates after a pop and after a visit.
use Rattle.std.proofs.Common.{◌≡◌, ℕ, ◌^◌, ◌<◌, not, List}
use Rattle.std.specs.Prelude.{◌||◌, nat_lt, slice_index}
use Rattle.std.specs.List.{list_all}
use Rattle.search_log.specs.Phases.{Phase}
use Rattle.search_log.specs.Places.{Node, is_expanded, estimate}

-- The least estimates so far: what is below one of them is below all of that guide's. A search keeps these in place of a scan.
abbrev pub LeastStand : Phase → List ℕ → List Node → Type 0
LeastStand phase least nodes = (j e : ℕ) → j < phase.guides → e < 2 ^ 32 →
    nat_lt e (slice_index least j) ≡ list_all (λ (n : Node). not (is_expanded phase n.visit n.place) || nat_lt e (estimate n.visit j)) nodes
