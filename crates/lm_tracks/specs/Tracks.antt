-- What is kept for the number of a state: which landmarks are accepted along the path to it.
use Rattle.std.specs.Prelude.{ℕ, List}
use Rattle.lm_status.specs.Rows.{StandsFor, words_of}
use Rattle.lm_status.specs.Statuses.{Charted}
use Rattle.lm_tracks.specs.Rows.{row_in, IsThere}

-- What contracts see: a status of landmarks, the rows, and the row that was made last.
pub record Tracked : Type 0 where
  pub status : Charted
  pub rows : List ℕ
  pub row : List ℕ

-- The row of a number is there, and stands for the landmarks that are accepted along a path.
pub record Keeps (tracked : Tracked) (number : ℕ) (states : List (List ℕ)) : Type 0 where
  pub there : IsThere tracked.rows (words_of tracked.status.graph) number
  pub stands : StandsFor tracked.status.graph (row_in tracked.rows (words_of tracked.status.graph) number) states
