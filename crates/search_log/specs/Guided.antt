-- What the guides' answers owe.
use Rattle.std.specs.Prelude.{◌≡◌, ℕ, true, List, Some, slice_get}
use Rattle.relaxed_task.specs.Reached.{IsDead}
use Rattle.guide.specs.declared.seen.Seen.{Seen}
use Rattle.search_log.specs.Phases.{Phase}
use Rattle.search_log.specs.Places.{Node, Past}

-- Each visit that is called dead is of a dead state.
abbrev pub TellsDead : Phase → Past → Type 0
TellsDead phase past = (j : ℕ) (n : Node) → slice_get past.nodes j ≡ Some n → n.visit.seen.dead ≡ true → IsDead phase.parts n.place.state

-- By a guide's meaning, which says what answers fit a list of states, each answer fits the states of the visit's path.
abbrev pub AllFit : (List (List ℕ) → Seen → Type 0) → Past → Type 0
AllFit Fits past = (j : ℕ) (n : Node) → slice_get past.nodes j ≡ Some n → Fits n.place.states n.visit.seen
