-- How a log ends.
use Rattle.std.specs.Prelude.{◌≡◌, ℕ, ◌+◌, ◌-◌, ◌%◌, ◌<◌, ◌≤◌, true, List, [], length, Option, Some, slice_get, ◌⊎◌}
use Rattle.search_log.specs.declared.turns.Pop.{Pop}
use Rattle.search_log.specs.declared.setting.LimitHit.{LimitHit}
use Rattle.search_log.specs.declared.setting.LimitHit.TheVariants.{Time, Pops, States}
use Rattle.search_log.specs.Phases.{Phase, lists_of}
use Rattle.search_log.specs.Places.{Node, Past, is_goal_node}
use Rattle.search_log.specs.Pending.{pending}
use Rattle.search_log.specs.Lawful.{GoesOn, is_full}

abbrev pub last_of : {X : Type 0} → List X → Option X
last_of xs = slice_get xs (length xs - 1)

-- The last visit is a goal.
pub record EndsInGoal (phase : Phase) (past : Past) (n : Node) : Type 0 where
  pub last : last_of past.nodes ≡ Some n
  pub goal : is_goal_node phase n ≡ true

-- The last pop found as many states as there may be.
pub record EndsFull (past : Past) : Type 0 where
  pub pop : Pop
  pub last : last_of past.pops ≡ Some pop
  pub full : is_full pop.result ≡ true

-- The start was visited, and all lists are empty.
pub record EndsExhausted (phase : Phase) (past : Past) : Type 0 where
  pub begun : 0 < length past.nodes
  pub goes_on : GoesOn phase past
  pub empty : (k : ℕ) → k < lists_of phase → pending phase past k ≡ []

-- As many pops as allowed were made, and some list isn't empty.
pub record EndsAtPops (phase : Phase) (past : Past) : Type 0 where
  pub goes_on : GoesOn phase past
  pub list : ℕ
  pub exists : list < lists_of phase
  pub filled : 0 < length (pending phase past list)
  pub pops : length past.pops ≡ phase.setting.most_pops

-- before the first visit, or after so many pops that their number is a multiple of 256
abbrev pub IsAsked : Past → Type 0
IsAsked past = ((past.nodes ≡ []) × (past.pops ≡ [])) ⊎ ((0 < length past.pops) × (length past.pops % 256 ≡ 0))

-- The clock was asked, and its answer was at or past the end of the limit.
pub record EndsByTime (phase : Phase) (past : Past) (start limit moment : ℕ) : Type 0 where
  pub goes_on : GoesOn phase past
  pub asked : IsAsked past
  pub stop : phase.setting.stop ≡ Some (record { start = start; limit = limit })
  pub over : start + limit ≤ moment

abbrev pub EndsAtLimit : Phase → Past → LimitHit → Type 0
EndsAtLimit phase past (Time start limit moment) = EndsByTime phase past start limit moment
EndsAtLimit phase past (Pops n) = (n ≡ phase.setting.most_pops) × EndsAtPops phase past
EndsAtLimit phase past (States n) = (n ≡ phase.setting.most_states) × EndsFull past
