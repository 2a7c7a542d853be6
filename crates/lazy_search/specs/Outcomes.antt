-- What becomes of the entries that are taken.
use Rattle.std.specs.Prelude.{◌≡◌, Bool, true, false, List, [], ◌∷◌, ◌++◌, if◌then◌else◌}
use Rattle.open_lists.specs.declared.entry.Popped.{Popped}
use Rattle.search_log.specs.declared.turns.Pop.{Pop}
use Rattle.search_log.specs.declared.turns.PopResult.{PopResult}
use Rattle.search_log.specs.declared.turns.PopResult.TheVariants.{Known, Dead, Goal, Visited, Again, Full}
use Rattle.search_log.specs.Clocks.{is_final}
use Rattle.lazy_search.specs.declared.steps.Turned.{Turned}
use Rattle.lazy_search.specs.declared.steps.Turned.TheVariants.{Empty, Done, AtGoal, AtFull}

-- the entry as the log tells it
abbrev pub pop_by : Popped → PopResult → Pop
pop_by popped outcome = record { list = popped.list; parent = popped.entry.parent; op = popped.entry.op; result = outcome }

-- what becomes of an entry whose state is visited
abbrev pub outcome_of : Bool → Bool → Bool → PopResult
outcome_of again dead goal = if dead then Dead else (if again then Again else (if goal then Goal else Visited))

-- how a turn went that visits a state
abbrev pub turned_by : PopResult → Turned
turned_by Goal = AtGoal
turned_by Full = AtFull
turned_by Known = Done
turned_by Dead = Done
turned_by Visited = Done
turned_by Again = Done

-- There is one pop more, which ends the log or doesn't.
pub record PopsOne (old new : List Pop) (final : Bool) : Type 0 where
  pub pop : Pop
  pub is : new ≡ old ++ pop ∷ []
  pub ends : is_final pop.result ≡ final

abbrev pub PopsMore : List Pop → List Pop → Turned → Type 0
PopsMore old new Empty = new ≡ old
PopsMore old new Done = PopsOne old new false
PopsMore old new AtGoal = PopsOne old new true
PopsMore old new AtFull = PopsOne old new true
