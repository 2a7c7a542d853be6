-- What the lists of a report tell: turns that have ended, and perhaps one that was still on.
use Rattle.std.specs.Prelude.{◌≡◌, List, [], ◌∷◌, ◌++◌, map, Option, Some, None}
use Rattle.sas_task.specs.declared.plans.Kept.{Kept}
use Rattle.candidates.specs.declared.offers.Candidate.{Candidate}
use Rattle.driver_core.specs.declared.events.Event.{Event}
use Rattle.run_report.specs.declared.report.EntryEnd.{EntryEnd}
use Rattle.run_report.specs.declared.report.Report.{Report}
use Rattle.run_report.specs.Turns.{BegunTurn, ToldTurn, begun_of, plans_of, candidates_of, ends_of, events_in, turns_events}

-- The turns of a run so far: those that have ended, and the one that is on, if one is.
pub record Turns : Type 0 where
  pub ended : List ToldTurn
  pub present : Option BegunTurn

-- between two of them
abbrev pub between : List ToldTurn → Turns
between ended = record { ended = ended; present = None }

-- while one is on
abbrev pub during : List ToldTurn → BegunTurn → Turns
during ended begun = record { ended = ended; present = Some begun }

abbrev pub present_of : Option BegunTurn → List BegunTurn
present_of None = []
present_of (Some begun) = begun ∷ []

-- all that have begun
abbrev pub all_begun : Turns → List BegunTurn
all_begun turns = map begun_of turns.ended ++ present_of turns.present

abbrev pub present_events : Option BegunTurn → List Event
present_events None = []
present_events (Some begun) = events_in begun

-- the events of the run so far
abbrev pub events_of : Turns → List Event
events_of turns = turns_events turns.ended ++ present_events turns.present

-- These lists are those of the turns. A kept candidate has the place of its plan, as candidates_of says.
pub record AreOfTurns (turns : Turns) (kept : List Kept) (candidates : List Candidate) (ends : List EntryEnd) : Type 0 where
  pub plans_are : kept ≡ plans_of (all_begun turns)
  pub candidates_are : candidates ≡ candidates_of 0 (all_begun turns)
  pub ends_are : ends ≡ ends_of turns.ended

abbrev pub TellsTurns : Report → Turns → Type 0
TellsTurns report turns = AreOfTurns turns report.kept report.candidates report.ends
