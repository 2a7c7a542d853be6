-- A run as a list of turns: what its report tells and its events are both read off them.
use Rattle.std.specs.Prelude.{ℕ, ◌+◌, Bool, true, false, List, [], ◌∷◌, ◌++◌, length, map, Option, Some, None}
use Rattle.std.specs.List.{flat_map, filter_map}
use Rattle.sas_task.specs.declared.plans.Kept.{Kept}
use Rattle.plan_check.specs.declared.verdicts.Verdict.{Verdict}
use Rattle.plan_check.specs.declared.verdicts.Verdict.TheVariants.{Good, Bad}
use Rattle.candidates.specs.declared.offers.Candidate.{Candidate}
use Rattle.candidates.specs.Judging.{verdict_cost, found_of}
use Rattle.exit_codes.specs.declared.parts.Part.{Part}
use Rattle.exit_codes.specs.declared.parts.Part.TheVariants as part
use Rattle.driver_core.specs.declared.events.Event.{Event}
use Rattle.driver_core.specs.Turns.{Turn, turn_of, begins_at, offers, ends_as}
use Rattle.run_report.specs.declared.report.EntryEnd.{EntryEnd}
use Rattle.run_report.specs.declared.report.Outcome.{Outcome}
use Rattle.run_report.specs.declared.report.Outcome.TheVariants.{Best, Unsolvable, Unsolved, Over, Limit, NoMemory}

-- what was offered in a turn: its file, none for a plan of this process's search, and what was judged of it
pub record Offered : Type 0 where
  pub file : Option ℕ
  pub verdict : Verdict

-- a turn that has begun: its entry in a round, when it began, and what was offered in it so far
pub record BegunTurn : Type 0 where
  pub turn : Turn
  pub began : ℕ
  pub offered : List Offered

-- a turn that has ended: its end, which has its entry, its round and when it began, and what was offered in it
pub record ToldTurn : Type 0 where
  pub end : EntryEnd
  pub offered : List Offered

-- it begins, with nothing offered
abbrev pub begun_at : Turn → ℕ → BegunTurn
begun_at turn began = record { turn = turn; began = began; offered = [] }

-- it offers once more
abbrev pub offered_more : BegunTurn → Offered → BegunTurn
offered_more begun offer = record { turn = begun.turn; began = begun.began; offered = begun.offered ++ offer ∷ [] }

-- a good one
abbrev pub good_offer : Option ℕ → List ℕ → ℕ → Offered
good_offer file ops cost = record { file = file; verdict = Good ops cost }

abbrev pub begun_of : ToldTurn → BegunTurn
begun_of told = record { turn = turn_of told.end.round told.end.entry; began = told.end.began; offered = told.offered }

-- the plan that was kept of an offer
abbrev pub plan_of : ℕ → Offered → Option Kept
plan_of entry offer = good offer.verdict
  where
    good : Verdict → Option Kept
    good (Good ops cost) = Some (record { entry = entry; ops = ops; cost = cost })
    good (Bad fault) = None

abbrev pub plans_in : BegunTurn → List Kept
plans_in begun = filter_map (plan_of begun.turn.entry) begun.offered

abbrev pub candidate_of : Turn → ℕ → Offered → Candidate
candidate_of turn before offer = record { round = turn.round; entry = turn.entry; file = offer.file; found = found_of before offer.verdict }

-- The candidates of a turn, where so many plans were kept before: a kept one has its place among all kept plans.
unfoldable pub candidates_among : Turn → ℕ → List Offered → List Candidate
candidates_among turn before [] = []
candidates_among turn before (offer ∷ more) =
    candidate_of turn before offer ∷ candidates_among turn (before + length (filter_map (plan_of turn.entry) (offer ∷ []))) more

abbrev pub candidates_in : ℕ → BegunTurn → List Candidate
candidates_in before begun = candidates_among begun.turn before begun.offered

-- turns one after another
abbrev pub plans_of : List BegunTurn → List Kept
plans_of turns = flat_map plans_in turns

unfoldable pub candidates_of : ℕ → List BegunTurn → List Candidate
candidates_of before [] = []
candidates_of before (turn ∷ more) = candidates_in before turn ++ candidates_of (before + length (plans_in turn)) more

abbrev pub ends_of : List ToldTurn → List EntryEnd
ends_of turns = map (λ (turn : ToldTurn). turn.end) turns

-- how a turn ended, as a part of the run
abbrev pub part_of : Outcome → Part
part_of (Best space bound log) = part.Exhausted
part_of (Unsolvable space log) = part.Unsolvable
part_of (Unsolved space bound log) = part.Exhausted
part_of Over = part.Over
part_of (Limit hit log) = part.Limit
part_of NoMemory = part.NoMemory

-- an end that leaves the other entries nothing to do
abbrev pub is_last : Outcome → Bool
is_last (Best space bound log) = true
is_last (Unsolvable space log) = true
is_last (Unsolved space bound log) = false
is_last Over = false
is_last (Limit hit log) = false
is_last NoMemory = false

-- what the core is told of an offer
abbrev pub offer_of : Turn → Offered → Event
offer_of turn offer = offers turn (verdict_cost offer.verdict)

-- a turn's beginning and its candidates, in order
abbrev pub events_in : BegunTurn → List Event
events_in begun = begins_at begun.turn begun.began ∷ map (offer_of begun.turn) begun.offered

abbrev pub end_of : EntryEnd → Event
end_of end = ends_as (turn_of end.round end.entry) (part_of end.outcome) (is_last end.outcome)

-- all of them, and its end
abbrev pub turn_events : ToldTurn → List Event
turn_events told = events_in (begun_of told) ++ end_of told.end ∷ []

-- the events of turns that came one after another
abbrev pub turns_events : List ToldTurn → List Event
turns_events turns = flat_map turn_events turns

-- P holds of each turn, given the events before it.
abbrev pub EachTurn : (List Event → ToldTurn → Type 0) → List Event → List ToldTurn → Type 0
EachTurn P before [] = Unit {0}
EachTurn P before (turn ∷ more) = P before turn × EachTurn P (before ++ turn_events turn) more
