-- The one turn of a run while its search is on, and how that ended.
use Rattle.std.specs.Prelude.{◌≡◌, ◌≢◌, ℕ, ◌+◌, ◌*◌, ◌<◌, ◌≤◌, Bool, true, false, List, [], ◌∷◌, ◌++◌, length, All, sum_by, Option, Some, None, Result, Ok, Err, vec_len, vec_capacity}
use Rattle.sas_task.specs.declared.contents.Parts.{Parts}
use Rattle.sas_task.specs.declared.plans.Kept.{Kept}
use Rattle.candidates.specs.declared.offers.Candidate.{Candidate}
use Rattle.candidates.specs.declared.offers.Found.TheVariants.{Kept as WasKept}
use Rattle.candidates.specs.Collecting.{IsInTurn, KeepsBelow}
use Rattle.conf_text.specs.declared.config.Config.{Config}
use Rattle.conf_text.specs.Accepted.{IsConfig}
use Rattle.driver_core.specs.declared.settings.Setting.{Setting}
use Rattle.driver_core.specs.declared.events.Event.{Event}
use Rattle.driver_core.specs.Keeping.{bound_of}
use Rattle.lama_num.specs.Bounds.{is_below}
use Rattle.driver_core.specs.Standing.{StandsFor}
use Rattle.driver_core.specs.States.{CoreState}
use Rattle.driver_core.specs.Turns.{turn_of, begins_at, offers}
use Rattle.iterated.specs.Iterating.{Iterating, IsFor}
use Rattle.search_log.specs.Logs.{Content}
use Rattle.run_report.specs.declared.report.Outcome.{Outcome}
use Rattle.run_report.specs.declared.report.Past.{Past}
use Rattle.run_report.specs.Clocks.{has_memory}
use Rattle.run_report.specs.Turns.{Offered, BegunTurn, ToldTurn, plans_in}
use Rattle.run_report.specs.Tells.{Turns, events_of}
use Rattle.run_report.specs.Searches.{Run, Standing, Went, EndsBy, CountsPhases, IsOwn, search_of, standing_after, past_pops, last_pops}
use Rattle.run_report.specs.Runs.{IsUnderWay}
use Rattle.driver_run.specs.declared.progress.Progress.{Progress}
use Rattle.driver_run.specs.declared.progress.Trail.{Trail}
use Rattle.driver_run.specs.declared.progress.Stop.{Stop}
use Rattle.driver_run.specs.declared.progress.Stop.TheVariants.{Fault, NoMemory as OutOfMemory}
use Rattle.lama_num.specs.declared.names.TheConstants.{MOST_PLANS}

-- the run of a configuration with one entry
abbrev pub run_by : Parts → Config → Setting → Run
run_by parts config setting = record { parts = parts; setting = setting; config_of = λ entry. config }

abbrev pub begun_with : ℕ → List Offered → BegunTurn
begun_with began offered = record { turn = turn_of 1 1; began = began; offered = offered }

-- its turn is on, with these offers
abbrev pub turns_on : ℕ → List Offered → Turns
turns_on began offered = record { ended = []; present = Some (begun_with began offered) }

-- it has ended
abbrev pub turns_ended : ToldTurn → Turns
turns_ended turn = record { ended = turn ∷ []; present = None }

-- A run of one entry, before its turn.
pub record IsFresh (progress : Progress) : Type 0 where
  pub shares : progress.core.setting.shares ≡ 1 ∷ []
  pub limit : progress.core.setting.limit ≡ None
  pub single : progress.core.setting.single ≡ false
  pub rounds : progress.core.setting.rounds ≡ false
  pub stands : StandsFor progress.core []
  pub kept : progress.kept.items ≡ []
  pub candidates : progress.candidates.items ≡ []
  pub ends : progress.ends.items ≡ []
  pub room : vec_len progress.ends < vec_capacity progress.ends

-- Its turn has begun, and offered nothing yet.
pub record HasBegun (progress : Progress) (began : ℕ) : Type 0 where
  pub shares : progress.core.setting.shares ≡ 1 ∷ []
  pub single : progress.core.setting.single ≡ false
  pub rounds : progress.core.setting.rounds ≡ false
  pub stands : StandsFor progress.core (begins_at (turn_of 1 1) began ∷ [])
  pub kept : progress.kept.items ≡ []
  pub candidates : progress.candidates.items ≡ []
  pub ends : progress.ends.items ≡ []
  pub room : vec_len progress.ends < vec_capacity progress.ends

-- How the search of the turn came to a standing, and what it counted.
pub record CameTo (run : Run) (trail : Trail) (offered : List Offered) (to : Standing) : Type 0 where
  pub own : All IsOwn offered
  pub went : Went (search_of run 1) (standing_after run.setting []) trail.past.items (plans_in (begun_with trail.began offered)) to

-- the number of phases that stand before the next
abbrev pub place_of : Option ℕ → ℕ → ℕ
place_of None count = count
place_of (Some place) count = place

-- where the search stands between two phases
abbrev pub standing_at : Run → Iterating → Progress → Trail → List Offered → Bool → Standing
standing_at run phases progress trail offered found =
    record { next = phases.next; plans = length progress.kept.items; bound = bound_of run.setting (events_of (turns_on trail.began offered)); found = found }

-- The search of the turn is on, between two phases, and what it has offered is kept.
pub record IsSearching (parts : Parts) (phases : Iterating) (many : Bool) (progress : Progress) (trail : Trail) : Type 0 where
  pub offered : List Offered
  pub found : Bool
  pub under_way : IsUnderWay (run_by parts phases.config progress.core.setting) progress.core (turns_on trail.began offered) progress.kept.items progress.candidates.items []
  pub came : CameTo (run_by parts phases.config progress.core.setting) trail offered (standing_at (run_by parts phases.config progress.core.setting) phases progress trail offered found)
  pub ends : progress.ends.items ≡ []
  pub single_run : progress.core.setting.single ≡ false
  pub config : IsConfig phases.config
  pub task : IsFor phases parts
  pub numbered : many ≡ phases.config.iterated
  pub going : phases.next ≡ None → found ≡ true
  pub full : length progress.kept.items ≡ MOST_PLANS → found ≡ true
  pub one : many ≡ false → length progress.kept.items ≤ 1
  pub alone : many ≡ false → phases.next ≢ None → progress.kept.items ≡ []
  pub few : length trail.past.items ≤ length progress.kept.items + place_of phases.next (length phases.config.phases)
  pub place : place_of phases.next (length phases.config.phases) ≤ length phases.config.phases
  pub phases_are : trail.phases ≡ length trail.past.items
  pub pops_are : trail.pops ≡ sum_by past_pops trail.past.items
  pub pops_few : trail.pops ≤ length trail.past.items * 1099511627776

-- The search of the turn ended so.
pub record HasEnded (run : Run) (progress : Progress) (trail : Trail) (outcome : Outcome) : Type 0 where
  pub offered : List Offered
  pub to : Standing
  pub under_way : IsUnderWay run progress.core (turns_on trail.began offered) progress.kept.items progress.candidates.items []
  pub came : CameTo run trail offered to
  pub ends : EndsBy (search_of run 1) to outcome
  pub phases : CountsPhases outcome (length trail.past.items) trail.phases
  pub pops : trail.pops ≡ sum_by past_pops trail.past.items + last_pops outcome

-- A call of the folder failed while the turn was on.
pub record IsStopped (run : Run) (began : ℕ) (progress : Progress) : Type 0 where
  pub offered : List Offered
  pub core : CoreState
  pub under_way : IsUnderWay run core (turns_on began offered) progress.kept.items progress.candidates.items []

-- The turn has ended, the only one of the run.
pub record HasRun (run : Run) (progress : Progress) (turn : ToldTurn) : Type 0 where
  pub shares : run.setting.shares ≡ 1 ∷ []
  pub rounds : run.setting.rounds ≡ false
  pub under_way : IsUnderWay run progress.core (turns_ended turn) progress.kept.items progress.candidates.items progress.ends.items

-- The clock told no new answer, but where memory was wanting it may have.
pub record AsksNoMore (memory : Bool) (before now : Option (List ℕ)) : Type 0 where
  pub answers : (all : List ℕ) → now ≡ Some all → (past : List ℕ) × (added : List ℕ) × (before ≡ Some past) × (all ≡ past ++ added) × (memory ≡ true → added ≡ [])

-- The clock was asked as the turn began, and then no more, but where memory was wanting.
pub record AsksForTurn (memory : Bool) (began before now : ℕ) (told_before told_now : Option (List ℕ)) : Type 0 where
  pub later : before ≤ began
  pub last : began ≤ now
  pub answers : (all : List ℕ) → told_now ≡ Some all → (past : List ℕ) × (added : List ℕ) × (told_before ≡ Some past) × (all ≡ past ++ began ∷ added) × (memory ≡ true → added ≡ [])

abbrev pub search_memory : Result Outcome Stop → Bool
search_memory (Ok outcome) = has_memory outcome
search_memory (Err Fault) = true
search_memory (Err OutOfMemory) = false

abbrev pub phase_memory : Result (Option Outcome) Stop → Bool
phase_memory (Ok None) = true
phase_memory (Ok (Some outcome)) = has_memory outcome
phase_memory (Err Fault) = true
phase_memory (Err OutOfMemory) = false

-- the lists are as they were
pub record HasSame (before now : Progress) : Type 0 where
  pub kept : now.kept.items ≡ before.kept.items
  pub candidates : now.candidates.items ≡ before.candidates.items

-- One plan more was kept, of this process's search, and offered to the core.
pub record HasKept (before now : Progress) (plan : Kept) : Type 0 where
  pub kept : now.kept.items ≡ before.kept.items ++ plan ∷ []
  pub candidates : now.candidates.items ≡ before.candidates.items ++ record { round = 1; entry = plan.entry; file = None; found = WasKept (length before.kept.items) } ∷ []
  pub core : (events : List Event) (bound : Option ℕ) → IsInTurn before.core events (turn_of 1 plan.entry) before.kept.items
      → KeepsBelow before.core.setting events bound → is_below bound plan.cost ≡ true
      → IsInTurn now.core (events ++ offers (turn_of 1 plan.entry) (Some plan.cost) ∷ []) (turn_of 1 plan.entry) now.kept.items

-- one phase more was begun, with this log
pub record HasCounted (before now : Trail) (log : Content) : Type 0 where
  pub began : now.began ≡ before.began
  pub phases : now.phases ≡ before.phases + 1
  pub pops : now.pops ≡ before.pops + length log.pops
  pub past : now.past.items ≡ before.past.items

-- it came to this, and another may follow
pub record HasPassed (before now : Trail) (item : Past) : Type 0 where
  pub began : now.began ≡ before.began
  pub phases : now.phases ≡ before.phases + 1
  pub pops : now.pops ≡ before.pops + past_pops item
  pub past : now.past.items ≡ before.past.items ++ item ∷ []

-- How the turn came to its end, or a call of the folder failed in it, and what the clock was asked.
abbrev pub HasRunTo : Result (Unit {0}) Stop → Run → Progress → ℕ → ℕ → Option (List ℕ) → Option (List ℕ) → Type 0
HasRunTo (Ok done) run progress before now told_before told_now =
    (turn : ToldTurn) × HasRun run progress turn × AsksForTurn (has_memory turn.end.outcome) turn.end.began before now told_before told_now
HasRunTo (Err Fault) run progress before now told_before told_now =
    (began : ℕ) × IsStopped run began progress × (progress.ends.items ≡ []) × AsksForTurn true began before now told_before told_now
HasRunTo (Err OutOfMemory) run progress before now told_before told_now = Unit {0}
