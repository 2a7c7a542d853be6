-- Which lists of events a core stands for.
use Rattle.std.specs.Prelude.{◌≡◌, ℕ, ◌<◌, ◌≤◌, Bool, true, false, not, ◌&&◌, nat_lt, List, length, map, count_by}
use Rattle.std.specs.List.{list_any}
use Rattle.exit_codes.specs.Parts.{codes_of}
use Rattle.driver_core.specs.declared.events.Event.{Event}
use Rattle.driver_core.specs.declared.events.Event.TheVariants.{Began, Candidate, Ended, OutOfTime}
use Rattle.driver_core.specs.declared.settings.Setting.{Setting}
use Rattle.driver_core.specs.Settings.{entries}
use Rattle.driver_core.specs.Turns.{Turn, turn_of, has_begun, has_ended}
use Rattle.driver_core.specs.Keeping.{kept_costs, bound_of}
use Rattle.driver_core.specs.Rounds.{has_kept, runs_in, has_entries, is_ended}
use Rattle.driver_core.specs.Running.{is_out_of_time, is_last_end, is_over_after, has_stopped}
use Rattle.driver_core.specs.Legal.{IsLegal}
use Rattle.driver_core.specs.Ends.{parts_in}
use Rattle.driver_core.specs.States.{CoreState}

-- an event of a turn in a later round
abbrev pub is_after : ℕ → Event → Bool
is_after round (Began other entry moment) = nat_lt round other
is_after round (Candidate other entry cost) = nat_lt round other
is_after round (Ended other entry part last) = nat_lt round other
is_after round (OutOfTime moment) = false

-- The present round is the first, or the latest in which a turn has begun. It has entries, and all turns of earlier rounds have ended.
pub record IsPresent (setting : Setting) (events : List Event) (round : ℕ) : Type 0 where
  pub some : has_entries setting events round ≡ true
  pub latest : list_any (is_after round) events ≡ false
  pub reached : (before : ℕ) → 1 ≤ before → before < round → list_any (is_after before) events ≡ true
  pub earlier : (before : ℕ) → before < round → is_ended setting events before ≡ true
  -- turns that have begun are those of entries that run
  pub begun : (turn : Turn) → has_begun events turn ≡ true → runs_in setting events turn.round turn.entry ≡ true

-- an entry's turn in a round hasn't ended
abbrev pub is_unended : Setting → List Event → ℕ → ℕ → Bool
is_unended setting events round entry = runs_in setting events round entry && not (has_ended events (turn_of round entry))

-- an entry kept a plan in a round
abbrev pub is_keeper : Setting → List Event → ℕ → ℕ → Bool
is_keeper setting events round entry = runs_in setting events round entry && has_kept setting events (turn_of round entry)

-- What a core holds of the rounds is what the events say.
pub record HoldsRound (core : CoreState) (events : List Event) : Type 0 where
  pub present : IsPresent core.setting events core.round
  pub running : core.running ≡ map (runs_in core.setting events core.round) (entries core.setting)
  pub keepers : core.keepers ≡ map (is_keeper core.setting events core.round) (entries core.setting)
  pub unended : core.unended ≡ count_by (is_unended core.setting events core.round) (entries core.setting)

-- And so is the rest.
pub record Holds (core : CoreState) (events : List Event) : Type 0 where
  pub rounds : HoldsRound core events
  pub bound : core.bound ≡ bound_of core.setting events
  pub kept : core.kept ≡ length (kept_costs core.setting events)
  pub last : core.last ≡ list_any is_last_end events
  pub out_of_time : core.out_of_time ≡ list_any is_out_of_time events
  pub codes : core.codes ≡ codes_of (parts_in events)

-- The core stands for these events: they are legal, it holds what they say, and a run that was told to stop is over.
pub record StandsFor (core : CoreState) (events : List Event) : Type 0 where
  pub legal : IsLegal core.setting events
  pub holds : Holds core events
  pub stopped : has_stopped core.setting events ≡ true → is_over_after core.setting events ≡ true
