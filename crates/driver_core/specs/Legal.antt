-- Which lists of events a driver may give.
use Rattle.std.specs.Prelude.{◌≡◌, ℕ, ◌+◌, ◌<◌, ◌≤◌, true, false, List, [], ◌∷◌, All, Option, Some, None, IsSomeAnd}
use Rattle.std.specs.List.{filter_map}
use Rattle.driver_core.specs.declared.events.Event.{Event}
use Rattle.driver_core.specs.declared.events.Event.TheVariants.{Began, Candidate, Ended, OutOfTime}
use Rattle.driver_core.specs.declared.settings.Setting.{Setting}
use Rattle.driver_core.specs.Pasts.{AllAfter}
use Rattle.driver_core.specs.Turns.{Turn, turn_of, has_begun, IsOn}
use Rattle.driver_core.specs.Rounds.{runs_in, is_ended}
use Rattle.driver_core.specs.Running.{has_stopped}

abbrev pub moment_in : Event → Option ℕ
moment_in (Began round entry moment) = Some moment
moment_in (Candidate round entry cost) = None
moment_in (Ended round entry part last) = None
moment_in (OutOfTime moment) = Some moment

-- Moments never fall.
abbrev pub IsTimely : List Event → ℕ → Type 0
IsTimely past moment = All (λ earlier. earlier ≤ moment) (filter_map moment_in past)

-- A turn begins once, where its entry runs in its round, and once all turns of the rounds before have ended.
pub record MayBegin (setting : Setting) (past : List Event) (turn : Turn) (moment : ℕ) : Type 0 where
  pub runs : runs_in setting past turn.round turn.entry ≡ true
  pub earlier : (round : ℕ) → round < turn.round → is_ended setting past round ≡ true
  pub new : has_begun past turn ≡ false
  pub timely : IsTimely past moment
  pub going : has_stopped setting past ≡ false

-- Its candidates come after it began and before it ends.
pub record MayOffer (setting : Setting) (past : List Event) (turn : Turn) : Type 0 where
  pub on : IsOn past turn
  pub going : has_stopped setting past ≡ false

-- The run is out of time once its limit has passed.
pub record MayRunOut (setting : Setting) (past : List Event) (moment : ℕ) : Type 0 where
  pub passed : IsSomeAnd setting.limit (λ limit. setting.start + limit ≤ moment)
  pub timely : IsTimely past moment
  pub going : has_stopped setting past ≡ false

-- After these events this one may come. After a Stop only the ends of turns that are on may.
abbrev pub IsAllowed : Setting → List Event → Event → Type 0
IsAllowed setting past (Began round entry moment) = MayBegin setting past (turn_of round entry) moment
IsAllowed setting past (Candidate round entry cost) = MayOffer setting past (turn_of round entry)
IsAllowed setting past (Ended round entry part last) = IsOn past (turn_of round entry)
IsAllowed setting past (OutOfTime moment) = MayRunOut setting past moment

abbrev pub IsLegal : Setting → List Event → Type 0
IsLegal setting events = AllAfter (IsAllowed setting) [] events
