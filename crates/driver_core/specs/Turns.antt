-- A turn is an entry in a round. What it tells the core: that it begins, what it offers, how it ends.
use Rattle.std.specs.Prelude.{◌≡◌, ℕ, Bool, true, false, ◌&&◌, ◌==◌, List, Option}
use Rattle.std.specs.List.{list_any}
use Rattle.exit_codes.specs.declared.parts.Part.{Part}
use Rattle.driver_core.specs.declared.events.Event.{Event}
use Rattle.driver_core.specs.declared.events.Event.TheVariants.{Began, Candidate, Ended, OutOfTime}

pub record Turn : Type 0 where
  pub round : ℕ
  pub entry : ℕ

abbrev pub turn_of : ℕ → ℕ → Turn
turn_of round entry = record { round = round; entry = entry }

-- A turn begins at a moment,
abbrev pub begins_at : Turn → ℕ → Event
begins_at turn moment = Began turn.round turn.entry moment

-- it offers candidates, each with its cost where it is a plan,
abbrev pub offers : Turn → Option ℕ → Event
offers turn cost = Candidate turn.round turn.entry cost

-- and it ends.
abbrev pub ends_as : Turn → Part → Bool → Event
ends_as turn part last = Ended turn.round turn.entry part last

abbrev pub is_beginning_of : Turn → Event → Bool
is_beginning_of turn (Began round entry moment) = (round == turn.round) && (entry == turn.entry)
is_beginning_of turn (Candidate round entry cost) = false
is_beginning_of turn (Ended round entry part last) = false
is_beginning_of turn (OutOfTime moment) = false

abbrev pub is_end_of : Turn → Event → Bool
is_end_of turn (Began round entry moment) = false
is_end_of turn (Candidate round entry cost) = false
is_end_of turn (Ended round entry part last) = (round == turn.round) && (entry == turn.entry)
is_end_of turn (OutOfTime moment) = false

abbrev pub has_begun : List Event → Turn → Bool
has_begun events turn = list_any (is_beginning_of turn) events

abbrev pub has_ended : List Event → Turn → Bool
has_ended events turn = list_any (is_end_of turn) events

-- A turn is on: it has begun, and hasn't ended.
pub record IsOn (past : List Event) (turn : Turn) : Type 0 where
  pub begun : has_begun past turn ≡ true
  pub unended : has_ended past turn ≡ false
