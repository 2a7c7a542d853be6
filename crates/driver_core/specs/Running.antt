-- When a run is over, and what is answered to each event.
use Rattle.std.specs.Prelude.{ℕ, Bool, true, false, ◌||◌, nat_le, if◌then◌else◌, List, [], ◌∷◌, ◌++◌, length, Option, Some, None}
use Rattle.std.specs.List.{list_any}
use Rattle.driver_core.specs.declared.events.Event.{Event}
use Rattle.driver_core.specs.declared.events.Event.TheVariants.{Began, Candidate, Ended, OutOfTime}
use Rattle.driver_core.specs.declared.events.Action.{Action}
use Rattle.driver_core.specs.declared.events.Action.TheVariants.{Go, Keep, Drop, Stop}
use Rattle.driver_core.specs.declared.settings.Setting.{Setting}
use Rattle.driver_core.specs.Pasts.{each_after}
use Rattle.driver_core.specs.Settings.{most_plans}
use Rattle.driver_core.specs.Keeping.{kept_costs, is_kept}
use Rattle.driver_core.specs.Rounds.{has_last_round}

abbrev pub is_out_of_time : Event → Bool
is_out_of_time (Began round entry moment) = false
is_out_of_time (Candidate round entry cost) = false
is_out_of_time (Ended round entry part last) = false
is_out_of_time (OutOfTime moment) = true

-- an end that leaves the other turns nothing to do
abbrev pub is_last_end : Event → Bool
is_last_end (Began round entry moment) = false
is_last_end (Candidate round entry cost) = false
is_last_end (Ended round entry part last) = last
is_last_end (OutOfTime moment) = false

-- A run is over once it has run out of time, a turn has ended as the last, as many plans are kept as a run keeps, or a round has ended that no other follows.
abbrev pub is_over_after : Setting → List Event → Bool
is_over_after setting events =
    list_any is_out_of_time events
    || (list_any is_last_end events
    || (nat_le (most_plans setting.single) (length (kept_costs setting events))
    || has_last_round setting events))

-- Stop where the run is over, else the other action
abbrev pub stop_or : Action → Bool → Action
stop_or other true = Stop
stop_or other false = other

-- a candidate is kept in its place among the kept ones, or not
abbrev pub candidate_action : Setting → List Event → Option ℕ → Action
candidate_action setting past None = stop_or Drop (is_over_after setting past)
candidate_action setting past (Some cost) =
    if is_kept setting past cost
    then Keep (length (kept_costs setting past))
    else stop_or Drop (is_over_after setting past)

-- What is answered to an event that comes after these.
abbrev pub action_of : Setting → List Event → Event → Action
action_of setting past (Began round entry moment) = stop_or Go (is_over_after setting past)
action_of setting past (Candidate round entry cost) = candidate_action setting past cost
action_of setting past (Ended round entry part last) = stop_or Go (is_over_after setting (past ++ Ended round entry part last ∷ []))
action_of setting past (OutOfTime moment) = Stop

-- what is answered to each of the events
abbrev pub actions_of : Setting → List Event → List Action
actions_of setting events = each_after (action_of setting) [] events

abbrev pub is_stop : Action → Bool
is_stop Go = false
is_stop (Keep index) = false
is_stop Drop = false
is_stop Stop = true

abbrev pub has_stopped : Setting → List Event → Bool
has_stopped setting events = list_any is_stop (actions_of setting events)
