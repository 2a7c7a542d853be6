-- Which entries run in a round, and how long.
use Rattle.std.specs.Prelude.{ℕ, ◌+◌, ◌-◌, ◌*◌, ◌/◌, Bool, true, false, not, ◌&&◌, ◌==◌, nat_le, max, zero, suc, List, [], length, filter, slice_index, sum_by, Option, Some, None}
use Rattle.std.specs.Option.{option_map}
use Rattle.std.specs.List.{list_all, list_any, filter_map}
use Rattle.driver_core.specs.declared.events.Event.{Event}
use Rattle.driver_core.specs.declared.events.Event.TheVariants.{Began, Candidate, Ended, OutOfTime}
use Rattle.driver_core.specs.declared.settings.Setting.{Setting}
use Rattle.driver_core.specs.Pasts.{each_after}
use Rattle.driver_core.specs.Settings.{entries}
use Rattle.driver_core.specs.Turns.{Turn, turn_of, has_ended}
use Rattle.driver_core.specs.Keeping.{is_kept}

-- after these events this one offers a plan of the turn that is kept
abbrev pub keeps_for : Setting → Turn → List Event → Event → Bool
keeps_for setting turn past (Began round entry moment) = false
keeps_for setting turn past (Candidate round entry None) = false
keeps_for setting turn past (Candidate round entry (Some cost)) = ((round == turn.round) && (entry == turn.entry)) && is_kept setting past cost
keeps_for setting turn past (Ended round entry part last) = false
keeps_for setting turn past (OutOfTime moment) = false

-- a plan of the turn was kept
abbrev pub has_kept : Setting → List Event → Turn → Bool
has_kept setting events turn = list_any (λ keeps. keeps) (each_after (keeps_for setting turn) [] events)

-- Which entries run in a round: in the first all, and in each later one, where there are rounds, those that kept a plan in the round before.
abbrev pub runs_in : Setting → List Event → ℕ → ℕ → Bool
runs_in setting events zero entry = false
runs_in setting events (suc zero) entry = nat_le 1 entry && nat_le entry (length setting.shares)
runs_in setting events (suc (suc before)) entry =
    setting.rounds && (runs_in setting events (suc before) entry && has_kept setting events (turn_of (suc before) entry))

-- these entries, in order
abbrev pub entries_in : Setting → List Event → ℕ → List ℕ
entries_in setting events round = filter (runs_in setting events round) (entries setting)

abbrev pub has_entries : Setting → List Event → ℕ → Bool
has_entries setting events round = list_any (runs_in setting events round) (entries setting)

-- all turns of a round have ended
abbrev pub is_ended : Setting → List Event → ℕ → Bool
is_ended setting events round = list_all (λ entry. has_ended events (turn_of round entry)) (entries_in setting events round)

-- A round has ended, and no other follows.
abbrev pub is_last_round : Setting → List Event → ℕ → Bool
is_last_round setting events round =
    has_entries setting events round && (is_ended setting events round && not (has_entries setting events (suc round)))

-- the round in which a turn ended
abbrev pub round_in : Event → Option ℕ
round_in (Began round entry moment) = None
round_in (Candidate round entry cost) = None
round_in (Ended round entry part last) = Some round
round_in (OutOfTime moment) = None

abbrev pub has_last_round : Setting → List Event → Bool
has_last_round setting events = list_any (is_last_round setting events) (filter_map round_in events)

-- an entry's relative time
abbrev pub time_of : Setting → ℕ → ℕ
time_of setting entry = slice_index setting.shares (entry - 1)

-- a portion of the time that is left, at least 1
abbrev pub portion_of : ℕ → ℕ → ℕ → ℕ
portion_of left own all = max 1 (left * own / all)

-- An entry's share of the time at a moment, where the run has a limit: of what is left, by its relative time among the entries of the round from this one on.
abbrev pub share_of : Setting → List Event → ℕ → ℕ → ℕ → Option ℕ
share_of setting events round entry moment =
    let from_here = filter (nat_le entry) (entries_in setting events round) in
    option_map (λ limit. portion_of (setting.start + limit - moment) (time_of setting entry) (sum_by (time_of setting) from_here)) setting.limit
