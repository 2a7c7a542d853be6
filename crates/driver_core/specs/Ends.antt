-- The exit code of a run.
use Rattle.std.specs.Prelude.{ℕ, ◌==◌, nat_lt, if◌then◌else◌, List, [], ◌∷◌, ◌++◌, length, Option, Some, None}
use Rattle.std.specs.List.{filter_map}
use Rattle.exit_codes.specs.declared.parts.Part.{Part}
use Rattle.exit_codes.specs.declared.parts.Part.TheVariants.{OutOfTime as RanOut, PlanLimit}
use Rattle.exit_codes.specs.Parts.{codes_of}
use Rattle.exit_codes.specs.Combined.{combine_of}
use Rattle.driver_core.specs.declared.events.Event.{Event}
use Rattle.driver_core.specs.declared.events.Event.TheVariants.{Began, Candidate, Ended, OutOfTime}
use Rattle.driver_core.specs.declared.settings.Setting.{Setting}
use Rattle.driver_core.specs.Keeping.{kept_costs}
use Rattle.lama_num.specs.declared.names.TheConstants.{MOST_PLANS}

-- the part that an event tells of: how a turn ended, or that the run is out of time
abbrev pub part_in : Event → Option Part
part_in (Began round entry moment) = None
part_in (Candidate round entry cost) = None
part_in (Ended round entry part last) = Some part
part_in (OutOfTime moment) = Some RanOut

abbrev pub parts_in : List Event → List Part
parts_in events = filter_map part_in events

-- a run that keeps 9,999 plans met a limit
abbrev pub limit_parts : ℕ → List Part
limit_parts kept = if kept == MOST_PLANS then PlanLimit ∷ [] else []

-- The exit code: that of the ends, of having run out of time, and of the limit on plans, combined.
abbrev pub code_of : Setting → List Event → ℕ
code_of setting events =
    let kept = length (kept_costs setting events) in
    combine_of (codes_of (parts_in events ++ limit_parts kept)) (nat_lt 0 kept)
