-- Which candidates are kept.
use Rattle.std.specs.Prelude.{ℕ, Bool, true, ◌&&◌, nat_lt, List, [], length, take, Option, Some, None}
use Rattle.std.specs.List.{list_all, filter_map, last_or}
use Rattle.driver_core.specs.declared.events.Event.{Event}
use Rattle.driver_core.specs.declared.events.Event.TheVariants.{Began, Candidate, Ended, OutOfTime}
use Rattle.driver_core.specs.declared.settings.Setting.{Setting}
use Rattle.driver_core.specs.Pasts.{filter_after}
use Rattle.driver_core.specs.Settings.{most_plans}
use Rattle.lama_num.specs.Bounds.{is_below}

-- the cost of a candidate that is a plan
abbrev pub cost_in : Event → Option ℕ
cost_in (Began round entry moment) = None
cost_in (Candidate round entry cost) = cost
cost_in (Ended round entry part last) = None
cost_in (OutOfTime moment) = None

-- the costs of the candidates that are plans
abbrev pub plan_costs : List Event → List ℕ
plan_costs events = filter_map cost_in events

-- whether a plan costs less than the bound and less than each earlier plan
abbrev pub improves : Option ℕ → List ℕ → ℕ → Bool
improves bound earlier cost = is_below bound cost && list_all (λ other. nat_lt cost other) earlier

-- the plans that do
abbrev pub improvements : Setting → List Event → List ℕ
improvements setting events = filter_after (improves setting.bound) [] (plan_costs events)

-- The costs of the kept candidates: the first of those, as many as a run keeps.
abbrev pub kept_costs : Setting → List Event → List ℕ
kept_costs setting events = take (most_plans setting.single) (improvements setting events)

-- whether a plan that comes after these events is kept
abbrev pub is_kept : Setting → List Event → ℕ → Bool
is_kept setting past cost =
    improves setting.bound (plan_costs past) cost && nat_lt (length (kept_costs setting past)) (most_plans setting.single)

-- The present bound: the cost of the last kept plan, else the given bound.
abbrev pub bound_of : Setting → List Event → Option ℕ
bound_of setting events = last_or setting.bound (kept_costs setting events)
