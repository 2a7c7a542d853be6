-- How the phases of a configuration follow one another.
use Rattle.std.specs.Prelude.{ℕ, zero, suc, ◌+◌, length, Bool, false, ◌&&◌, nat_lt, if◌then◌else◌, Option, Some, None, slice_get}
use Rattle.sas_task.specs.Costs.{is_normal}
use Rattle.conf_text.specs.declared.config.Config.{Config}
use Rattle.conf_text.specs.declared.config.Phase.{Phase}
use Rattle.iterated.specs.declared.ends.Begun.{Begun}
use Rattle.iterated.specs.declared.ends.Begun.TheVariants as beginnings
use Rattle.iterated.specs.declared.ends.PhaseEnd.{PhaseEnd}
use Rattle.iterated.specs.declared.ends.PhaseEnd.TheVariants.{Plan, Unsolvable, Best, Unsolved, Limit, Over, NoMemory}

-- An exhausted space of the phase shows that no plan is cheaper than the bound: it goes back to states that are reached at less cost, and
-- counts costs as they are.
abbrev pub is_exact : Phase → Bool
is_exact phase = phase.reopen && is_normal phase.cost

-- the phase at a place is exact
abbrev pub is_exact_at : Config → ℕ → Bool
is_exact_at config place = exact (slice_get config.phases place)
  where
    exact : Option Phase → Bool
    exact None = false
    exact (Some phase) = is_exact phase

-- the place behind one, if a phase is there
abbrev pub place_after : Config → ℕ → Option ℕ
place_after config place = if nat_lt (place + 1) (length config.phases) then Some (place + 1) else None

-- After a plan the next phase follows, or the last one again, where the configuration says so.
abbrev pub place_after_plan : Config → ℕ → Option ℕ
place_after_plan config place =
    if nat_lt (place + 1) (length config.phases) then Some (place + 1) else (if config.repeat_last then Some place else None)

-- The place of the phase that follows an end: none does but after a plan, and where it isn't known whether there is one below the bound.
abbrev pub place_next : Config → ℕ → PhaseEnd → Option ℕ
place_next config place (Plan ops cost log) = place_after_plan config place
place_next config place (Unsolvable space log) = None
place_next config place (Best space log) = None
place_next config place (Unsolved space log last) = place_after config place
place_next config place (Limit hit log) = None
place_next config place Over = None
place_next config place NoMemory = None

-- What a call begins with: it is over where no phase is left; under the bound 0 no plan is cheaper; else a phase is begun.
abbrev pub begun : Option ℕ → Option ℕ → Begun
begun None bound = beginnings.Over
begun (Some place) None = beginnings.Phase place
begun (Some place) (Some zero) = beginnings.Best
begun (Some place) (Some (suc n)) = beginnings.Phase place
