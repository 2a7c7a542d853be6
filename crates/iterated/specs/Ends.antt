-- How the phases of a configuration end.
use Rattle.std.specs.Prelude.{◌≡◌, ℕ, ◌≤◌, true, false, List, [], slice_get, Option, Some, None, is_none}
use Rattle.sas_task.specs.declared.contents.Parts.{Parts}
use Rattle.sas_task.specs.Runs.{IsPlan, cost_of}
use Rattle.conf_text.specs.declared.config.Config.{Config}
use Rattle.conf_text.specs.declared.config.Phase.{Phase}
use Rattle.iterated.specs.declared.ends.Begun.{Begun}
use Rattle.iterated.specs.declared.ends.Begun.TheVariants as begins
use Rattle.iterated.specs.Following.{is_exact, place_after, place_next}
use Rattle.search_log.specs.declared.setting.Stop.{Stop}
use Rattle.search_log.specs.Logs.{Content}
use Rattle.lazy_search.specs.declared.end.SearchEnd.{SearchEnd}
use Rattle.lazy_search.specs.declared.end.SearchEnd.TheVariants as search
use Rattle.lazy_search.specs.Ends.{ClockHolds}
use Rattle.iterated.specs.declared.ends.PhaseEnd.{PhaseEnd}
use Rattle.iterated.specs.declared.ends.PhaseEnd.TheVariants.{Plan, Unsolvable, Best, Unsolved, Limit, Over, NoMemory}
use Rattle.iterated.specs.Searches.{IsSearched, search_phase}

-- the end of the search of a phase that ended so
abbrev pub search_end : PhaseEnd → SearchEnd
search_end (Plan ops cost log) = search.Plan ops cost log
search_end (Unsolvable space log) = search.Unsolvable space log
search_end (Best space log) = search.Unsolved space log
search_end (Unsolved space log last) = search.Unsolved space log
search_end (Limit hit log) = search.Limit hit log
search_end Over = search.NoMemory
search_end NoMemory = search.NoMemory

-- Where nothing is left below the bound, an exact phase shows that no plan is cheaper; another leaves that open, and it is the last where
-- no phase stands behind it. A phase that was begun isn't over.
abbrev pub Concludes : Config → ℕ → Phase → PhaseEnd → Type 0
Concludes config place phase (Plan ops cost log) = Unit {0}
Concludes config place phase (Unsolvable space log) = Unit {0}
Concludes config place phase (Best space log) = is_exact phase ≡ true
Concludes config place phase (Unsolved space log last) = (is_exact phase ≡ false) × (last ≡ is_none (place_after config place))
Concludes config place phase (Limit hit log) = Unit {0}
Concludes config place phase Over = ⊥
Concludes config place phase NoMemory = Unit {0}

-- How the phase at a place ends, once it was begun: as its search did.
pub record PhaseEnds (parts : Parts) (config : Config) (place : ℕ) (bound : Option ℕ) (stop : Option Stop) (end : PhaseEnd) : Type 0 where
  pub phase : Phase
  pub at : slice_get config.phases place ≡ Some phase
  pub searched : IsSearched parts phase bound stop (search_end end)
  pub concludes : Concludes config place phase end

abbrev pub no_log : Content
no_log = record { visits = []; pops = [] }

-- What a call answers, by what it begins with: it is over; or no plan is cheaper than 0, with nothing to show; or the phase at that place
-- ends so.
abbrev pub EndsFrom : Parts → Config → Option ℕ → Option Stop → Begun → PhaseEnd → Type 0
EndsFrom parts config bound stop begins.Over end = end ≡ Over
EndsFrom parts config bound stop begins.Best end = end ≡ Best [] no_log
EndsFrom parts config bound stop (begins.Phase place) end = PhaseEnds parts config place bound stop end

-- the place of the phase that is next after a call, if one is
abbrev pub next_from : Config → Begun → PhaseEnd → Option ℕ
next_from config begins.Over end = None
next_from config begins.Best end = None
next_from config (begins.Phase place) end = place_next config place end

-- What the clock was asked, by the answers that it tells before and after: nothing, or what the phase's log says.
abbrev pub AsksFrom : Parts → Config → Option ℕ → Option Stop → Begun → Option (List ℕ) → Option (List ℕ) → PhaseEnd → Type 0
AsksFrom parts config bound stop begins.Over before after end = after ≡ before
AsksFrom parts config bound stop begins.Best before after end = after ≡ before
AsksFrom parts config bound stop (begins.Phase place) before after end =
    (phase : Phase) → slice_get config.phases place ≡ Some phase → ClockHolds (search_phase parts phase bound stop) before after (search_end end)

-- What an end shows of all plans: that there is none, or that none is cheaper than the bound.
abbrev pub ShowsOfPlans : Parts → Option ℕ → PhaseEnd → Type 0
ShowsOfPlans parts bound (Plan ops cost log) = Unit {0}
ShowsOfPlans parts bound (Unsolvable space log) = (ops : List ℕ) → IsPlan parts ops → ⊥
ShowsOfPlans parts bound (Best space log) = (least : ℕ) → bound ≡ Some least → (ops : List ℕ) → IsPlan parts ops → least ≤ cost_of parts ops
ShowsOfPlans parts bound (Unsolved space log last) = Unit {0}
ShowsOfPlans parts bound (Limit hit log) = Unit {0}
ShowsOfPlans parts bound Over = Unit {0}
ShowsOfPlans parts bound NoMemory = Unit {0}
