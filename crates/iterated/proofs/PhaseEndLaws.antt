-- How a phase ends by its search, and what that shows of all plans.
use Rattle.std.proofs.Common.{◌≡◌, ℕ, Bool, true, false, List, Option, Some, None, refl, ap, sym, ◌∙◌, subst}
use Rattle.std.specs.Prelude.{if◌then◌else◌, is_none, slice_get}
use Rattle.sas_task.specs.declared.contents.Parts.{Parts}
use Rattle.sas_task.specs.WellFormed.{IsWellFormed}
use Rattle.conf_text.specs.declared.config.Config.{Config}
use Rattle.conf_text.specs.declared.config.Phase.{Phase}
use Rattle.search_log.specs.declared.setting.Stop.{Stop}
use Rattle.search_log.specs.Logs.{Content}
use Rattle.search_log.specs.Members.{Member}
use Rattle.log_laws.proofs.SpaceLaws.{no_plan, no_cheaper_plan}
use Rattle.search_log.specs.Spaces.{IsExhausted, is_exact}
use Rattle.lazy_search.specs.declared.end.SearchEnd.{SearchEnd}
use Rattle.lazy_search.specs.declared.end.SearchEnd.TheVariants as search
use Rattle.iterated.specs.declared.ends.PhaseEnd.{PhaseEnd}
use Rattle.iterated.specs.declared.ends.PhaseEnd.TheVariants.{Plan, Unsolvable, Best, Unsolved, Limit, Over, NoMemory}
use Rattle.iterated.specs.Searches.{IsSearched, search_phase}
use Rattle.iterated.specs.Closing.{end_with}
use Rattle.iterated.specs.Following.{place_after, is_exact_at, is_exact as is_exact_phase}
use Rattle.iterated.specs.Ends.{PhaseEnds, ShowsOfPlans}

exact_there : (config : Config) (place : ℕ) (phase : Phase) → slice_get config.phases place ≡ Some phase → is_exact_at config place ≡ is_exact_phase phase
exact_there config place phase at = rw at refl

-- Where nothing is left below a bound, the phase is best or unsolved, by whether it is exact.
space_ends : (parts : Parts) (config : Config) (place : ℕ) (phase : Phase) (bound : Option ℕ) (stop : Option Stop) (space : List Member) (log : Content) (exact : Bool) →
    is_exact_at config place ≡ exact → slice_get config.phases place ≡ Some phase → IsSearched parts phase bound stop (search.Unsolved space log) →
    PhaseEnds parts config place bound stop (if exact then Best space log else Unsolved space log (is_none (place_after config place)))
space_ends parts config place phase bound stop space log true exact at is = record { phase = phase; at = at; searched = is; concludes = sym (exact_there config place phase at) ∙ exact }
space_ends parts config place phase bound stop space log false exact at is = record { phase = phase; at = at; searched = is; concludes = (sym (exact_there config place phase at) ∙ exact, refl) }

-- a phase ends as its search did
ends_so : (parts : Parts) (config : Config) (place : ℕ) (phase : Phase) (bound : Option ℕ) (stop : Option Stop) (end : SearchEnd) → slice_get config.phases place ≡ Some phase →
    IsSearched parts phase bound stop end → PhaseEnds parts config place bound stop (end_with config place end)
ends_so parts config place phase bound stop (search.Plan ops cost log) at is = record { phase = phase; at = at; searched = is; concludes = tt }
ends_so parts config place phase bound stop (search.Unsolvable space log) at is = record { phase = phase; at = at; searched = is; concludes = tt }
ends_so parts config place phase bound stop (search.Unsolved space log) at is = space_ends parts config place phase bound stop space log (is_exact_at config place) refl at is
ends_so parts config place phase bound stop (search.Limit hit log) at is = record { phase = phase; at = at; searched = is; concludes = tt }
ends_so parts config place phase bound stop search.NoMemory at is = record { phase = phase; at = at; searched = is; concludes = tt }

pub run_ends : (parts : Parts) (config : Config) (place : ℕ) (phase : Phase) (bound : Option ℕ) (stop : Option Stop) (end : SearchEnd) (result : PhaseEnd) →
    slice_get config.phases place ≡ Some phase → IsSearched parts phase bound stop end → result ≡ end_with config place end → PhaseEnds parts config place bound stop result
run_ends parts config place phase bound stop end result at is by = subst (PhaseEnds parts config place bound stop) (sym by) (ends_so parts config place phase bound stop end at is)

-- what an end shows of all plans
pub shows_so : (parts : Parts) (config : Config) (place : ℕ) (bound : Option ℕ) (stop : Option Stop) (end : PhaseEnd) → IsWellFormed parts → PhaseEnds parts config place bound stop end → ShowsOfPlans parts bound end
shows_so parts config place bound stop (Plan ops cost log) formed is = tt
shows_so parts config place bound stop (Unsolvable space log) formed is =
    let exact = is_exact (search_phase parts is.phase bound stop) in
    no_plan parts space exact formed (subst (λ (b : Option ℕ). IsExhausted parts space b exact) is.searched.holds.2 is.searched.holds.1.exhausted)
shows_so parts config place bound stop (Best space log) formed is =
    λ least below. no_cheaper_plan parts space least formed (subst (λ (b : Option ℕ). IsExhausted parts space b true) below (subst (IsExhausted parts space bound) is.concludes is.searched.holds.1.exhausted))
shows_so parts config place bound stop (Unsolved space log last) formed is = tt
shows_so parts config place bound stop (Limit hit log) formed is = tt
shows_so parts config place bound stop Over formed is = tt
shows_so parts config place bound stop NoMemory formed is = tt

-- want of memory is passed on
pub no_memory : (config : Config) (place : ℕ) (end : SearchEnd) → end ≡ search.NoMemory → end_with config place end ≡ NoMemory
no_memory config place end is = ap (end_with config place) is
