-- How the phases of an entry follow one another, and how it ends.
use Rattle.std.specs.Prelude.{◌≡◌, ℕ, ◌+◌, ◌<◌, ◌≤◌, nat_lt, Bool, true, false, if◌then◌else◌, List, [], ◌∷◌, length, All, sum_by, slice_get, Option, Some, None, ◌⊎◌}
use Rattle.sas_task.specs.declared.contents.Parts.{Parts}
use Rattle.sas_task.specs.declared.plans.Kept.{Kept}
use Rattle.sas_task.specs.Runs.{IsPlan, cost_of}
use Rattle.plan_check.specs.declared.verdicts.Verdict.{Verdict}
use Rattle.plan_check.specs.declared.verdicts.Verdict.TheVariants.{Good, Bad}
use Rattle.driver_core.specs.declared.events.Event.{Event}
use Rattle.driver_core.specs.declared.settings.Setting.{Setting}
use Rattle.driver_core.specs.Settings.{most_plans}
use Rattle.driver_core.specs.Keeping.{kept_costs, bound_of}
use Rattle.conf_text.specs.declared.config.Phase.{Phase}
use Rattle.conf_text.specs.declared.config.Config.{Config}
use Rattle.iterated.specs.Following.{begun}
use Rattle.search_log.specs.declared.setting.LimitHit.{LimitHit}
use Rattle.search_log.specs.declared.setting.LimitHit.TheVariants.{Time, Pops, States}
use Rattle.search_log.specs.Phases.{Phase as SearchPhase}
use Rattle.search_log.specs.Rooms.{room, assignments}
use Rattle.iterated.specs.declared.ends.PhaseEnd.{PhaseEnd}
use Rattle.iterated.specs.declared.ends.PhaseEnd.TheVariants as ended
use Rattle.iterated.specs.Searches.{search_phase}
use Rattle.iterated.specs.Ends.{EndsFrom, next_from}
use Rattle.run_report.specs.declared.report.Past.{Past}
use Rattle.run_report.specs.declared.report.Past.TheVariants as item
use Rattle.run_report.specs.declared.report.Outcome.{Outcome}
use Rattle.run_report.specs.declared.report.Outcome.TheVariants.{Best, Unsolvable, Unsolved, Over, Limit, NoMemory}
use Rattle.run_report.specs.Turns.{Offered, ToldTurn, begun_of, plans_in}

-- What the search of an entry goes by: the task, the configuration, and how many plans the run keeps at most.
pub record Search : Type 0 where
  pub parts : Parts
  pub config : Config
  pub most : ℕ

-- Where it stands between two phases: the place of the phase that is next, if one is; how many plans the run has kept; the bound; and
-- whether the last phase found a plan.
pub record Standing : Type 0 where
  pub next : Option ℕ
  pub plans : ℕ
  pub bound : Option ℕ
  pub found : Bool

-- From there the next phase ended so. No limit of time is set.
abbrev pub Ends : Search → Standing → PhaseEnd → Type 0
Ends search at end = EndsFrom search.parts search.config at.bound None (begun at.next at.bound) end

-- where it stands then, with a plan of this cost or without one
abbrev pub after_plan : Search → Standing → ℕ → PhaseEnd → Standing
after_plan search at cost end = record { next = next_from search.config (begun at.next at.bound) end; plans = at.plans + 1; bound = Some cost; found = true }

abbrev pub after_space : Search → Standing → PhaseEnd → Standing
after_space search at end = record { next = next_from search.config (begun at.next at.bound) end; plans = at.plans; bound = at.bound; found = false }

-- Phase after phase, with the plans that they found, the search came from one standing to another. Each plan has its place among all kept
-- plans.
abbrev pub Went : Search → Standing → List Past → List Kept → Standing → Type 0
Went search at [] [] to = at ≡ to
Went search at [] (plan ∷ plans) to = ⊥
Went search at (item.Plan index log ∷ more) [] to = ⊥
Went search at (item.Plan index log ∷ more) (plan ∷ plans) to =
    (index ≡ at.plans) × Ends search at (ended.Plan plan.ops plan.cost log)
    × Went search (after_plan search at plan.cost (ended.Plan plan.ops plan.cost log)) more plans to
Went search at (item.Unsolved space bound log ∷ more) plans to =
    (at.bound ≡ Some bound) × Ends search at (ended.Unsolved space log false)
    × Went search (after_space search at (ended.Unsolved space log false)) more plans to

-- what a limit shows: there was room for more
abbrev pub HadRoom : SearchPhase → LimitHit → Type 0
HadRoom asked (Time start limit moment) = Unit {0}
HadRoom asked (Pops n) = asked.setting.reopen ≡ false → n < room asked
HadRoom asked (States n) = n < assignments asked.parts.variables

-- The next phase ended at a limit, where there was room for more.
pub record IsLimited (search : Search) (at : Standing) (hit : LimitHit) (end : PhaseEnd) : Type 0 where
  pub ends : Ends search at end
  pub place : ℕ
  pub phase : Phase
  pub next : at.next ≡ Some place
  pub at_place : slice_get search.config.phases place ≡ Some phase
  pub had_room : HadRoom (search_phase search.parts phase at.bound None) hit

-- no list of operators is a plan
abbrev pub HasNoPlan : Parts → Type 0
HasNoPlan parts = (ops : List ℕ) → IsPlan parts ops → ⊥

-- none is a plan that costs less
abbrev pub HasNoCheaperPlan : Parts → ℕ → Type 0
HasNoCheaperPlan parts bound = (ops : List ℕ) → IsPlan parts ops → bound ≤ cost_of parts ops

-- How the entry ends where its search stands: with what the next phase shows; or since no phase is next after a plan, or the run keeps no
-- more plans; or for want of memory.
abbrev pub EndsBy : Search → Standing → Outcome → Type 0
EndsBy search at (Best space bound log) = (at.bound ≡ Some bound) × Ends search at (ended.Best space log) × HasNoCheaperPlan search.parts bound
EndsBy search at (Unsolvable space log) = (at.bound ≡ None) × Ends search at (ended.Unsolvable space log) × HasNoPlan search.parts
EndsBy search at (Unsolved space bound log) = (at.bound ≡ Some bound) × Ends search at (ended.Unsolved space log true)
EndsBy search at Over = (at.found ≡ true) × ((at.next ≡ None) ⊎ (at.plans ≡ search.most))
EndsBy search at (Limit hit log) = IsLimited search at hit (ended.Limit hit log)
EndsBy search at NoMemory = Unit {0}

-- how many phases were begun beside those of the past
abbrev pub CountsPhases : Outcome → ℕ → ℕ → Type 0
CountsPhases (Best space bound log) past phases = phases ≡ past + (if nat_lt 0 bound then 1 else 0)
CountsPhases (Unsolvable space log) past phases = phases ≡ past + 1
CountsPhases (Unsolved space bound log) past phases = phases ≡ past + 1
CountsPhases Over past phases = phases ≡ past
CountsPhases (Limit hit log) past phases = phases ≡ past + 1
CountsPhases NoMemory past phases = (phases ≡ past) ⊎ (phases ≡ past + 1)

abbrev pub past_pops : Past → ℕ
past_pops (item.Plan index log) = length log.pops
past_pops (item.Unsolved space bound log) = length log.pops

abbrev pub last_pops : Outcome → ℕ
last_pops (Best space bound log) = length log.pops
last_pops (Unsolvable space log) = length log.pops
last_pops (Unsolved space bound log) = length log.pops
last_pops Over = 0
last_pops (Limit hit log) = length log.pops
last_pops NoMemory = 0

-- a plan that the search of this process found
abbrev pub IsOwn : Offered → Type 0
IsOwn offer = (offer.file ≡ None) × good offer.verdict
  where
    good : Verdict → Type 0
    good (Good ops cost) = Unit {0}
    good (Bad fault) = ⊥

-- A turn's search began at this standing: its phases, its end, and their numbers. Each plan that it found is a candidate, and is kept.
pub record Searched (search : Search) (from : Standing) (turn : ToldTurn) : Type 0 where
  pub to : Standing
  pub went : Went search from turn.end.past (plans_in (begun_of turn)) to
  pub ends : EndsBy search to turn.end.outcome
  pub phases : CountsPhases turn.end.outcome (length turn.end.past) turn.end.phases
  pub pops : turn.end.pops ≡ sum_by past_pops turn.end.past + last_pops turn.end.outcome
  pub own : All IsOwn turn.offered

-- What the turns of a run go by: the task, the core's setting, and the configuration of each entry, by its number.
pub record Run : Type 0 where
  pub parts : Parts
  pub setting : Setting
  pub config_of : ℕ → Config

abbrev pub search_of : Run → ℕ → Search
search_of run entry = record { parts = run.parts; config = run.config_of entry; most = most_plans run.setting.single }

-- where a search begins, after these events
abbrev pub standing_after : Setting → List Event → Standing
standing_after setting before = record { next = Some 0; plans = length (kept_costs setting before); bound = bound_of setting before; found = false }

-- How a turn ends that comes after these events.
abbrev pub EndsAs : Run → List Event → ToldTurn → Type 0
EndsAs run before turn = Searched (search_of run turn.end.entry) (standing_after run.setting before) turn
