-- What one phase more makes of a search.
use Rattle.std.proofs.Common.{◌≡◌, ◌≢◌, ◌∙◌, sym, ap, subst, refl, ℕ, ◌+◌, ◌*◌, ◌<◌, ◌≤◌, zero, suc, List, [], ◌∷◌, ◌++◌, length, map, Bool, true, false, nat_lt, slice_get, sum_by, Option, Some, None, arith, length-append}
use Rattle.std.specs.List.{last_or}
use Rattle.std.proofs.lemmas.List.{map-append}
use Rattle.std.proofs.lemmas.List.Sums.{sum_by-append}
use Rattle.std.proofs.lemmas.List.Elements.{All-push}
use Rattle.std.proofs.lemmas.Bool.Decides.{nat_tests}
use Rattle.std.proofs.lemmas.Option.{slice_get_within, get_or_from_slice_get}
use Rattle.sas_task.specs.declared.contents.Parts.{Parts}
use Rattle.sas_task.specs.declared.plans.Kept.{Kept}
use Rattle.sas_task.specs.Runs.{IsPlanOf}
use Rattle.candidates.specs.Collecting.{IsInTurn, KeepsBelow}
use Rattle.conf_text.specs.declared.config.Config.{Config}
use Rattle.conf_text.specs.declared.config.Phase.{Phase}
use Rattle.conf_text.specs.Accepted.{IsConfig, IsPhase}
use Rattle.driver_core.specs.declared.events.Event.{Event}
use Rattle.driver_core.specs.declared.settings.Setting.{Setting}
use Rattle.driver_core.specs.Keeping.{kept_costs, bound_of}
use Rattle.lama_num.specs.Bounds.{is_below}
use Rattle.iterated.specs.declared.ends.Begun.TheVariants as begins
use Rattle.iterated.specs.Following.{begun}
use Rattle.search_log.specs.declared.turns.Pop.{Pop}
use Rattle.search_log.specs.Logs.{Content, Visit}
use Rattle.search_log.specs.Lawful.{Lawful}
use Rattle.log_laws.proofs.LogLaws.{lawful_numbers, pops_in}
use Rattle.search_log.specs.Phases.{Phase as SearchPhase}
use Rattle.lama_num.specs.Bounds.{is_below as is_under}
use Rattle.iterated.specs.declared.ends.PhaseEnd.{PhaseEnd}
use Rattle.iterated.specs.declared.ends.PhaseEnd.TheVariants.{Plan, Unsolvable, Best, Unsolved, Limit, Over, NoMemory}
use Rattle.iterated.specs.Ends.{EndsFrom, PhaseEnds, no_log}
use Rattle.run_report.specs.declared.report.Past.{Past}
use Rattle.run_report.specs.Searches.{Standing, past_pops}

-- a log has at most as many pops as its phase may make
pub few_pops : (phase : SearchPhase) (visits : List Visit) (pops : List Pop) → Lawful phase visits pops → length pops ≤ phase.setting.most_pops
few_pops phase [] pops none = let e : pops ≡ [] = none in rw e (omega arith)
few_pops phase (v ∷ vs) pops lawful =
    let few = (lawful_numbers phase (v ∷ vs) pops lawful).pops in
    rw (pops_in phase (v ∷ vs) pops (omega arith)) at few

-- An end that is of a phase: that phase was begun.
pub record AtPhase (parts : Parts) (config : Config) (next bound : Option ℕ) (end : PhaseEnd) : Type 0 where
  pub place : ℕ
  pub next_is : next ≡ Some place
  pub begins_is : begun next bound ≡ begins.Phase place
  pub ends : PhaseEnds parts config place bound None end

pub at_phase : (parts : Parts) (config : Config) (next bound : Option ℕ) (end : PhaseEnd) → EndsFrom parts config bound None (begun next bound) end →
    (end ≡ Over → ⊥) → (end ≡ Best [] no_log → ⊥) → AtPhase parts config next bound end
at_phase parts config None bound end is over best = absurd (over is)
at_phase parts config (Some place) None end is over best = record { place = place; next_is = refl; begins_is = refl; ends = is }
at_phase parts config (Some place) (Some zero) end is over best = absurd (best is)
at_phase parts config (Some place) (Some (suc n)) end is over best = record { place = place; next_is = refl; begins_is = refl; ends = is }

pub phase_within : (config : Config) (place : ℕ) (phase : Phase) → IsConfig config → slice_get config.phases place ≡ Some phase → IsPhase phase
phase_within config place phase is at =
    let within = slice_get_within config.phases place phase at in
    subst IsPhase (get_or_from_slice_get config.phases place phase phase at) (is.phases place phase within)

same_below : (bound : Option ℕ) (cost : ℕ) → is_under bound cost ≡ true → is_below bound cost ≡ true
same_below None cost is = is
same_below (Some b) cost is = is

-- What the end of a phase with a plan says.
pub record FoundPlan (parts : Parts) (bound : Option ℕ) (ops : List ℕ) (cost : ℕ) (log : Content) : Type 0 where
  pub plan : IsPlanOf parts ops cost
  pub below : is_below bound cost ≡ true
  pub few : length log.pops ≤ 1099511627776

pub found_plan : (parts : Parts) (config : Config) (place : ℕ) (bound : Option ℕ) (ops : List ℕ) (cost : ℕ) (log : Content) → IsConfig config →
    PhaseEnds parts config place bound None (Plan ops cost log) → FoundPlan parts bound ops cost log
found_plan parts config place bound ops cost log is ends =
    let phase = phase_within config place ends.phase is ends.at in
    let holds = ends.searched.holds in
    record {
      plan = holds.1.plan;
      below = same_below bound cost holds.1.below;
      few = omega (arith, few_pops _ log.visits log.pops holds.0.lawful, phase.most_pops);
    }

-- the log of an end, if it has one
abbrev pub HasLog : PhaseEnd → Content → Type 0
HasLog (Plan ops cost own) log = own ≡ log
HasLog (Unsolvable space own) log = own ≡ log
HasLog (Best space own) log = own ≡ log
HasLog (Unsolved space own last) log = own ≡ log
HasLog (Limit hit own) log = own ≡ log
HasLog Over log = ⊥
HasLog NoMemory log = ⊥

pub few_in : (parts : Parts) (config : Config) (place : ℕ) (bound : Option ℕ) (end : PhaseEnd) (log : Content) → IsConfig config → PhaseEnds parts config place bound None end → HasLog end log → length log.pops ≤ 1099511627776
few_in parts config place bound (Plan ops cost own) log is ends same = let e : own ≡ log = same in rw (← e) (found_plan parts config place bound ops cost own is ends).few
few_in parts config place bound (Unsolvable space own) log is ends same =
    let e : own ≡ log = same in
    rw (← e) (omega (arith, few_pops _ own.visits own.pops ends.searched.holds.0.lawful, (phase_within config place ends.phase is ends.at).most_pops))
few_in parts config place bound (Best space own) log is ends same =
    let e : own ≡ log = same in
    rw (← e) (omega (arith, few_pops _ own.visits own.pops ends.searched.holds.0.lawful, (phase_within config place ends.phase is ends.at).most_pops))
few_in parts config place bound (Unsolved space own last) log is ends same =
    let e : own ≡ log = same in
    rw (← e) (omega (arith, few_pops _ own.visits own.pops ends.searched.holds.0.lawful, (phase_within config place ends.phase is ends.at).most_pops))
few_in parts config place bound (Limit hit own) log is ends same =
    let e : own ≡ log = same in
    rw (← e) (omega (arith, few_pops _ own.visits own.pops ends.searched.holds.0.lawful, (phase_within config place ends.phase is ends.at).most_pops))
few_in parts config place bound Over log is ends same = absurd same
few_in parts config place bound NoMemory log is ends same = absurd same

last_is : (o : Option ℕ) (xs : List ℕ) (x : ℕ) → last_or o (xs ++ x ∷ []) ≡ Some x
last_is o [] x = refl
last_is o (y ∷ xs) x = last_is (Some y) xs x

-- the bound is the cost of the plan that was kept last
pub bound_after : (setting : Setting) (events : List Event) (kept : List Kept) (plan : Kept) → kept_costs setting events ≡ map (λ (p : Kept). p.cost) (kept ++ plan ∷ []) → bound_of setting events ≡ Some plan.cost
bound_after setting events kept plan costs =
    ap (last_or setting.bound) (costs ∙ map-append (λ (p : Kept). p.cost) kept (plan ∷ [])) ∙ last_is setting.bound (map (λ (p : Kept). p.cost) kept) plan.cost

pub same_standing : (next other : Option ℕ) (plans count : ℕ) (bound present : Option ℕ) (found : Bool) → next ≡ other → plans ≡ count → bound ≡ present →
    ◌≡◌ {A = Standing} (record { next = next; plans = plans; bound = bound; found = found }) (record { next = other; plans = count; bound = present; found = found })
same_standing next other plans count bound present found n p b = rw (n, p, b) refl

one_item : (item : Past) → sum_by past_pops (item ∷ []) ≡ past_pops item
one_item item = alone (past_pops item)
  where
    alone : (n : ℕ) → 0 + n ≡ n
    alone n = omega arith

-- the pops so far and those of one phase more
pub pops_more : (past : List Past) (item : Past) → sum_by past_pops (past ++ item ∷ []) ≡ sum_by past_pops past + past_pops item
pops_more past item = sum_by-append past_pops past (item ∷ []) ∙ ap (λ n. sum_by past_pops past + n) (one_item item)
