-- A phase found a plan, which is kept: the search goes on from there.
use Rattle.std.proofs.Common.{◌≡◌, ◌≢◌, ◌∙◌, sym, ap, subst, refl, ℕ, ◌+◌, ◌*◌, ◌<◌, ◌≤◌, zero, suc, List, [], ◌∷◌, ◌++◌, length, map, Bool, true, false, nat_lt, if◌then◌else◌, slice_get, Option, Some, None, arith, length-append}
use Rattle.std.proofs.lemmas.List.Elements.{All-push}
use Rattle.std.proofs.lemmas.Bool.Decides.{nat_tests}
use Rattle.std.proofs.lemmas.Option.{slice_get_within}
use Rattle.sas_task.specs.declared.contents.Parts.{Parts}
use Rattle.sas_task.specs.declared.plans.Kept.{Kept}
use Rattle.candidates.specs.Collecting.{IsInTurn, KeepsBelow}
use Rattle.conf_text.specs.declared.config.Config.{Config}
use Rattle.conf_text.specs.Accepted.{IsConfig}
use Rattle.driver_core.specs.Keeping.{bound_of}
use Rattle.lama_num.specs.Bounds.{is_below}
use Rattle.iterated.specs.Following.{begun, place_after_plan}
use Rattle.search_log.specs.Logs.{Content}
use Rattle.iterated.specs.declared.ends.PhaseEnd.{PhaseEnd}
use Rattle.iterated.specs.declared.ends.PhaseEnd.TheVariants.{Plan}
use Rattle.iterated.specs.Ends.{EndsFrom, next_from}
use Rattle.iterated.specs.Iterating.{Iterating, IsFor}
use Rattle.run_report.specs.declared.report.Past.TheVariants as item
use Rattle.run_report.specs.Turns.{Offered, plans_in}
use Rattle.run_report.specs.Tells.{events_of}
use Rattle.run_report.specs.Searches.{Run, Standing, Went, IsOwn, after_plan, past_pops, search_of, standing_after}
use Rattle.run_report.specs.Runs.{IsUnderWay}
use Rattle.driver_run.specs.declared.progress.Progress.{Progress}
use Rattle.driver_run.specs.declared.progress.Trail.{Trail}
use Rattle.driver_run.specs.Searching.{run_by, turns_on, begun_with, standing_at, place_of, CameTo, IsSearching, HasKept, HasPassed}
use Rattle.driver_run.proofs.Turning.{own_offer, the_turn, is_on, plans_more}
use Rattle.driver_run.proofs.Going.{own_plan, kept_more}
use Rattle.driver_run.proofs.Phasing.{went_so}
use Rattle.run_report.proofs.PhaseSteps.{went_plan}
use Rattle.driver_run.proofs.Stepping.{AtPhase, at_phase, FoundPlan, found_plan, bound_after, same_standing, pops_more}

-- the turn is on, as keeping a plan wants it
pub in_turn : (parts : Parts) (phases : Iterating) (many : Bool) (progress : Progress) (trail : Trail) → (is : IsSearching parts phases many progress trail) →
    IsInTurn progress.core (events_of (turns_on trail.began is.offered)) the_turn progress.kept.items
in_turn parts phases many progress trail is = record { stands = is.under_way.stands; on = is_on trail.began is.offered; costs = is.under_way.costs }

-- the place of the phase behind a plan

pub not_less : (config : Config) (place : ℕ) → place < length config.phases → place + 1 ≤ 1 + place_of (place_after_plan config place) (length config.phases)
not_less config place within = by_more (nat_lt (place + 1) (length config.phases)) config.repeat_last
  where
    by_more : (more again : Bool) → place + 1 ≤ 1 + place_of (if more then Some (place + 1) else (if again then Some place else None)) (length config.phases)
    by_more true again = omega arith
    by_more false true = omega arith
    by_more false false = omega (arith, within)

pub still_within : (config : Config) (place : ℕ) → place < length config.phases → place_of (place_after_plan config place) (length config.phases) ≤ length config.phases
still_within config place within = by_more (nat_lt (place + 1) (length config.phases)) config.repeat_last refl
  where
    by_more : (more again : Bool) → nat_lt (place + 1) (length config.phases) ≡ more → place_of (if more then Some (place + 1) else (if again then Some place else None)) (length config.phases) ≤ length config.phases
    by_more true again less = grind (arith, nat_tests, less)
    by_more false true less = omega (arith, within)
    by_more false false less = omega arith

-- without `iterated` no phase is behind the first
pub none_behind : (config : Config) (place : ℕ) → IsConfig config → config.iterated ≡ false → place < length config.phases → place_after_plan config place ≡ None
none_behind config place is alone within =
    let one = is.single alone in
    let past : nat_lt (place + 1) (length config.phases) ≡ false = grind (arith, nat_tests, one.0, within) in
    rw (past, one.1) refl

-- What the plan makes of the search.
pub record TakesPlan (parts : Parts) (phases next_phases : Iterating) (progress next : Progress) (trail more : Trail) (ops : List ℕ) (cost : ℕ) (log : Content) (bound : Option ℕ) : Type 0 where
  pub config : next_phases.config ≡ phases.config
  pub task : IsFor next_phases parts
  pub next_is : next_phases.next ≡ next_from phases.config (begun phases.next bound) (Plan ops cost log)
  pub ends : EndsFrom parts phases.config bound None (begun phases.next bound) (Plan ops cost log)
  pub setting : next.core.setting ≡ progress.core.setting
  pub no_ends : next.ends ≡ progress.ends
  pub kept : HasKept progress next (own_plan ops cost)
  pub passed : HasPassed trail more (item.Plan (length progress.kept.items) log)

pub plan_at : (parts : Parts) (phases next_phases : Iterating) (progress next : Progress) (trail more : Trail) (ops : List ℕ) (cost : ℕ) (log : Content) (bound : Option ℕ) →
    TakesPlan parts phases next_phases progress next trail more ops cost log bound → AtPhase parts phases.config phases.next bound (Plan ops cost log)
plan_at parts phases next_phases progress next trail more ops cost log bound takes = at_phase parts phases.config phases.next bound (Plan ops cost log) takes.ends (λ e. cc) (λ e. cc)

pub goes_on : (parts : Parts) (phases next_phases : Iterating) (many : Bool) (progress next : Progress) (trail more : Trail) (ops : List ℕ) (cost : ℕ) (log : Content) (bound : Option ℕ) →
    (is : IsSearching parts phases many progress trail) → KeepsBelow progress.core.setting (events_of (turns_on trail.began is.offered)) bound →
    TakesPlan parts phases next_phases progress next trail more ops cost log bound → IsSearching parts next_phases many next more
goes_on parts phases next_phases many progress next trail more ops cost log bound is keeps takes =
    let config = phases.config in
    let setting = progress.core.setting in
    let run = run_by parts config setting in
    let events = events_of (turns_on trail.began is.offered) in
    let at = plan_at parts phases next_phases progress next trail more ops cost log bound takes in
    let within : at.place < length config.phases = slice_get_within config.phases at.place at.ends.phase at.ends.at in
    let found = found_plan parts config at.place bound ops cost log is.config at.ends in
    let offered = is.offered ++ own_offer ops cost ∷ [] in
    let turn = takes.kept.core events bound (in_turn parts phases many progress trail is) keeps found.below in
    let after : next_phases.next ≡ place_after_plan config at.place = takes.next_is ∙ ap (λ b. next_from config b (Plan ops cost log)) at.begins_is in
    let under_way = kept_more run progress.core next.core trail.began is.offered progress.kept.items progress.candidates.items ops cost is.under_way takes.setting
    (rw takes.kept.kept at turn) found.plan (subst (λ b. is_below b cost ≡ true) keeps.present found.below) in
    record {
      offered = offered;
      found = true;
      under_way = subst (λ s. IsUnderWay (run_by parts next_phases.config s) next.core (turns_on more.began offered) next.kept.items next.candidates.items []) (sym takes.setting)
          (rw (takes.config, takes.passed.began, takes.kept.kept, takes.kept.candidates) under_way);
      came = subst (λ s. CameTo (run_by parts next_phases.config s) more offered (standing_at (run_by parts next_phases.config s) next_phases next more offered true)) (sym takes.setting)
          (subst (λ c. CameTo (run_by parts c setting) more offered (standing_at (run_by parts c setting) next_phases next more offered true)) (sym takes.config) (record {
            own = All-push IsOwn is.offered (own_offer ops cost) is.came.own (refl, tt);
            went = went_so (search_of run 1) (standing_after setting []) _ _ _ _ _ _ takes.passed.past (plans_more trail.began is.offered ops cost)
                (same_standing _ _ _ _ _ _ true
                (takes.next_is ∙ ap (λ b. next_from config (begun phases.next b) (Plan ops cost log)) keeps.present)
                (ap length takes.kept.kept ∙ length-append progress.kept.items (own_plan ops cost ∷ []))
                (ap (λ b. bound_of setting (events_of (turns_on b offered))) takes.passed.began ∙ bound_after setting (events_of (turns_on trail.began offered)) progress.kept.items (own_plan ops cost) under_way.costs))
                (went_plan (search_of run 1) (standing_after setting []) trail.past.items (plans_in (begun_with trail.began is.offered)) (standing_at run phases progress trail is.offered is.found) log (own_plan ops cost) is.came.went
                (subst (λ b. EndsFrom parts config b None (begun phases.next b) (Plan ops cost log)) keeps.present takes.ends));
          }));
      ends = rw takes.no_ends is.ends;
      single_run = rw takes.setting is.single_run;
      config = rw takes.config is.config;
      task = takes.task;
      numbered = rw takes.config is.numbered;
      going = λ none. refl;
      full = λ full. refl;
      one = λ alone. rw (takes.kept.kept, is.alone alone (λ none. let k : Some at.place ≡ None = sym at.next_is ∙ none in cc)) (omega arith);
      alone = λ alone some. absurd (some (after ∙ none_behind config at.place is.config (sym is.numbered ∙ alone) within));
      few = rw (takes.config, takes.passed.past, takes.kept.kept, after)
          (omega (arith, length-append trail.past.items (item.Plan (length progress.kept.items) log ∷ []), length-append progress.kept.items (own_plan ops cost ∷ []), few_so is.few at.next_is, not_less config at.place within));
      place = rw (takes.config, after) (still_within config at.place within);
      phases_are = rw takes.passed.past (omega (arith, takes.passed.phases, is.phases_are, length-append trail.past.items (item.Plan (length progress.kept.items) log ∷ [])));
      pops_are = rw takes.passed.past (takes.passed.pops ∙ ap (λ n. n + length log.pops) is.pops_are ∙ sym (pops_more trail.past.items (item.Plan (length progress.kept.items) log)));
      pops_few = rw takes.passed.past (omega (arith, takes.passed.pops, is.pops_few, found.few, length-append trail.past.items (item.Plan (length progress.kept.items) log ∷ [])));
    }
  where
    few_so : {n : Option ℕ} {place : ℕ} → length trail.past.items ≤ length progress.kept.items + place_of n (length phases.config.phases) → n ≡ Some place → length trail.past.items ≤ length progress.kept.items + place
    few_so few at = rw at at few
