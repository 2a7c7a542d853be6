-- A phase left nothing below the bound, and another follows.
use Rattle.std.proofs.Common.{◌≡◌, ◌≢◌, ◌∙◌, sym, ap, subst, refl, ℕ, ◌+◌, ◌*◌, ◌<◌, ◌≤◌, zero, suc, List, [], ◌∷◌, ◌++◌, length, Bool, true, false, nat_lt, if◌then◌else◌, slice_get, sum_by, Option, Some, None, is_none, Result, Ok, Err, arith, length-append}
use Rattle.std.proofs.lemmas.Bool.Decides.{nat_tests}
use Rattle.std.proofs.lemmas.Option.{slice_get_within}
use Rattle.sas_task.specs.declared.contents.Parts.{Parts}
use Rattle.conf_text.specs.declared.config.Config.{Config}
use Rattle.driver_core.specs.Keeping.{bound_of}
use Rattle.iterated.specs.Following.{begun, place_after}
use Rattle.search_log.specs.Logs.{Content}
use Rattle.search_log.specs.Members.{Member}
use Rattle.iterated.specs.declared.ends.PhaseEnd.TheVariants.{Unsolved}
use Rattle.iterated.specs.Ends.{EndsFrom, next_from}
use Rattle.iterated.specs.Iterating.{Iterating, IsFor}
use Rattle.run_report.specs.declared.report.Outcome.{Outcome}
use Rattle.run_report.specs.declared.report.Past.TheVariants as item
use Rattle.run_report.specs.Turns.{plans_in}
use Rattle.run_report.specs.Tells.{events_of}
use Rattle.run_report.specs.Searches.{Went, past_pops, search_of, standing_after}
use Rattle.run_report.specs.Runs.{IsUnderWay}
use Rattle.driver_run.specs.declared.progress.Progress.{Progress}
use Rattle.driver_run.specs.declared.progress.Stop.{Stop}
use Rattle.driver_run.specs.declared.progress.Trail.{Trail}
use Rattle.driver_run.specs.Searching.{run_by, turns_on, begun_with, standing_at, place_of, CameTo, IsSearching, HasPassed, HasCounted}
use Rattle.driver_run.proofs.Phasing.{went_so}
use Rattle.run_report.proofs.PhaseSteps.{went_space}
use Rattle.driver_run.proofs.Stepping.{AtPhase, at_phase, HasLog, few_in, same_standing, pops_more}
use Rattle.driver_run.proofs.Closing.{ends_at}

-- the place behind one

behind_less : (config : Config) (place : ℕ) → place < length config.phases → place + 1 ≤ place_of (place_after config place) (length config.phases)
behind_less config place within = by_more (nat_lt (place + 1) (length config.phases))
  where
    by_more : (more : Bool) → place + 1 ≤ place_of (if more then Some (place + 1) else None) (length config.phases)
    by_more true = omega arith
    by_more false = omega (arith, within)

behind_within : (config : Config) (place : ℕ) → place_of (place_after config place) (length config.phases) ≤ length config.phases
behind_within config place = by_more (nat_lt (place + 1) (length config.phases)) refl
  where
    by_more : (more : Bool) → nat_lt (place + 1) (length config.phases) ≡ more → place_of (if more then Some (place + 1) else None) (length config.phases) ≤ length config.phases
    by_more true less = grind (arith, nat_tests, less)
    by_more false less = omega arith

pub passes_by : (parts : Parts) (phases next_phases : Iterating) (many : Bool) (progress : Progress) (trail more : Trail) (space : List Member) (least : ℕ) (log : Content) (bound : Option ℕ) →
    (is : IsSearching parts phases many progress trail) → bound ≡ bound_of progress.core.setting (events_of (turns_on trail.began is.offered)) → bound ≡ Some least →
    EndsFrom parts phases.config bound None (begun phases.next bound) (Unsolved space log false) → next_phases.config ≡ phases.config → IsFor next_phases parts →
    next_phases.next ≡ next_from phases.config (begun phases.next bound) (Unsolved space log false) → HasPassed trail more (item.Unsolved space least log) →
    (length progress.kept.items ≡ 9999 → ⊥) → IsSearching parts next_phases many progress more
passes_by parts phases next_phases many progress trail more space least log bound is present some ends same task next passed room =
    let config = phases.config in
    let setting = progress.core.setting in
    let run = run_by parts config setting in
    let at = at_phase parts config phases.next bound (Unsolved space log false) ends (λ e. cc) (λ e. cc) in
    let within : at.place < length config.phases = slice_get_within config.phases at.place at.ends.phase at.ends.at in
    let few_log = few_in parts config at.place bound (Unsolved space log false) log is.config at.ends refl in
    let after : next_phases.next ≡ place_after config at.place = next ∙ ap (λ b. next_from config b (Unsolved space log false)) at.begins_is in
    let follows : is_none (place_after config at.place) ≡ false = sym at.ends.concludes.1 in
    record {
      offered = is.offered;
      found = false;
      under_way = rw (same, passed.began) is.under_way;
      came = subst (λ c. CameTo (run_by parts c setting) more is.offered (standing_at (run_by parts c setting) next_phases progress more is.offered false)) (sym same) (record {
        own = is.came.own;
        went = went_so (search_of run 1) (standing_after setting []) _ _ _ _ _ _ passed.past refl
            (same_standing _ _ _ _ _ _ false
            (next ∙ ap (λ b. next_from config (begun phases.next b) (Unsolved space log false)) present)
            refl
            (ap (λ b. bound_of setting (events_of (turns_on b is.offered))) passed.began))
            (went_space (search_of run 1) (standing_after setting []) trail.past.items (plans_in (begun_with trail.began is.offered)) (standing_at run phases progress trail is.offered is.found) log space least is.came.went (sym present ∙ some)
            (ends_at parts phases bound _ (Unsolved space log false) present ends));
      });
      ends = is.ends;
      single_run = is.single_run;
      config = rw same is.config;
      task = task;
      numbered = rw same is.numbered;
      going = λ none. let k : true ≡ false = ap is_none (sym none ∙ after) ∙ follows in cc;
      full = λ full. absurd (room full);
      one = is.one;
      alone = λ alone some_next. is.alone alone (λ none. let k : Some at.place ≡ None = sym at.next_is ∙ none in cc);
      few = rw (same, passed.past, after) (omega (arith, length-append trail.past.items (item.Unsolved space least log ∷ []), few_so is.few at.next_is, behind_less config at.place within));
      place = rw (same, after) (behind_within config at.place);
      phases_are = rw passed.past (omega (arith, passed.phases, is.phases_are, length-append trail.past.items (item.Unsolved space least log ∷ [])));
      pops_are = rw passed.past (passed.pops ∙ ap (λ n. n + length log.pops) is.pops_are ∙ sym (pops_more trail.past.items (item.Unsolved space least log)));
      pops_few = rw passed.past (omega (arith, passed.pops, is.pops_few, few_log, length-append trail.past.items (item.Unsolved space least log ∷ [])));
    }
  where
    few_so : {n : Option ℕ} {place : ℕ} → length trail.past.items ≤ length progress.kept.items + place_of n (length phases.config.phases) → n ≡ Some place → length trail.past.items ≤ length progress.kept.items + place
    few_so few at = rw at at few
