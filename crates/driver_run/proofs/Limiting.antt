-- The search of the turn ends at a limit of a phase, where there was room for more.
use Rattle.std.proofs.Common.{◌≡◌, ◌∙◌, refl, sym, ap, subst, ℕ, zero, suc, ◌+◌, ◌<◌, ◌≤◌, Bool, true, false, List, [], ◌∷◌, ◌++◌, length, nat_lt, slice_get, Option, Some, None, IfSome, arith}
use Rattle.std.specs.Prelude.{not, ◌&&◌, ◌||◌}
use Rattle.std.proofs.lemmas.List.Folds.{list_any-append}
use Rattle.lama_num.proofs.ListLaws.{both}
use Rattle.sas_task.specs.declared.contents.Parts.{Parts}
use Rattle.sas_task.specs.WellFormed.{IsWellFormed}
use Rattle.conf_text.specs.declared.config.GuideKind.{GuideKind}
use Rattle.conf_text.specs.declared.config.GuideKind.TheVariants.{Add, Ff, Lm}
use Rattle.conf_text.specs.declared.config.Phase.{Phase}
use Rattle.conf_text.specs.Accepted.{each_once, IsPhase as IsConfigPhase}
use Rattle.conf_text.specs.Grammar.{same_guide, has_guide, every_guide}
use Rattle.driver_core.specs.Keeping.{bound_of}
use Rattle.iterated.specs.declared.ends.Begun.TheVariants as begins
use Rattle.iterated.specs.Following.{begun}
use Rattle.search_log.specs.declared.setting.LimitHit.{LimitHit}
use Rattle.search_log.specs.declared.setting.LimitHit.TheVariants.{Time, Pops, States}
use Rattle.search_log.specs.Logs.{Content}
use Rattle.search_log.specs.Phases.{IsPhase, IsSetting}
use Rattle.log_laws.proofs.RoomLaws.{pops_below_room, full_below_room}
use Rattle.iterated.specs.declared.ends.PhaseEnd.TheVariants as ended
use Rattle.iterated.specs.Ends.{EndsFrom, PhaseEnds}
use Rattle.iterated.specs.Iterating.{Iterating}
use Rattle.iterated.specs.Searches.{search_phase}
use Rattle.run_report.specs.declared.report.Outcome.TheVariants.{Limit}
use Rattle.run_report.specs.Tells.{events_of}
use Rattle.run_report.specs.Searches.{HadRoom}
use Rattle.driver_run.specs.declared.progress.Progress.{Progress}
use Rattle.driver_run.specs.declared.progress.Trail.{Trail}
use Rattle.driver_run.specs.Searching.{run_by, turns_on, IsSearching, HasEnded, HasCounted}
use Rattle.driver_run.proofs.Stepping.{at_phase, phase_within}
use Rattle.driver_run.proofs.Closing.{ends_by, ends_at, counted_pops, counted_phases}
use Rattle.lama_num.proofs.BoolLaws.{or-false as or_false}
use Rattle.conf_text.proofs.GuideKinds.{few_guides, at_most_three}

-- a phase that was begun may be asked what it is

above_none : (next bound : Option ℕ) (place : ℕ) → begun next bound ≡ begins.Phase place → IfSome bound (λ b. 0 < b)
above_none next None place is = tt
above_none None (Some b) place is = let k : begins.Over ≡ begins.Phase place = is in cc
above_none (Some p) (Some zero) place is = let k : begins.Best ≡ begins.Phase place = is in cc
above_none (Some p) (Some (suc n)) place is = omega arith

weight_within : (weight : Option ℕ) → IfSome weight (λ w. (1 ≤ w) × (w ≤ 1000)) → IfSome weight (λ w. (0 < w) × (w ≤ 1000))
weight_within None is = tt
weight_within (Some w) is = (omega (arith, is.0), is.1)

is_phase : (parts : Parts) (phase : Phase) (bound : Option ℕ) → IsWellFormed parts → IsConfigPhase phase → IfSome bound (λ b. 0 < b) → IsPhase (search_phase parts phase bound None)
is_phase parts phase bound formed is above = record {
  task = formed;
  some_guide = is.some;
  few_guides = at_most_three phase.guides is.guides;
  setting = record {
    bound = above;
    weight = weight_within phase.weight is.weight;
    boost = is.boost;
    pops = is.most_pops;
    some_state = omega (arith, is.most_states.0);
    few_states = is.most_states.1;
  };
}

had_room : (parts : Parts) (phases : Iterating) (place : ℕ) (bound : Option ℕ) (hit : LimitHit) (log : Content) → (ends : PhaseEnds parts phases.config place bound None (ended.Limit hit log)) → IsPhase (search_phase parts ends.phase bound None) →
    HadRoom (search_phase parts ends.phase bound None) hit
had_room parts phases place bound (Time start limit moment) log ends is = tt
had_room parts phases place bound (Pops n) log ends is =
    let holds = ends.searched.holds in
    λ closed. rw holds.1.0 (pops_below_room (search_phase parts ends.phase bound None) log.visits log.pops is holds.0.lawful holds.1.1 closed)
had_room parts phases place bound (States n) log ends is =
    let holds = ends.searched.holds in
    rw holds.1.0 (full_below_room (search_phase parts ends.phase bound None) log.visits log.pops is holds.0.lawful holds.1.1).1

pub limit_ended : (parts : Parts) (phases : Iterating) (many : Bool) (progress : Progress) (trail more : Trail) (hit : LimitHit) (log : Content) (bound : Option ℕ) → (is : IsSearching parts phases many progress trail) →
    bound ≡ bound_of progress.core.setting (events_of (turns_on trail.began is.offered)) → EndsFrom parts phases.config bound None (begun phases.next bound) (ended.Limit hit log) → IsWellFormed parts → HasCounted trail more log →
    HasEnded (run_by parts phases.config progress.core.setting) progress more (Limit hit log)
limit_ended parts phases many progress trail more hit log bound is present ends formed counted =
    let now = bound_of progress.core.setting (events_of (turns_on trail.began is.offered)) in
    let ends_now = ends_at parts phases bound now (ended.Limit hit log) present ends in
    let at = at_phase parts phases.config phases.next now (ended.Limit hit log) ends_now (λ e. cc) (λ e. cc) in
    let phase = phase_within phases.config at.place at.ends.phase is.config at.ends.at in
    ends_by parts phases many progress trail more (Limit hit log) is counted.began counted.past
    (record {
      ends = ends_now;
      place = at.place;
      phase = at.ends.phase;
      next = at.next_is;
      at_place = at.ends.at;
      had_room = had_room parts phases at.place now hit log at.ends (is_phase parts at.ends.phase now formed phase (above_none phases.next now at.place at.begins_is));
    })
    (counted_phases parts phases many progress trail more log is counted) (counted_pops parts phases many progress trail more log is counted)
