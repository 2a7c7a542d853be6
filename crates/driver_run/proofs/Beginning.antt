-- The search of the turn begins.
use Rattle.std.proofs.Common.{◌≡◌, ◌∙◌, sym, ap, subst, refl, ℕ, ◌+◌, ◌*◌, ◌≤◌, List, [], ◌∷◌, length, Bool, true, false, Option, Some, None, arith, inl}
use Rattle.std.specs.List.{last_or}
use Rattle.std.proofs.lemmas.List.Elements.{All-nil}
use Rattle.sas_task.specs.declared.contents.Parts.{Parts}
use Rattle.conf_text.specs.declared.config.Config.{Config}
use Rattle.conf_text.specs.Accepted.{IsConfig}
use Rattle.driver_core.specs.declared.settings.Setting.{Setting}
use Rattle.driver_core.specs.Keeping.{kept_costs, bound_of}
use Rattle.iterated.specs.Iterating.{Iterating, IsFor}
use Rattle.run_report.specs.declared.report.Outcome.TheVariants.{NoMemory}
use Rattle.run_report.specs.Tells.{events_of}
use Rattle.run_report.specs.Searches.{IsOwn, Went, search_of, standing_after}
use Rattle.run_report.specs.Runs.{IsUnderWay}
use Rattle.driver_run.specs.declared.progress.Progress.{Progress}
use Rattle.driver_run.specs.declared.progress.Trail.{Trail}
use Rattle.driver_run.specs.Searching.{run_by, turns_on, CameTo, IsSearching, HasBegun, HasEnded, IsStopped}
use Rattle.driver_run.proofs.Going.{begun, none_kept, take_none}
use Rattle.driver_run.proofs.Phasing.{went_so}
use Rattle.driver_run.proofs.Stepping.{same_standing}
use Rattle.driver_run.proofs.Turning.{the_turn}

pub under_way_first : (parts : Parts) (config : Config) (progress : Progress) (began : ℕ) → HasBegun progress began →
    IsUnderWay (run_by parts config progress.core.setting) progress.core (turns_on began []) progress.kept.items progress.candidates.items []
under_way_first parts config progress began has = rw (has.kept, has.candidates) (begun (run_by parts config progress.core.setting) progress.core began refl has.shares has.stands)

no_costs : (setting : Setting) → kept_costs setting [] ≡ []
no_costs setting = take_none setting.single

same_bound : (setting : Setting) (began : ℕ) → bound_of setting (events_of (turns_on began [])) ≡ bound_of setting []
same_bound setting began = ap (last_or setting.bound) (none_kept setting began ∙ sym (no_costs setting))

pub first_searching : (parts : Parts) (phases : Iterating) (many : Bool) (progress : Progress) (trail : Trail) → HasBegun progress trail.began → phases.next ≡ Some 0 → IsConfig phases.config → many ≡ phases.config.iterated → IsFor phases parts →
    trail.phases ≡ 0 → trail.pops ≡ 0 → trail.past.items ≡ [] → IsSearching parts phases many progress trail
first_searching parts phases many progress trail has next config numbered task phases_none pops_none past_none =
    let setting = progress.core.setting in
    record {
      offered = [];
      found = false;
      under_way = under_way_first parts phases.config progress trail.began has;
      came = record {
        own = All-nil IsOwn;
        went = went_so (search_of (run_by parts phases.config setting) 1) (standing_after setting []) [] _ [] _ (standing_after setting []) _ past_none refl
            (same_standing _ _ _ _ _ _ false next (ap length has.kept ∙ sym (ap length (no_costs setting))) (same_bound setting trail.began)) refl;
      };
      ends = has.ends;
      single_run = has.single;
      config = config;
      task = task;
      numbered = numbered;
      going = λ none. let k : Some 0 ≡ None = sym next ∙ none in cc;
      full = λ full. let k : 0 ≡ 9999 = ap length (sym has.kept) ∙ full in absurd (omega (arith, k));
      one = λ alone. rw has.kept (omega arith);
      alone = λ alone some. has.kept;
      few = rw (past_none, has.kept, next) (omega arith);
      place = rw next (omega arith);
      phases_are = rw past_none phases_none;
      pops_are = rw past_none pops_none;
      pops_few = rw (past_none, pops_none) (omega arith);
    }

-- it finds no memory to begin with
pub none_searched : (parts : Parts) (config : Config) (progress : Progress) (trail : Trail) → HasBegun progress trail.began → trail.phases ≡ 0 → trail.pops ≡ 0 → trail.past.items ≡ [] →
    HasEnded (run_by parts config progress.core.setting) progress trail NoMemory
none_searched parts config progress trail has phases_none pops_none past_none =
    let setting = progress.core.setting in
    record {
      offered = [];
      to = standing_after setting [];
      under_way = under_way_first parts config progress trail.began has;
      came = record {
        own = All-nil IsOwn;
        went = went_so (search_of (run_by parts config setting) 1) (standing_after setting []) [] _ [] _ (standing_after setting []) _ past_none refl refl refl;
      };
      ends = tt;
      phases = rw past_none (inl phases_none);
      pops = rw past_none pops_none;
    }
