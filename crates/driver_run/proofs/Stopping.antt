-- The search of the turn is stopped.
use Rattle.std.proofs.Common.{◌≡◌, subst, ℕ, Bool}
use Rattle.sas_task.specs.declared.contents.Parts.{Parts}
use Rattle.conf_text.specs.declared.config.Config.{Config}
use Rattle.driver_core.specs.declared.settings.Setting.{Setting}
use Rattle.iterated.specs.Iterating.{Iterating}
use Rattle.driver_run.specs.declared.progress.Progress.{Progress}
use Rattle.driver_run.specs.declared.progress.Trail.{Trail}
use Rattle.driver_run.specs.Searching.{run_by, IsSearching, IsStopped, HasSame}

-- what was kept before stays
pub stopped_so : (parts : Parts) (phases : Iterating) (many : Bool) (progress next : Progress) (trail : Trail) (config : Config) (setting : Setting) (began : ℕ) → IsSearching parts phases many progress trail →
    phases.config ≡ config → progress.core.setting ≡ setting → trail.began ≡ began → HasSame progress next → IsStopped (run_by parts config setting) began next
stopped_so parts phases many progress next trail config setting began is c s b same =
    subst (λ cfg. IsStopped (run_by parts cfg setting) began next) c
    (subst (λ set. IsStopped (run_by parts phases.config set) began next) s
    (subst (λ m. IsStopped (run_by parts phases.config progress.core.setting) m next) b
    (record { offered = is.offered; core = progress.core; under_way = rw (same.kept, same.candidates) is.under_way })))
