-- How the core, the lists of a run and its folder go on as candidates are taken in.
use Rattle.std.specs.Prelude.{◌≡◌, ◌≢◌, ℕ, ◌<◌, List, [], ◌∷◌, ◌++◌, length, map, Bool, false, Option, Result, Ok, Err}
use Rattle.lama_host.specs.Folder.{Told, Changes}
use Rattle.sas_task.specs.declared.contents.Parts.{Parts}
use Rattle.sas_task.specs.declared.plans.Kept.{Kept}
use Rattle.plan_check.specs.declared.verdicts.Verdict.{Verdict}
use Rattle.driver_core.specs.declared.events.Event.{Event}
use Rattle.driver_core.specs.declared.settings.Setting.{Setting}
use Rattle.driver_core.specs.Settings.{most_plans}
use Rattle.driver_core.specs.Keeping.{kept_costs, is_kept, bound_of}
use Rattle.lama_num.specs.Bounds.{is_below}
use Rattle.driver_core.specs.Running.{is_over_after, has_stopped}
use Rattle.driver_core.specs.Standing.{StandsFor}
use Rattle.driver_core.specs.States.{CoreState}
use Rattle.driver_core.specs.Turns.{Turn, IsOn}
use Rattle.candidates.specs.declared.offers.Candidate.{Candidate}
use Rattle.candidates.specs.declared.reading.ReadError.{ReadError}
use Rattle.candidates.specs.declared.reading.ReadError.TheVariants.{Failed}
use Rattle.candidates.specs.Judging.{Judged, judged_as, offer_of, plans_of, candidates_of}
use Rattle.candidates.specs.Plans.{ArePlans, PlacesKept}

-- The core stands for these events, the turn is on, and the kept plans are those that the core kept.
pub record IsInTurn (core : CoreState) (events : List Event) (turn : Turn) (kept : List Kept) : Type 0 where
  pub stands : StandsFor core events
  pub on : IsOn events turn
  pub costs : kept_costs core.setting events ≡ map (λ (plan : Kept). plan.cost) kept

-- The run isn't over after these events, and of the plans that come now just those below the bound are kept.
pub record KeepsBelow (setting : Setting) (events : List Event) (bound : Option ℕ) : Type 0 where
  pub over : is_over_after setting events ≡ false
  pub going : has_stopped setting events ≡ false
  pub room : length (kept_costs setting events) < most_plans setting.single
  pub present : bound ≡ bound_of setting events
  pub keeps : (cost : ℕ) → is_kept setting events cost ≡ is_below bound cost

-- what stands in a run: what its folder tells, its core, its plans and its candidates
pub record Standing : Type 0 where
  pub told : Told
  pub core : CoreState
  pub kept : List Kept
  pub candidates : List Candidate

abbrev pub standing : Told → CoreState → List Kept → List Candidate → Standing
standing told core kept candidates = record { told = told; core = core; kept = kept; candidates = candidates }

-- Candidates of a turn that were judged went to the core, to the two lists, and their plans to the folder. Where a call
-- of the folder failed, nothing is said of the core.
pub record TakesIn {T : Type 0} (result : Result T ReadError) (parts : Parts) (base : List ℕ) (many : Bool) (turn : Turn) (events : List Event) (before now : Standing) (judged : List Judged) : Type 0 where
  pub kept : now.kept ≡ before.kept ++ plans_of turn judged
  pub plans : ArePlans parts (plans_of turn judged)
  pub candidates : now.candidates ≡ before.candidates ++ candidates_of turn (length before.kept) judged
  pub core : result ≢ Err Failed → IsInTurn now.core (events ++ map (offer_of turn) judged) turn now.kept
  pub folder : Changes before.told now.told
      (PlacesKept result base many parts (length before.kept) (plans_of turn judged) (bound_of before.core.setting (events ++ map (offer_of turn) judged)))

-- the candidate of a verdict, where it was finished
abbrev pub finished : {T E : Type 0} → Result T E → ℕ → Verdict → List Judged
finished (Ok x) number verdict = judged_as number verdict ∷ []
finished (Err e) number verdict = []
