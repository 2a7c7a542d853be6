-- What a run leaves in the folder.
use Rattle.std.specs.Prelude.{List, Bool, Option, Some, None}
use Rattle.lama_host.specs.Folder.{Files}
use Rattle.sas_task.specs.declared.contents.Parts.{Parts}
use Rattle.sas_task.specs.declared.plans.Kept.{Kept}
use Rattle.plan_manager.specs.Clearing.{IsCleared}
use Rattle.plan_manager.specs.Family.{SameOutside}
use Rattle.plan_manager.specs.Sealing.{HoldsPlans}
use Rattle.driver_run.specs.Words.{base_name}

-- The folder holds just the plans, numbered or not, or none where there is no task.
abbrev pub Holds : Option Parts → Bool → List Kept → Files → Type 0
Holds None many kept files = IsCleared base_name files
Holds (Some parts) many kept files = HoldsPlans files base_name many parts kept

-- It does in the end, and all names outside the family and base.part hold what they held.
pub record LeavesPlans (task : Option Parts) (many : Bool) (kept : List Kept) (before after : Files) : Type 0 where
  pub holds : Holds task many kept after
  pub outside : SameOutside base_name before after
