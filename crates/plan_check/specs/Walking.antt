-- What is made once for a task, and what goes from state to state.
use Rattle.std.specs.Prelude.{◌≡◌, length}
use Rattle.sas_task.specs.declared.contents.Parts.{Parts}
use Rattle.packed_state.specs.Packing as packing
use Rattle.state_step.specs.Stepper as steps
use Rattle.plan_check.specs.Names.{IsIndexOf}
use Rattle.plan_check.specs.declared.setup.Setup.{Setup}
use Rattle.plan_check.specs.declared.walker.Walker.{Walker}

-- The index and the layout are the task's.
pub record IsSetup (setup : Setup) : Type 0 where
  pub index : IsIndexOf setup.by_name setup.task.now.operators
  pub laid : packing.IsFor setup.layout setup.task.now

-- The stepper is the task's, and there is room for two of its states.
pub record IsWalker (walker : Walker) (parts : Parts) : Type 0 where
  pub steps : steps.IsFor walker.stepper parts
  pub here_long : length walker.here.items ≡ length parts.variables
  pub next_long : length walker.next.items ≡ length parts.variables
