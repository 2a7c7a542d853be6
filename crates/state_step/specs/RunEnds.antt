-- How runs of operators end.
use Rattle.std.specs.Prelude.{◌≡◌, ℕ, ◌-◌, ◌<◌, ◌≤◌, List, length, take, false, slice_index, Some}
use Rattle.sas_task.specs.declared.contents.Parts.{Parts}
use Rattle.sas_task.specs.Runs.{IsPlan, start_of, end_of, is_goal, cost_of}
use Rattle.sas_task.specs.States.{is_applicable}
use Rattle.state_step.specs.declared.runs.RunEnd.{RunEnd}
use Rattle.state_step.specs.declared.runs.RunEnd.TheVariants.{Goal, NoGoal, NotApplicable}

-- the operators lead from the initial state to one that isn't a goal
pub record MissesGoal (parts : Parts) (ops : List ℕ) : Type 0 where
  pub last : List ℕ
  pub leads : end_of parts (start_of parts) ops ≡ Some last
  pub no_goal : is_goal parts last ≡ false

-- The operator of a step, from 1, isn't applicable in the state to which those before it lead.
pub record StopsAt (parts : Parts) (ops : List ℕ) (step : ℕ) : Type 0 where
  pub last : List ℕ
  pub from_one : 0 < step
  pub within : step ≤ length ops
  pub leads : end_of parts (start_of parts) (take (step - 1) ops) ≡ Some last
  pub stops : is_applicable parts last (slice_index ops (step - 1)) ≡ false

-- how the run of operators ends
abbrev pub Ends : Parts → List ℕ → RunEnd → Type 0
Ends parts ops (Goal cost) = IsPlan parts ops × (cost ≡ cost_of parts ops)
Ends parts ops (NoGoal cost) = MissesGoal parts ops × (cost ≡ cost_of parts ops)
Ends parts ops (NotApplicable step) = StopsAt parts ops step
