-- What a run finds, given room.
use Rattle.std.specs.Prelude.{◌≡◌, ◌≢◌, ℕ, ◌≤◌, false, true, List, [], All, slice_get, Some, None, ◌⊎◌}
use Rattle.sas_task.specs.declared.contents.Parts.{Parts}
use Rattle.sas_task.specs.Runs.{IsPlan}
use Rattle.conf_text.specs.declared.config.Config.{Config}
use Rattle.conf_text.specs.declared.config.Phase.{Phase}
use Rattle.search_log.specs.Rooms.{room, assignments}
use Rattle.iterated.specs.Searches.{search_phase}
use Rattle.run_report.specs.declared.report.Report.{Report}
use Rattle.run_report.specs.declared.report.EntryEnd.{EntryEnd}
use Rattle.run_report.specs.Clocks.{has_memory}
use Rattle.run_report.specs.Events.{IsRunToEnd}

-- The first phase doesn't go back to states, and may make as many pops and visit as many states as there can be.
pub record HasRoom (parts : Parts) (config : Config) : Type 0 where
  pub phase : Phase
  pub first : slice_get config.phases 0 ≡ Some phase
  pub once : phase.reopen ≡ false
  pub pops : room (search_phase parts phase None None) ≤ phase.most_pops
  pub states : assignments parts.variables ≤ phase.most_states

-- A run to its end, without a bound, whose one search has room and finds memory keeps a plan, and ends with 0 or 2; but where no plan
-- exists it ends with 11.
pub record IsComplete (parts : Parts) (config : Config) (report : Report) : Type 0 where
  pub finds : IsRunToEnd report.why → HasRoom parts config → All (λ (end : EntryEnd). has_memory end.outcome ≡ true) report.ends →
      (ops : List ℕ) → IsPlan parts ops → (report.kept ≢ []) × ((report.code ≡ 0) ⊎ (report.code ≡ 2))
  pub refutes : IsRunToEnd report.why → HasRoom parts config → All (λ (end : EntryEnd). has_memory end.outcome ≡ true) report.ends →
      ((ops : List ℕ) → IsPlan parts ops → ⊥) → report.code ≡ 11
