-- What goes from state to state.
use Rattle.std.specs.Prelude.{◌≡◌, ◌≤◌, length, vec_capacity}
use Rattle.sas_task.specs.declared.contents.Parts.{Parts}
use Rattle.search_bench.specs.declared.walking.Room.{Room}

-- There is room for two states of the task and for all its operators.
pub record IsRoom (room : Room) (parts : Parts) : Type 0 where
  pub here_long : length room.here.items ≡ length parts.variables
  pub next_long : length room.next.items ≡ length parts.variables
  pub wide : length parts.operators ≤ vec_capacity room.applicable
