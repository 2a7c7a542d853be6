-- The states that a search keeps, and the two that a turn works on.
use Rattle.std.specs.Prelude.{◌≡◌, ℕ, ◌≤◌, List, length, slice_get, Some, true, vec_capacity}
use Rattle.sas_task.specs.declared.contents.Parts.{Parts}
use Rattle.sas_task.specs.States.{IsState, is_applicable}
use Rattle.packed_state.specs.Packing as packing
use Rattle.packed_state.specs.Packing.{packed}
use Rattle.state_step.specs.Stepper as stepper
use Rattle.succ_gen.specs.Trees as trees
use Rattle.lazy_search.specs.declared.states.Room.{Room}
use Rattle.lazy_search.specs.declared.states.States.{States}

-- Room for a state of so many words, for the values of two states and for all operators.
pub record HasRoom (room : Room) (parts : Parts) (words : ℕ) : Type 0 where
  pub words_long : length room.words.items ≡ words
  pub here : length room.here.items ≡ length parts.variables
  pub next : length room.next.items ≡ length parts.variables
  pub applicable : length parts.operators ≤ vec_capacity room.applicable

-- They were made for the task, and have room for its states and operators.
pub record AreFor (states : States) (parts : Parts) : Type 0 where
  pub layout : packing.IsFor states.registry.layout parts
  pub stepper : stepper.IsFor states.stepper parts
  pub tree : trees.IsFor states.tree parts
  pub words : length states.words.items ≡ states.registry.layout.words
  pub here : length states.here.items ≡ length parts.variables
  pub next : length states.next.items ≡ length parts.variables
  pub room : length parts.operators ≤ vec_capacity states.applicable

-- The state of the number is there, and the operator can be taken in it.
pub record Opens (states : States) (parts : Parts) (id op : ℕ) : Type 0 where
  pub state : List ℕ
  pub is_state : IsState parts.variables state
  pub stored : slice_get states.registry.states id ≡ Some (packed states.registry.layout state)
  pub applicable : is_applicable parts state op ≡ true

-- A state of the task is kept under the number.
pub record IsKept (states : States) (parts : Parts) (id : ℕ) : Type 0 where
  pub state : List ℕ
  pub is_state : IsState parts.variables state
  pub stored : slice_get states.registry.states id ≡ Some (packed states.registry.layout state)
