-- The visited states, as contracts see them.
use Rattle.std.specs.Prelude.{◌≡◌, ℕ, ◌≤◌, List, length}
use Rattle.packed_state.specs.Packing.{Places}
use Rattle.state_registry.specs.Interning.{IsOnce}
use Rattle.state_registry.specs.Widths.{states_of, width_or}
use Rattle.state_registry.specs.declared.sets.Sets.{Sets}

-- the words of the states in order of insertion, how many there may be, and the layout that packs them
pub record Visited : Type 0 where
  pub states : List (List ℕ)
  pub most : ℕ
  pub layout : Places

-- what is kept for them
pub record IsRegistry (sets : Sets) (most words : ℕ) (layout : Places) : Type 0 where
  pub width : width_or sets words ≡ words
  pub wide : words ≡ layout.words
  pub few : length (states_of sets) ≤ most
  pub once : IsOnce (states_of sets)
