-- The variables of a layer, and what its rules give them.
use Rattle.std.specs.Prelude.{◌≡◌, ℕ, ◌+◌, ◌-◌, List, [], ◌∷◌, length, Bool, true, not, nat_eq, ◌&&◌, slice_index, if◌then◌else◌}
use Rattle.std.proofs.Common.{◌⊎◌}
use Rattle.sas_task.specs.declared.contents.Variable.{Variable}
use Rattle.sas_task.specs.declared.contents.Parts.{Parts}
use Rattle.sas_task.specs.WellFormed.{layer_of}
use Rattle.sas_task.specs.States.{is_layer}

-- the variable is of the layer
abbrev pub is_of : Parts → ℕ → ℕ → Bool
is_of parts layer var = is_layer (layer_of parts.variables var) layer

-- the value of a derived variable that is not its default
abbrev pub gain : Parts → ℕ → ℕ
gain parts var = 1 - slice_index parts.init var

-- a state has of another what that one has, but for variables of the layer that were given
pub record Below (parts : Parts) (layer : ℕ) (state other : List ℕ) : Type 0 where
  pub long : length state ≡ length other
  pub at : (var : ℕ) → (slice_index state var ≡ slice_index other var) ⊎ ((is_of parts layer var ≡ true) × (slice_index other var ≡ gain parts var))

-- how many variables of the layer were not given
abbrev pub open_among : ℕ → List Variable → List ℕ → List ℕ → ℕ
open_among layer [] defaults values = 0
open_among layer (v ∷ variables) [] values = 0
open_among layer (v ∷ variables) (d ∷ defaults) [] = 0
open_among layer (v ∷ variables) (d ∷ defaults) (x ∷ values) = (if is_layer v.layer layer && not (nat_eq x (1 - d)) then 1 else 0) + open_among layer variables defaults values

abbrev pub open_of : Parts → ℕ → List ℕ → ℕ
open_of parts layer state = open_among layer parts.variables parts.init state
