-- Choices of operators for the names of a plan file.
use Rattle.std.specs.Prelude.{◌≡◌, ℕ, ◌<◌, ◌⊎◌, List, [], ◌∷◌, length, Bool, ◌&&◌, map, filter, slice_get, Some, unwrap_or}
use Rattle.std.specs.List.{enumerate_from, flat_map}
use Rattle.std.specs.Str.{bytes_eq}
use Rattle.sas_task.specs.declared.contents.Operator.{Operator}
use Rattle.sas_task.specs.declared.contents.Parts.{Parts}
use Rattle.sas_task.specs.States.{all_hold, step}
use Rattle.sas_task.specs.Runs.{start_of, end_of}

abbrev pub has_name : List ℕ → Operator → Bool
has_name name operator = bytes_eq operator.name name

-- the operator has the name, and is applicable
abbrev pub is_candidate : List ℕ → List ℕ → Operator → Bool
is_candidate state name operator = has_name name operator && all_hold state operator.pre

-- the operators that have the name and are applicable, in the order of their numbers
abbrev pub candidates : Parts → List ℕ → List ℕ → List ℕ
candidates parts state name = map (λ p. p.0) (filter (λ p. is_candidate state name p.1) (enumerate_from 0 parts.operators))

-- the state after an operator that is applicable
abbrev pub state_after : Parts → List ℕ → ℕ → List ℕ
state_after parts state op = unwrap_or (step parts state op) state

-- All choices of operators for names, from a state on, in the order of lists of numbers: each operator has its name and is applicable after
-- those before it.
abbrev pub choices_from : Parts → List ℕ → List (List ℕ) → List (List ℕ)
choices_from parts state [] = [] ∷ []
choices_from parts state (name ∷ names) = flat_map (λ op. map (λ ops. op ∷ ops) (choices_from parts (state_after parts state op) names)) (candidates parts state name)

abbrev pub choices : Parts → List (List ℕ) → List (List ℕ)
choices parts names = choices_from parts (start_of parts) names

-- the order of lists of numbers that are equally long
abbrev pub IsBefore : List ℕ → List ℕ → Type 0
IsBefore [] others = ⊥
IsBefore (op ∷ ops) [] = ⊥
IsBefore (op ∷ ops) (other ∷ others) = (op < other) ⊎ ((op ≡ other) × IsBefore ops others)

-- a choice as a relation: as many operators as names, each with its name, and each applicable after those before it
pub record IsChoice (parts : Parts) (names : List (List ℕ)) (ops : List ℕ) : Type 0 where
  pub long : length ops ≡ length names
  pub named : (place op : ℕ) (name : List ℕ) (operator : Operator) → slice_get names place ≡ Some name → slice_get ops place ≡ Some op → slice_get parts.operators op ≡ Some operator → operator.name ≡ name
  pub last : List ℕ
  pub leads : end_of parts (start_of parts) ops ≡ Some last
