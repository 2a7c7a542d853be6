-- Runs of operators, plans, and what they cost.
use Rattle.std.specs.Prelude.{◌≡◌, ℕ, ◌<◌, ◌^◌, List, [], ◌∷◌, length, Bool, IsTrue, slice_get, slice_index, Option, Some, None, option_map, option_and_then, sum_by}
use Rattle.sas_task.specs.States.{all_hold, step, settled}
use Rattle.sas_task.specs.declared.contents.Operator.{Operator}
use Rattle.sas_task.specs.declared.contents.Parts.{Parts}

-- the initial state: the initial values, settled
abbrev pub start_of : Parts → List ℕ
start_of parts = settled parts parts.init

-- where operators lead from a state, each taken in its turn; none where one can't be
abbrev pub end_of : Parts → List ℕ → List ℕ → Option (List ℕ)
end_of parts state [] = Some state
end_of parts state (op ∷ ops) = option_and_then (λ next. end_of parts next ops) (step parts state op)

-- The states of a run: the one from which it starts, and one more for each operator; none where an operator can't be taken.
abbrev pub states_of : Parts → List ℕ → List ℕ → Option (List (List ℕ))
states_of parts state [] = Some (state ∷ [])
states_of parts state (op ∷ ops) = option_and_then (λ next. option_map (λ states. state ∷ states) (states_of parts next ops)) (step parts state op)

-- all goal facts hold
abbrev pub is_goal : Parts → List ℕ → Bool
is_goal parts state = all_hold state parts.goal

-- the operators lead from the initial state to a goal
pub record IsPlan (parts : Parts) (ops : List ℕ) : Type 0 where
  pub last : List ℕ
  pub leads : end_of parts (start_of parts) ops ≡ Some last
  pub goal : IsTrue (is_goal parts last)

-- the cost of an operator
abbrev pub cost_at : Parts → ℕ → ℕ
cost_at parts op = cost (slice_get parts.operators op)
  where
    cost : Option Operator → ℕ
    cost None = 0
    cost (Some o) = o.cost

-- the sum of the operators' costs
abbrev pub cost_of : Parts → List ℕ → ℕ
cost_of parts ops = sum_by (cost_at parts) ops

-- A plan of the task with its cost. Its operators are operators of the task, and fewer than 2^32.
pub record IsPlanOf (parts : Parts) (ops : List ℕ) (cost : ℕ) : Type 0 where
  pub plan : IsPlan parts ops
  pub cost_is : cost ≡ cost_of parts ops
  pub operators : (place : ℕ) → place < length ops → slice_index ops place < length parts.operators
  pub few : length ops < 2 ^ 32
