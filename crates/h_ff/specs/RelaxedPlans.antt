-- What FF answers.
use Rattle.std.specs.Prelude.{◌≡◌, ◌↔◌, ℕ, min, List, [], filter, Contains, sum_by}
use Rattle.std.specs.List.{filter_map}
use Rattle.std.specs.List.Sorted.{IsStrictlyIncreasing}
use Rattle.lama_num.specs.declared.estimates.Estimate.{Estimate}
use Rattle.lama_num.specs.declared.estimates.Estimate.TheVariants.{Finite, Infinite}
use Rattle.sas_task.specs.declared.contents.CostKind.{CostKind}
use Rattle.sas_task.specs.declared.contents.Parts.{Parts}
use Rattle.sas_task.specs.Costs.{adjusted_cost}
use Rattle.state_step.specs.Steps.{is_applicable}
use Rattle.relaxed_task.specs.Plans.{IsRelaxedPlan}
use Rattle.relaxed_task.specs.Reached.{IsDead}
use Rattle.relaxed_task.specs.Facts.{UnaryOperator}
use Rattle.lama_num.specs.declared.estimates.TheConstants.{LARGEST_ESTIMATE}

-- the operators of unary operators, one after the other; a rule has none
abbrev pub operators_of : List UnaryOperator → List ℕ
operators_of list = filter_map (λ u. u.op) list

-- the numbers of a list, ascending, each once
pub record AreEachOnce (all once : List ℕ) : Type 0 where
  pub ascending : IsStrictlyIncreasing once
  pub each : (number : ℕ) → Contains once number ↔ Contains all number

-- what operators cost together, at most 1,000,000,000
abbrev pub cost_of : Parts → CostKind → List ℕ → ℕ
cost_of parts kind ops = min (sum_by (λ op. adjusted_cost parts op kind) ops) LARGEST_ESTIMATE

-- a value with the operators of a relaxed plan, and those of them that are applicable
pub record HasPlan (parts : Parts) (kind : CostKind) (state : List ℕ) (value : ℕ) (ops preferred : List ℕ) : Type 0 where
  pub alive : IsDead parts state → ⊥
  pub list : List UnaryOperator
  pub plan : IsRelaxedPlan parts kind state list
  pub operators : AreEachOnce (operators_of list) ops
  pub cost : value ≡ cost_of parts kind ops
  pub applicable : preferred ≡ filter (is_applicable parts state) ops

-- infinite where the state is dead, and then there are no operators; else a relaxed plan's
abbrev pub IsFf : Parts → CostKind → List ℕ → Estimate → List ℕ → List ℕ → Type 0
IsFf parts kind state (Finite value) ops preferred = HasPlan parts kind state value ops preferred
IsFf parts kind state Infinite ops preferred = IsDead parts state × (ops ≡ []) × (preferred ≡ [])
