-- What facts cost, as a list by number.
use Rattle.std.specs.Prelude.{◌≡◌, ℕ, List, [], Some, slice_get, nat_le, if◌then◌else◌, slice_index_or}
use Rattle.lama_num.specs.declared.estimates.Estimate.{Estimate}
use Rattle.lama_num.specs.declared.estimates.Estimate.TheVariants.{Finite, Infinite}
use Rattle.sas_task.specs.States.{IsState}
use Rattle.sas_task.specs.declared.contents.CostKind.{CostKind}
use Rattle.sas_task.specs.declared.contents.Fact.{Fact}
use Rattle.sas_task.specs.declared.contents.Parts.{Parts}
use Rattle.relaxed_task.specs.declared.relaxation.Lists.{Lists}
use Rattle.relaxed_task.specs.AdditiveCosts.{AreAdditiveCosts, IsAdditiveCost}
use Rattle.relaxed_task.specs.Relaxing.{sum_of}
use Rattle.relaxed_task.specs.Facts.{distinct_facts}
use Rattle.relaxed_task.specs.Numbers.{costs_by}
use Rattle.h_add.specs.ByNumber.{IsAdd}
use Rattle.lama_num.specs.declared.estimates.TheConstants.{LARGEST_ESTIMATE}

-- a cost as it is kept: one above 1,000,000,000 is infinite
abbrev pub estimate_of : ℕ → Estimate
estimate_of cost = if nat_le cost LARGEST_ESTIMATE then Finite cost else Infinite

-- what a fact costs; one that isn't there is infinite
abbrev pub value_at : List ℕ → ℕ → Estimate
value_at costs fact = estimate_of (slice_index_or costs fact 4294967295)

-- a state of the task was evaluated without some facts: each fact costs what it does by the definition
pub record IsEvaluated (parts : Parts) (kind : CostKind) (state : List ℕ) (without : List Fact) (costs : List ℕ) : Type 0 where
  pub of_task : IsState parts.variables state
  pub each : AreAdditiveCosts parts kind state without (costs_by parts.variables (value_at costs))

-- the same of all numbers of facts
abbrev pub IsEvaluatedByNumber : Parts → CostKind → List ℕ → List ℕ → List ℕ → Type 0
IsEvaluatedByNumber parts kind state without costs = (fact : ℕ) → IsAdd parts kind state without fact (value_at costs fact)

-- the sum of what the goal facts cost, each once
pub record IsValueOfGoals (parts : Parts) (kind : CostKind) (state : List ℕ) (value : Estimate) : Type 0 where
  pub costs : Fact → Estimate
  pub each : (place : ℕ) (goal : Fact) → slice_get parts.goal place ≡ Some goal → IsAdditiveCost parts kind state [] goal (costs goal)
  pub sum : value ≡ sum_of costs (distinct_facts parts.goal)

-- What contracts see of an evaluator: the relaxation of its task, what each fact costs by the last evaluation, and the unary operators that
-- settled a fact.
pub record Evaluator : Type 0 where
  pub relaxed : Lists
  pub costs : List ℕ
  pub order : List ℕ
