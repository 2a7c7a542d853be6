-- The additive estimate of a task.
use Rattle.std.specs.Prelude.{◌≡◌, ℕ, List, IsTrue}
use Rattle.lama_num.specs.declared.estimates.Estimate.{Estimate}
use Rattle.sas_task.specs.WellFormed.{is_fact}
use Rattle.sas_task.specs.declared.contents.CostKind.{CostKind}
use Rattle.sas_task.specs.declared.contents.Fact.{Fact}
use Rattle.sas_task.specs.declared.contents.Parts.{Parts}
use Rattle.relaxed_task.specs.Facts.{over_facts, start_facts, unary_operators, distinct_facts}
use Rattle.relaxed_task.specs.Relaxing.{IsCost, sum_of}

-- what a fact costs from a state without some facts
abbrev pub IsAdditiveCost : Parts → CostKind → List ℕ → List Fact → Fact → Estimate → Type 0
IsAdditiveCost parts kind state without fact cost = IsCost over_facts (unary_operators parts kind) (start_facts parts state) without fact cost

-- what all facts of the task cost
abbrev pub AreAdditiveCosts : Parts → CostKind → List ℕ → List Fact → (Fact → Estimate) → Type 0
AreAdditiveCosts parts kind state without costs = (fact : Fact) → IsTrue (is_fact parts.variables fact) → IsAdditiveCost parts kind state without fact (costs fact)

-- the sum of what the goal facts cost, each once
pub record IsGoalValue (parts : Parts) (kind : CostKind) (state : List ℕ) (without : List Fact) (value : Estimate) : Type 0 where
  pub costs : Fact → Estimate
  pub each : AreAdditiveCosts parts kind state without costs
  pub sum : value ≡ sum_of costs (distinct_facts parts.goal)
