-- Relaxed plans of a task.
use Rattle.std.specs.Prelude.{ℕ, List, []}
use Rattle.lama_num.specs.declared.estimates.Estimate.{Estimate}
use Rattle.sas_task.specs.declared.contents.CostKind.{CostKind}
use Rattle.sas_task.specs.declared.contents.Fact.{Fact}
use Rattle.sas_task.specs.declared.contents.Parts.{Parts}
use Rattle.relaxed_task.specs.AdditiveCosts.{AreAdditiveCosts}
use Rattle.relaxed_task.specs.Facts.{UnaryOperator, over_facts, start_facts, unary_operators, distinct_facts}
use Rattle.relaxed_task.specs.Relaxing.{IsSupported}

-- best supporters for what facts cost in a state, which reach the goal facts
pub record IsRelaxedPlan (parts : Parts) (kind : CostKind) (state : List ℕ) (list : List UnaryOperator) : Type 0 where
  pub costs : Fact → Estimate
  pub each : AreAdditiveCosts parts kind state [] costs
  pub supported : IsSupported over_facts (unary_operators parts kind) (start_facts parts state) costs (distinct_facts parts.goal) list
