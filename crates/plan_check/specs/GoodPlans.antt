-- What a good file shows.
use Rattle.std.specs.Prelude.{◌≡◌, ℕ, ◌<◌, ◌≤◌, List, length, slice_index, IfSome, Option, Ok}
use Rattle.sas_task.specs.declared.contents.Parts.{Parts}
use Rattle.sas_task.specs.Runs.{IsPlan, cost_of}
use Rattle.sas_task.specs.Costs.{is_unit_cost}
use Rattle.plan_text.specs.PlanLines.{plan_lines_of}
use Rattle.plan_text.specs.declared.reading.PlanLines.{PlanLines}
use Rattle.plan_check.specs.Choices.{IsChoice, IsBefore}
use Rattle.plan_check.specs.declared.verdicts.Verdict.{Verdict}
use Rattle.plan_check.specs.declared.verdicts.Verdict.TheVariants.{Good, Bad}
use Rattle.plan_text.specs.declared.reading.TheConstants.{MOST_PLAN_BYTES}

-- The bytes are the text of a plan: its operators are a choice for the names, they are operators of the task and lead to the goal, the cost
-- and its kind are told as they are, and the cost is below the bound. No choice for the names that is a plan of that cost comes before it.
pub record IsGoodPlan (parts : Parts) (bytes : List ℕ) (bound : Option ℕ) (ops : List ℕ) (cost : ℕ) : Type 0 where
  pub lines : PlanLines
  pub text : plan_lines_of bytes ≡ Ok lines
  pub chosen : IsChoice parts lines.names ops
  pub operators : (place : ℕ) → place < length ops → slice_index ops place < length parts.operators
  pub plan : IsPlan parts ops
  pub kind : lines.unit ≡ is_unit_cost parts
  pub told : lines.cost ≡ cost
  pub cost_is : cost ≡ cost_of parts ops
  pub cheaper : IfSome bound (λ limit. cost < limit)
  pub first : (others : List ℕ) → IsChoice parts lines.names others → IsPlan parts others → cost_of parts others ≡ cost → IsBefore others ops → ⊥

abbrev pub IsJudged : Parts → List ℕ → Option ℕ → Verdict → Type 0
IsJudged parts bytes bound (Good ops cost) = IsGoodPlan parts bytes bound ops cost
IsJudged parts bytes bound (Bad fault) = Unit {0}

-- no more steps than the bytes of a plan file
abbrev pub HasFewSteps : Verdict → Type 0
HasFewSteps (Good ops cost) = length ops ≤ MOST_PLAN_BYTES
HasFewSteps (Bad fault) = Unit {0}
