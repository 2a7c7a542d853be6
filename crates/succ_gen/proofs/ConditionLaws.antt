-- Laws of Conditions.
use Rattle.std.specs.Prelude.{ℕ, ◌<◌, List}
use Rattle.sas_task.specs.declared.contents.Fact.{Fact}
use Rattle.succ_gen.specs.Conditions.{IsCondition}

-- the conditions are of so many variables
pub record AreFactsBelow (conditions : List (List Fact)) (variables : ℕ) : Type 0 where
  pub below : (fact : Fact) → IsCondition conditions fact → fact.var < variables
