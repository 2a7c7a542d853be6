-- The conditions of operators, in an order of their own.
use Rattle.std.specs.Prelude.{◌≡◌, ℕ, List, length, slice_get, Some}
use Rattle.std.specs.List.Sorted.{IsPermutation}
use Rattle.lama_num.specs.Rows.{row_at}
use Rattle.sas_task.specs.declared.contents.Fact.{Fact}
use Rattle.sas_task.specs.declared.contents.Operator.{Operator}

-- the preconditions of each operator, in some order
pub record AreConditions (operators : List Operator) (conditions : List (List Fact)) : Type 0 where
  pub long : length conditions ≡ length operators
  pub each : (op : ℕ) (o : Operator) → slice_get operators op ≡ Some o → IsPermutation o.pre (row_at conditions op)

-- a fact is a condition of an operator
pub record IsCondition (conditions : List (List Fact)) (fact : Fact) : Type 0 where
  pub operator : ℕ
  pub place : ℕ
  pub at : slice_get (row_at conditions operator) place ≡ Some fact
