-- What an evaluator of FF is for, and what it found last.
use Rattle.std.specs.Prelude.{ℕ, List}
use Rattle.sas_task.specs.declared.contents.CostKind.{CostKind}
use Rattle.relaxed_task.specs.declared.relaxation.Lists.{Lists}

-- What contracts see of an evaluator: the relaxation of its task, what each fact costs by the last evaluation, its kind of cost, and the
-- operators that it found last.
pub record Planner : Type 0 where
  pub relaxed : Lists
  pub costs : List ℕ
  pub kind : CostKind
  pub plan : List ℕ
  pub preferred : List ℕ
