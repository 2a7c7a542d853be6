-- What is printed is read back.
use Rattle.std.specs.Prelude.{◌≡◌, ℕ, List, length, Bool, ◌&&◌, nat_lt, IsTrue}
use Rattle.std.specs.List.{list_all, AllZip}
use Rattle.text_lines.specs.Texts.{is_line}
use Rattle.sas_task.specs.Facts.{has_fact}
use Rattle.sas_task.specs.Order.{has_one_value_each}
use Rattle.sas_task.specs.declared.contents.Fact.{Fact}
use Rattle.sas_task.specs.declared.contents.Operator.{Operator}
use Rattle.sas_task.specs.declared.contents.Parts.{Parts}
use Rattle.sas_reader.specs.FirstFault.{IsTextOf}

-- a name that a line can hold: it isn't empty, has no line feed, and nothing at its ends that reading drops
abbrev pub is_line_name : List ℕ → Bool
is_line_name name = nat_lt 0 (length name) && is_line name

-- the names of variables, values and operators are such names
abbrev pub has_line_names : Parts → Bool
has_line_names parts =
    list_all (λ v. is_line_name v.name && list_all is_line_name v.values) parts.variables
    && list_all (λ o. is_line_name o.name) parts.operators

-- An operator that is read again. Where two of its preconditions are values of one variable, so that it is never applicable, they may
-- have changed places.
pub record IsSameOperator (operator again : Operator) : Type 0 where
  pub others : again ≡ record operator { pre = again.pre }
  pub facts : (f : Fact) → has_fact again.pre f ≡ has_fact operator.pre f
  pub order : IsTrue (has_one_value_each operator.pre) → again.pre ≡ operator.pre

-- A text of the task: what is read of it is the task, up to the order of preconditions of operators that are never applicable.
pub record IsReadBack (task : Parts) (bytes : List ℕ) : Type 0 where
  pub again : Parts
  pub text : IsTextOf bytes again
  pub others : again ≡ record task { operators = again.operators }
  pub operators : AllZip IsSameOperator task.operators again.operators
  pub same : IsTrue (list_all (λ o. has_one_value_each o.pre) task.operators) → again ≡ task
