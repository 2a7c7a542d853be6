-- The operators of a task by their names.
use Rattle.std.specs.Prelude.{◌≡◌, ℕ, ◌+◌, List, drop, Option, Some, slice_get}
use Rattle.std.specs.List.{position_from}
use Rattle.std.specs.HashMap.{get_by}
use Rattle.std.specs.Str.{bytes_eq}
use Rattle.sas_task.specs.declared.contents.Operator.{Operator}
use Rattle.plan_check.specs.Choices.{has_name}
use Rattle.plan_check.specs.declared.names.ByName.{ByName}

-- the lowest operator with a name, from a number on
abbrev pub next_of : List ℕ → ℕ → List Operator → Option ℕ
next_of name from operators = position_from (has_name name) from (drop from operators)

-- for each name its lowest operator, and for each operator the next one of its name
pub record IsIndexOf (by_name : ByName) (operators : List Operator) : Type 0 where
  pub first : (name : List ℕ) → get_by (λ key. bytes_eq name key.now) by_name.first ≡ next_of name 0 operators
  pub next : (op : ℕ) (o : Operator) → slice_get operators op ≡ Some o → slice_get by_name.next.items op ≡ Some (next_of o.name (op + 1) operators)
