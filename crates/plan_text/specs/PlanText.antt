-- The text of a plan file.
use Rattle.std.specs.Prelude.{ℕ, List, [], ◌++◌, Bool, if◌then◌else◌, slice_get, Option, Some, None, codes, decimal}
use Rattle.std.specs.List.{flat_map}
use Rattle.sas_task.specs.declared.contents.Operator.{Operator}
use Rattle.sas_task.specs.declared.contents.Parts.{Parts}
use Rattle.sas_task.specs.Costs.{is_unit_cost}
use Rattle.sas_task.specs.Runs.{cost_of}

-- the name of an operator
abbrev pub name_at : Parts → ℕ → List ℕ
name_at parts op = name (slice_get parts.operators op)
  where
    name : Option Operator → List ℕ
    name None = []
    name (Some o) = o.name

-- a step: the operator's name in parentheses
abbrev pub step_line : List ℕ → List ℕ
step_line name = codes "(" ++ name ++ codes ")\n"

abbrev pub kind_of_cost : Bool → List ℕ
kind_of_cost unit = if unit then codes " (unit cost)\n" else codes " (general cost)\n"

-- the last line: the cost, and which kind of cost it is
abbrev pub cost_line : Bool → ℕ → List ℕ
cost_line unit cost = codes "; cost = " ++ decimal cost ++ kind_of_cost unit

-- a line for each step, and the cost line
abbrev pub plan_text : Parts → List ℕ → List ℕ
plan_text parts ops = flat_map (λ op. step_line (name_at parts op)) ops ++ cost_line (is_unit_cost parts) (cost_of parts ops)
