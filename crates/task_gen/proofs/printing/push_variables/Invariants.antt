use Rattle.std.proofs.Common.{◌≡◌, ◌++◌, take}
use Rattle.std.specs.List.{flat_map}
use Rattle.text_lines.specs.Texts.{text_of}
use Rattle.task_gen.specs.Printed.{variable_lines}
use Rattle.task_gen.proofs.printing.push_variables.Given as goal

abbrev pub invariant-loop-variable : goal.invariant-loop-variable
invariant-loop-variable l = l.text.items ≡ l.initial.text.items ++ text_of (flat_map variable_lines (take l.variable-index l.variables))
