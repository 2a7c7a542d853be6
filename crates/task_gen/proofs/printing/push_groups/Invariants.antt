use Rattle.std.proofs.Common.{◌≡◌, ◌++◌, take}
use Rattle.std.specs.List.{flat_map}
use Rattle.text_lines.specs.Texts.{text_of}
use Rattle.task_gen.specs.Printed.{group_lines}
use Rattle.task_gen.proofs.printing.push_groups.Given as goal

abbrev pub invariant-loop-group : goal.invariant-loop-group
invariant-loop-group l = l.text.items ≡ l.initial.text.items ++ text_of (flat_map group_lines (take l.group-index l.groups))
