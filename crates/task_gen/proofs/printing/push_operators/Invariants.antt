use Rattle.std.specs.VecDeque.{deque_items}
use Rattle.std.proofs.Common.{◌≡◌, ◌++◌, [], take}
use Rattle.std.specs.List.{flat_map}
use Rattle.text_lines.specs.Texts.{text_of}
use Rattle.task_gen.specs.Printed.{operator_lines}
use Rattle.task_gen.specs.Waiting.{Waits}
use Rattle.task_gen.proofs.printing.push_operators.Given as goal

abbrev pub invariant-loop-operator : goal.invariant-loop-operator
invariant-loop-operator l = record {
  text_is : l.text.items ≡ l.initial.text.items ++ text_of (flat_map operator_lines (take l.operator-index l.operators));
  none : Waits deque_items l.waiting [];
}
