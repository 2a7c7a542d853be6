use Rattle.std.proofs.Common.{◌≡◌, ◌+◌, ◌++◌, length, drop}
use Rattle.std.specs.List.{prefix_len}
use Rattle.plan_text.specs.PlanLines.{is_step, names_in_front}
use Rattle.plan_text.proofs.reading.read_steps.Given as goal

abbrev pub invariant-loop-line : goal.invariant-loop-line
invariant-loop-line l = record {
  names : l.names.items ++ names_in_front l.cursor.left ≡ l.fn.names.items ++ names_in_front l.fn.cursor.left;
  rest : drop (prefix_len is_step l.cursor.left) l.cursor.left ≡ drop (prefix_len is_step l.fn.cursor.left) l.fn.cursor.left;
  place : l.cursor.line + prefix_len is_step l.cursor.left ≡ l.fn.cursor.line + prefix_len is_step l.fn.cursor.left;
}

abbrev pub decreases-loop-line : goal.decreases-loop-line
decreases-loop-line l = length l.cursor.left
