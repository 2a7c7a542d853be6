use Rattle.std.proofs.Common.{◌≡◌, ◌≤◌, ◌+◌, ◌-◌, ◌++◌, length, take}
use Rattle.std.specs.VecDeque.{deque_len, deque_capacity}
use Rattle.open_lists.proofs.runs.push_all.Given as goal

abbrev pub invariant-loop-operator : goal.invariant-loop-operator
invariant-loop-operator l = record {
  room : deque_len l.row + (length l.operators - l.operator-index) ≤ deque_capacity l.row;
  items : l.row.items ≡ l.fn.row.items ++ take l.operator-index l.operators;
}
