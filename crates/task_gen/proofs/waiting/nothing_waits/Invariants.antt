use Rattle.std.specs.VecDeque.{deque_items}
use Rattle.std.proofs.Common.{◌≡◌, [], length}
use Rattle.task_gen.specs.Waiting.{Waits}
use Rattle.task_gen.proofs.waiting.nothing_waits.Given as goal

abbrev pub invariant-loop-var : goal.invariant-loop-var
invariant-loop-var l = record {
  none : Waits deque_items l.waiting.items [];
  many : length l.waiting.items ≡ l._var;
}
