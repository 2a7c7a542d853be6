use Rattle.std.specs.VecDeque.{deque_items}
use Rattle.task_gen.proofs.Queues.{Left}
use Rattle.task_gen.proofs.waiting.take_left.Given as goal

abbrev pub invariant-loop-fact : goal.invariant-loop-fact
invariant-loop-fact l = Left deque_items l.fn.waiting l.waiting l.pre l.left.items l.fact-index
