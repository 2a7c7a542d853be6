use Rattle.std.specs.VecDeque.{deque_items}
use Rattle.task_gen.proofs.Queues.{Stood}
use Rattle.task_gen.proofs.waiting.take_standing.Given as goal

abbrev pub invariant-loop-effect : goal.invariant-loop-effect
invariant-loop-effect l = Stood deque_items l.fn.waiting l.waiting l.effects l.olds.items l.effect-index
