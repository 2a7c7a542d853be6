use Rattle.std.specs.VecDeque.{deque_items}
use Rattle.std.proofs.Common.{take}
use Rattle.task_gen.specs.Waiting.{Waits}
use Rattle.task_gen.proofs.waiting.let_wait.Given as goal

abbrev pub invariant-loop-fact : goal.invariant-loop-fact
invariant-loop-fact l = Waits deque_items l.waiting (take l.fact-index l.pre)
