use Rattle.std.proofs.Common.{◌≡◌, length}
use Rattle.cost_queue.specs.Queues.{waiting_count}
use Rattle.cost_queue.proofs.queue.CostQueue.clear.Given as goal

abbrev pub invariant-waiting : goal.invariant-waiting
invariant-waiting l = length l.self ≡ length l.initial.self

abbrev pub decreases-waiting : goal.decreases-waiting
decreases-waiting l = waiting_count l.self
