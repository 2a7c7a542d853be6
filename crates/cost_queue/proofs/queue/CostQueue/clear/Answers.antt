use Rattle.cost_queue.proofs.WaitingLaws.{taken_fewer}
use Rattle.cost_queue.proofs.queue.CostQueue.clear.Goals as goal

pub waiting-smaller : goal.waiting-smaller
waiting-smaller c = taken_fewer _ _ _ c.in-Some.ensures
