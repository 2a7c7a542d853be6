use Rattle.cost_queue.specs.OneMeaning.{stands_for}
use Rattle.cost_queue.proofs.QueueLaws.{popped, taken_high, none_left}
use Rattle.cost_queue.proofs.queue.CostQueue.pop_high.Goals as goal

pub invariant_of-self-inside : goal.invariant_of-self-inside
invariant_of-self-inside c =
    let q = rw c.self.view_is at c.self.inside.prices.1.1 in
    ((_, (_, popped q c.pop.result c.pop.ensures.len c.pop.ensures.capacity c.pop.ensures.permutation c.pop.ensures.heap_order c.pop.ensures.unchanged)), tt)

pub returns-in_err-price : goal.returns-in_err-price
returns-in_err-price c =
    let q = rw c.self.view_is at c.self.inside.prices.1.1 in
    let is = rw c.in_err-price.was at (popped q c.pop.result c.pop.ensures.len c.pop.ensures.capacity c.pop.ensures.permutation c.pop.ensures.heap_order c.pop.ensures.unchanged) in
    rw c.from_residual.ensures (search (stands_for, is), none_left q c.in_err-price.ensures.none c.requires)

pub returns : goal.returns
returns c =
    let q = rw c.self.view_is at c.self.inside.prices.1.1 in
    let taken = taken_high q c.in_ok-price.ensures.permutation (c.in_ok-price.ensures.heap_order q.ordered).1 c.requires in
    let is = rw c.in_ok-price.was at (popped q c.pop.result c.pop.ensures.len c.pop.ensures.capacity c.pop.ensures.permutation c.pop.ensures.heap_order c.pop.ensures.unchanged) in
    record { waited = taken.waited; rest = search (stands_for, is); least = taken.least }
