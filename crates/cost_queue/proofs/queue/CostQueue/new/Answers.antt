use Rattle.std.proofs.Common.{rules, arith}
use Rattle.cost_queue.specs.OneMeaning.{stands_for}
use Rattle.cost_queue.proofs.QueueLaws.{none_waiting}
use Rattle.cost_queue.proofs.queue.CostQueue.new.Goals as goal

pub invariant_of-result : goal.invariant_of-result
invariant_of-result c = ((_, (_, none_waiting (omega arith) c.nothing.ensures c.nothing-2.ensures (c.in_ok-next.ensures.items_if_clones_equal (λ y h. search rules)) (c.in_ok-heads.ensures.items_if_clones_equal (λ y h. search rules)) c.in_ok-heap.ensures.items c.in_ok-heap.ensures.len c.in_ok-heap.ensures.capacity c.in_ok-heap.ensures.heap_order)), tt)

pub returns : goal.returns
returns c =
    let is = none_waiting (omega arith) c.nothing.ensures c.nothing-2.ensures (c.in_ok-next.ensures.items_if_clones_equal (λ y h. search rules)) (c.in_ok-heads.ensures.items_if_clones_equal (λ y h. search rules)) c.in_ok-heap.ensures.items c.in_ok-heap.ensures.len c.in_ok-heap.ensures.capacity c.in_ok-heap.ensures.heap_order in
    search (stands_for, is)
