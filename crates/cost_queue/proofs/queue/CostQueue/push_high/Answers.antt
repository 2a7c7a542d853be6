use Rattle.cost_queue.specs.OneMeaning.{stands_for}
use Rattle.cost_queue.proofs.QueueLaws.{has_room, pushed_high}
use Rattle.cost_queue.proofs.queue.CostQueue.push_high.Goals as goal

pub invariant_of-self-inside : goal.invariant_of-self-inside
invariant_of-self-inside c =
    let q = rw c.self.view_is at c.self.inside.prices.1.1 in
    ((_, (_, pushed_high q c.push.result c.requires.there c.requires.new c.requires.high c.push.ensures.succeeds c.push.ensures.len c.push.ensures.capacity c.push.ensures.permutation c.push.ensures.heap_order)), tt)

pub unreachable-requires : goal.unreachable-requires
unreachable-requires c =
    let q = rw c.self.view_is at c.self.inside.prices.1.1 in
    let k = c.in-Err.ensures.succeeds (has_room q _ c.requires.there c.requires.new) in
    cc

pub returns : goal.returns
returns c =
    let q = rw c.self.view_is at c.self.inside.prices.1.1 in
    let is = pushed_high q c.push.result c.requires.there c.requires.new c.requires.high c.push.ensures.succeeds c.push.ensures.len c.push.ensures.capacity c.push.ensures.permutation c.push.ensures.heap_order in
    search (stands_for, is)
