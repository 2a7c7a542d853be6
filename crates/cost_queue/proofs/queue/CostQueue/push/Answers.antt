use Rattle.cost_queue.specs.OneMeaning.{stands_for}
use Rattle.cost_queue.proofs.QueueLaws.{pushed_low}
use Rattle.cost_queue.proofs.queue.CostQueue.push.Goals as goal

pub invariant_of-self-inside : goal.invariant_of-self-inside
invariant_of-self-inside c =
    let q = rw c.self.view_is at c.self.inside.prices.1.1 in
    ((_, (_, pushed_low q c.requires.there c.requires.new c.if-price.false c.index.ensures c.to.ensures c.min-self-inside.ensures c.raise.ensures)), tt)

pub returns : goal.returns
returns c =
    let q = rw c.self.view_is at c.self.inside.prices.1.1 in
    let is = pushed_low q c.requires.there c.requires.new c.if-price.false c.index.ensures c.to.ensures c.min-self-inside.ensures c.raise.ensures in
    search (stands_for, is)
