use Rattle.lm_status.proofs.Afters.{after_none, next_after}
use Rattle.lm_status.proofs.making.make_after.Goals as goal

pub loop-node-init : goal.loop-node-init
loop-node-init c = rw c.new-after.ensures (after_none c.args.graph.now)

pub loop-node-preserved : goal.loop-node-preserved
loop-node-preserved c =
    next_after c.args.graph.now _ c.loop-node.after _ c.loop-node.node _ c.in_ok-nodes.nodes.items c.in_ok-successors.ensures c.loop-node.invariant c.orders_from.ensures.orders c.orders_from.ensures.each c.in_ok-nodes.ensures (rw c.deref.ensures.value at c.in_ok-push.ensures.ok)
