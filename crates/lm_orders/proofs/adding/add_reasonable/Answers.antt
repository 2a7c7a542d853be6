use Rattle.std.proofs.Common.{◌≡◌, ap, subst, ℕ, length, arith}
use Rattle.lm_orders.specs.Reasonable.{AddsBefore, AddsSome}
use Rattle.lm_orders.proofs.PairOrder.{adds_none, some_pairs, on_error}
use Rattle.lm_orders.proofs.adding.add_reasonable.Goals as goal

pub returns-in_err-tables-clause-err : goal.returns-in_err-tables-clause-err
returns-in_err-tables-clause-err c =
    let some : AddsSome c.args.task.now c.args.graph.now c.args.graph.now = some_pairs c.args.task.now c.args.graph.now c.args.graph.now 0 0 (adds_none c.args.task.now c.args.graph.now) in
    on_error _ some

pub loop-node-preserved : goal.loop-node-preserved
loop-node-preserved c = c.in_ok-order_from.ensures.ok c.args.task.now c.args.graph.now c.loop-node.invariant

pub returns-clause-ok : goal.returns-clause-ok
returns-clause-ok c =
    let all : c.loop-node.node ≡ length c.args.graph.now.nodes = omega (arith, ap length c.nodes.ensures.nodes) in
    subst (λ (n : ℕ). AddsBefore c.args.task.now c.args.graph.now c.loop-node.graph n 0) all c.loop-node.invariant.adds
