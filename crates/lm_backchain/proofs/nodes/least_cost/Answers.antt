use Rattle.std.proofs.Common.{ap, Some}
use Rattle.lm_backchain.proofs.Costs.{cost_more}
use Rattle.lm_backchain.proofs.ListLaws.{read_at}
use Rattle.lm_backchain.proofs.nodes.least_cost.Goals as goal

pub loop-op-preserved : goal.loop-op-preserved
loop-op-preserved c =
    let at = read_at c.args.ops.now c.loop-op.op-index 0 c.loop-op-test.true in
    cost_more c.args.operators.now c.args.ops.now c.loop-op.op-index _ _ _ _ at
    (read_at c.args.operators.now _ c.index-operators-op.result (c.requires c.loop-op.op-index _ at)) c.loop-op.invariant (ap (λ n. Some n) c.lesser.ensures)
