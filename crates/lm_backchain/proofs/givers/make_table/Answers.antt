use Rattle.std.proofs.Common.{◌∙◌}
use Rattle.lm_backchain.proofs.GivingOperators.{finds_more}
use Rattle.lm_backchain.proofs.givers.make_table.Goals as goal

pub loop-op-preserved : goal.loop-op-preserved
loop-op-preserved c =
    let at = rw c.parts.ensures.parts at c.index.ensures in
    finds_more c.args.task.now c.loop-op.table c.add.new.self c.loop-op.op c.index.result.now c.deref.result.now c.loop-op.invariant at (c.deref.ensures.value ∙ c.in_ok-facts.ensures) c.in_ok-add.ensures
