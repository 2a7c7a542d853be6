use Rattle.std.proofs.Common.{◌<◌, length, get_or, arith}
use Rattle.std.proofs.lemmas.Bool.Decides.{nat_tests}
use Rattle.lm_orders.proofs.ListLaws.{read_has, common_more}
use Rattle.lm_orders.proofs.givers.Givers.common.Goals as goal

pub row-requires : goal.row-requires
row-requires c =
    let some : 0 < length c.args.ops.now = grind (arith, nat_tests) in
    c.requires (get_or c.args.ops.now 0 0) (read_has c.args.ops.now 0 some)

pub row-requires-in-loop-op : goal.row-requires-in-loop-op
row-requires-in-loop-op c = c.requires (get_or c.args.ops.now c.loop-op.op-index 0) (read_has c.args.ops.now c.loop-op.op-index c.loop-op-test.true)

pub loop-op-preserved : goal.loop-op-preserved
loop-op-preserved c =
    common_more c.args.self.now.always c.args.ops.now c.row-in-loop-op.result.now c.loop-op.facts.items c.keep_common.new.facts.items (get_or c.args.ops.now 0 0) c.loop-op.op-index
    c.loop-op-test.true c.row-in-loop-op.ensures c.keep_common.ensures c.loop-op.invariant
