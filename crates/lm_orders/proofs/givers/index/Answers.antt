use Rattle.std.proofs.Common.{◌<◌, length, arith}
use Rattle.lm_orders.proofs.RowsByFact.{indexes_next}
use Rattle.lm_orders.proofs.givers.index.Goals as goal

pub loop-number-preserved : goal.loop-number-preserved
loop-number-preserved c =
    let within : c.loop-number.number < length c.args.rows.now = omega arith in
    indexes_next c.args.rows.now c.row.result.now c.loop-number.table c.add.new.self c.loop-number.number within c.row.ensures c.loop-number.invariant c.in_ok-add.ensures
