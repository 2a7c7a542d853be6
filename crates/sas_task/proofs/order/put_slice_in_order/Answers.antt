use Rattle.std.proofs.Common.{◌<◌, length, arith}
use Rattle.sas_task.specs.Order.{in_order}
use Rattle.sas_task.proofs.InPlace.{one_more_changed}
use Rattle.sas_task.proofs.order.put_slice_in_order.Goals as goal

pub loop-operator-preserved : goal.loop-operator-preserved
loop-operator-preserved c =
    let xs = c.args.operators.now in
    let i = c.loop-operator.operator-index in
    let lt : i < length xs = omega arith in
    let step = one_more_changed in_order xs c.loop-operator.operators i c.operator-item.result c.loop-operator.invariant lt in
    rw c.order_preconditions-prevail.ensures.order step.changed
