use Rattle.std.proofs.Common.{◌<◌, ◌∙◌, length, get_or, arith, ap}
use Rattle.std.proofs.lemmas.List.{get_or_default}
use Rattle.sas_task.specs.Limits.{most_listed}
use Rattle.sas_task.specs.Order.{in_order}
use Rattle.sas_task.specs.Refusals.{above, conditions_of}
use Rattle.sas_task.proofs.Above.{flat_front, flat_behind}
use Rattle.sas_task.proofs.InPlace.{one_more_changed}
use Rattle.sas_task.proofs.order.order_slice.Goals as goal

pub returns-then-is_some-clause-count : goal.returns-then-is_some-clause-count
returns-then-is_some-clause-count c =
    let xs = c.args.operators.now in
    let i = c.loop-operator.operator-index in
    let d = c.operator-item.result in
    let lt : i < length xs = omega arith in
    let step = one_more_changed in_order xs c.loop-operator.operators i d c.loop-operator.invariant.order lt in
    flat_front most_listed conditions_of xs i (get_or xs i d) c.order_operator-count.result lt (get_or_default xs i d (get_or xs i d) lt) (c.order_operator-count.ensures.count ∙ ap (λ o. above most_listed (conditions_of o)) step.element) (cc) c.loop-operator.invariant.count

pub loop-operator-preserved : goal.loop-operator-preserved
loop-operator-preserved c =
    let xs = c.args.operators.now in
    let i = c.loop-operator.operator-index in
    let d = c.operator-item.result in
    let lt : i < length xs = omega arith in
    let step = one_more_changed in_order xs c.loop-operator.operators i d c.loop-operator.invariant.order lt in
    record {
      order = rw c.order_operator-count.ensures.order step.changed;
      count = flat_behind most_listed conditions_of xs i (get_or xs i d) c.order_operator-count.result lt (get_or_default xs i d (get_or xs i d) lt) (c.order_operator-count.ensures.count ∙ ap (λ o. above most_listed (conditions_of o)) step.element) (cc) c.loop-operator.invariant.count;
    }
