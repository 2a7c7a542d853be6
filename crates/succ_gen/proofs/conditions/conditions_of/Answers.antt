use Rattle.succ_gen.proofs.SortedConditions.{conditions_more, sorted_facts}
use Rattle.succ_gen.proofs.conditions.conditions_of.Goals as goal

pub loop-operator-preserved : goal.loop-operator-preserved
loop-operator-preserved c =
    let moved = sorted_facts c.operator-item.result.pre _ _ _ _ _ c.clear.ensures.items c.deref.ensures c.in_ok-extend_from_slice.ensures.items c.sort_unstable.ensures.permutation c.deref-in-loop-operator.ensures.value in
    conditions_more c.args.operators.now c.loop-operator.operator-index c.operator-item.result _ _ _ c.loop-operator-test.true c.operator-item.is moved c.loop-operator.invariant c.in-Ok.ensures.ok
