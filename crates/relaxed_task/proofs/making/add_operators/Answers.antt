use Rattle.std.proofs.Common.{◌≡◌, ◌∙◌, ap, arith, length, get_or}
use Rattle.relaxed_task.proofs.More.{operators_more}
use Rattle.relaxed_task.proofs.making.add_operators.Goals as goal

pub loop-op-preserved : goal.loop-op-preserved
loop-op-preserved c =
    let same : c.deref-operator-items.result.now ≡ c.args.task.now.operators = c.deref-operator-items.ensures ∙ ap (λ p. p.operators) c.parts.ensures.parts in
    let long : length c.deref-operator-items.result.now ≡ length c.args.task.now.operators = ap length same in
    let is : c.operator-item.result ≡ get_or c.args.task.now.operators c.loop-op.op c.operator-item.result = c.operator-item.is ∙ ap (λ xs. get_or xs c.loop-op.op c.operator-item.result) same in
    record {
      made = operators_more c.args.task.now c.args.kind c.args.offsets.now c.args.task.now.operators c.loop-op.op c.adjusted_cost-cost.result c.operator-item.result c.args.unaries.now.items c.loop-op.unaries.items _
          (omega arith) is c.adjusted_cost-cost.ensures c.loop-op.invariant.made c.in_ok-add_effects.ensures.unaries;
      clear = c.in_ok-add_effects.ensures.clear;
      long = omega arith;
    }
