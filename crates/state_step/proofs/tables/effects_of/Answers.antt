use Rattle.std.proofs.Common.{◌∙◌, ◌++◌, ◌∷◌, [], ap, arith}
use Rattle.state_step.proofs.TableLaws.{effects_more}
use Rattle.state_step.proofs.tables.effects_of.Goals as goal

pub loop-operator-preserved : goal.loop-operator-preserved
loop-operator-preserved c =
    let added = c.in-Ok.ensures in
    record {
      are = effects_more c.args.operators.now c.loop-operator.operator-index c.operator-item.result _ _ _ _ _ _ (omega arith) c.operator-item.is c.deref.ensures c.loop-operator.invariant.some c.loop-operator.invariant.are added (c.in-Ok-push.ensures.ok ∙ ap (λ xs. c.loop-operator.rows ++ xs ∷ []) c.deref-in-loop-operator.ensures.value);
      some = omega (arith, added.grows.long);
    }
