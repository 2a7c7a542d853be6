use Rattle.std.proofs.Common.{◌∙◌, ◌≤◌, length, arith}
use Rattle.state_step.proofs.TableLaws.{adds_more}
use Rattle.state_step.proofs.tables.changes_of.Goals as goal

pub loop-effect-preserved : goal.loop-effect-preserved
loop-effect-preserved c =
    let added = c.in-Ok.ensures in
    let long : length c.loop-effect.conds ≤ length c.change_of.new.conds = added.grows.long in
    record {
      adds = adds_more c.args.effects.now c.loop-effect.effect-index c.effect-item.result _ _ c.in-Ok.change _ _ _ (omega arith) c.effect-item.is c.loop-effect.invariant.adds added c.in_ok-push.ensures.items;
      none = added.grows.same 0 c.loop-effect.invariant.some ∙ c.loop-effect.invariant.none;
      some = omega (arith, long);
    }
