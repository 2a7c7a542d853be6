use Rattle.std.proofs.Common.{◌≡◌, ◌≤◌, ap, refl, length, slice_get, Some, arith}
use Rattle.axiom_eval.proofs.RuleTables.{slots_none, slots_more, slots_all, read_at}
use Rattle.axiom_eval.proofs.building.slots_of.Goals as goal

pub loop-i-init : goal.loop-i-init
loop-i-init c = rw c.in_ok-slots.ensures.items (slots_none c.args.parts.now)

pub loop-i-preserved : goal.loop-i-preserved
loop-i-preserved c =
    let at : slice_get c.args.parts.now.rules c.loop-i.i ≡ Some c.rule-item.result = read_at _ _ c.loop-i.i c.rule-item.result c.deref-rule-items.ensures c.loop-i-test.true c.rule-item.is in
    slots_more c.args.parts.now c.loop-i.i c.rule-item.result _ c.loop-i.slots.items _ c.requires at (λ layer is. c.layer_of_rule-layer.ensures layer (rw c.deref.ensures is)) refl c.loop-i.invariant c.in_ok-push.ensures.items

pub returns : goal.returns
returns c = slots_all c.args.parts.now c.loop-i.i c.loop-i.slots.items (omega (arith, ap length c.deref-rule-items.ensures)) c.loop-i.invariant
