use Rattle.std.proofs.Common.{sym, ◌∙◌}
use Rattle.sas_task.proofs.MovedPreconditions.{arranges_none, arranges_stay, arranges_move}
use Rattle.sas_task.proofs.order.arrange_in_place.Goals as goal
use Rattle.sas_task.proofs.order.arrange_in_place.Goals.{in-Some, in_default}

pub loop-effect-init : goal.loop-effect-init
loop-effect-init c = arranges_none c.args.pre.now

pub loop-effect-preserved : goal.loop-effect-preserved
loop-effect-preserved c =
    let pre = c.args.pre.now in
    let now = c.loop-effect.pre in
    let front = c.loop-effect.front in
    let effects = c.args.effects.now in
    let i = c.loop-effect.effect-index in
    let e = c.effect-item.result in
    elim c.match-first_on.branch [
      | in-Some w ↦ rw (w.pre-is, w.front-is) (arranges_move pre now w.move_to_end.new.facts front effects i e w.in-Some.place c.requires c.loop-effect.invariant c.loop-effect-test.true c.effect-item.is (sym c.first_on.ensures.place ∙ w.in-Some.is) w.move_to_end.ensures)
      | in_default w ↦ rw (w.pre-is, w.front-is) (arranges_stay pre now front effects i e c.requires c.loop-effect.invariant c.loop-effect-test.true c.effect-item.is (sym c.first_on.ensures.place ∙ w.in_default.is))
    ]
