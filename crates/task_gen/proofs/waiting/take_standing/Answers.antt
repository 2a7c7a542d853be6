use Rattle.std.proofs.Common.{◌∙◌, sym, ap, subst, ◌++◌, ◌∷◌, [], ◌+◌, set, length, arith}
use Rattle.std.specs.VecDeque.{deque_items}
use Rattle.task_gen.proofs.Queues.{Stood, stood_none, stood_more, within_at}
use Rattle.task_gen.proofs.waiting.take_standing.Goals as goal

pub loop-effect-init : goal.loop-effect-init
loop-effect-init c = subst (λ os. Stood deque_items c.args.waiting.now c.args.waiting.now c.args.effects.now os 0) (sym c.in_ok-olds.ensures.items) (stood_none deque_items c.args.waiting.now c.args.effects.now)

pub loop-effect-preserved : goal.loop-effect-preserved
loop-effect-preserved c =
    let e = c.effect-item.result in
    let within = within_at (λ e. e.fact.var) (length c.args.waiting.now) c.args.effects.now c.loop-effect.effect-index e e c.requires.within c.loop-effect-test.true c.effect-item.is in
    subst (λ os. Stood deque_items c.args.waiting.now (set c.loop-effect.waiting c.effect-item.result.fact.var c.pop_front-first.new.self) c.args.effects.now os (c.loop-effect.effect-index + 1))
    (sym (c.in_ok-push.ensures.items ∙ ap (λ v. c.loop-effect.olds.items ++ v ∷ []) c.value_of.ensures))
    (stood_more deque_items c.args.waiting.now c.loop-effect.waiting c.args.effects.now c.loop-effect.olds.items c.loop-effect.effect-index e e c.index-waiting-effect.result c.pop_front-first.new.self c.pop_front-first.result
    c.loop-effect.invariant c.loop-effect-test.true c.effect-item.is (omega (arith, within, c.loop-effect.auto.waiting)) c.pop_front-first.ensures.items c.pop_front-first.ensures.rest)
