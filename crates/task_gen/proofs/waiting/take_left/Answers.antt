use Rattle.std.proofs.Common.{◌∙◌, sym, refl, get_or, length, arith}
use Rattle.std.specs.VecDeque.{deque_items}
use Rattle.sas_task.specs.declared.contents.Fact.{Fact}
use Rattle.task_gen.proofs.Queues.{left_keeps, left_takes, within_at}
use Rattle.task_gen.proofs.waiting.take_left.Goals.{then-is_first+in_ok-push, else-is_first}
use Rattle.task_gen.proofs.waiting.take_left.Goals as goal

pub loop-fact-preserved : goal.loop-fact-preserved
loop-fact-preserved c =
    let blank : Fact = record { var = 0; val = 0 } in
    let f = get_or c.args.pre.now c.loop-fact.fact-index blank in
    let within = within_at (λ f. f.var) (length c.args.waiting.now) c.args.pre.now c.loop-fact.fact-index f blank c.requires.within c.loop-fact-test.true refl in
    elim c.if-is_first.branch [
      | then-is_first+in_ok-push w ↦
          rw (w.waiting-is, w.left-is, w.in_ok-push.ensures.items)
          (left_takes deque_items c.args.waiting.now c.loop-fact.waiting c.args.pre.now c.loop-fact.left.items c.loop-fact.fact-index f blank w.index-waiting-fact.result w.pop_front-first.new.self
          c.loop-fact.invariant c.requires.once c.loop-fact-test.true refl (omega (arith, within, c.loop-fact.auto.waiting)) (sym c.is_first.ensures ∙ w.if-is_first.true) w.pop_front-first.ensures.rest)
      | else-is_first w ↦
          rw (w.waiting-is, w.left-is)
          (left_keeps deque_items c.args.waiting.now c.loop-fact.waiting c.args.pre.now c.loop-fact.left.items c.loop-fact.fact-index f blank
          c.loop-fact.invariant c.requires.once c.loop-fact-test.true refl (omega (arith, within, c.loop-fact.auto.waiting)) (sym c.is_first.ensures ∙ w.if-is_first.false))
    ]
