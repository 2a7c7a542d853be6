use Rattle.std.proofs.Common.{◌∙◌, arith}
use Rattle.std.proofs.lemmas.List.{take_more}
use Rattle.driver_core.proofs.Steps.{follows_step}
use Rattle.driver_core.proofs.runs.actions.Goals as goal

pub loop-event-preserved : goal.loop-event-preserved
loop-event-preserved c =
    let so_far = c.loop-event.invariant in
    record {
      set_up = c.step.ensures.setting ∙ so_far.set_up;
      follows =
          follows_step _ _ _ _ _ _ _ _ c.step.result so_far.set_up so_far.follows c.step.ensures.stands c.step.ensures.answers
          c.in_ok-push.ensures.items
          (take_more c.args.events.now c.loop-event.event-index _ (omega arith));
    }
