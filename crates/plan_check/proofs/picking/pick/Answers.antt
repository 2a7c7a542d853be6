use Rattle.std.proofs.Common.{◌<◌, refl, arith, length}
use Rattle.plan_check.proofs.GoalChoices.{least_place, first_place, within_more}
use Rattle.plan_check.proofs.picking.pick.Goals as goal

pub loop-place-preserved : goal.loop-place-preserved
loop-place-preserved c =
    let lt : c.loop-place.place < length c.args.layer.now = omega (arith, c.loop-place-test.true, c.len-place-end.ensures) in
    record {
      ready = c.restore-cost.ensures.ready;
      least = λ choices are.
          least_place c.args.setup.now.task.now c.args.setup.now.layout c.args.layer.now c.loop-place.place c.restore-cost.result c.restore-cost.new.self.here.items c.is_goal-goal.result lt c.is_goal-goal.ensures c.restore-cost.ensures.end choices are
          c.loop-place.goals.least c.with-goals.result.least (c.loop-place.invariant.least choices are) c.with-goals.ensures.least;
      first = λ choices are.
          first_place c.args.setup.now.task.now c.args.setup.now.layout c.args.layer.now c.loop-place.place c.restore-cost.result c.restore-cost.new.self.here.items c.is_goal-goal.result lt c.is_goal-goal.ensures c.restore-cost.ensures.end choices are
          c.args.wanted _ c.loop-place.goals.place c.with-goals.result.place refl c.loop-place.invariant.within (c.loop-place.invariant.first choices are) c.with-goals.ensures.place;
      within = within_more c.loop-place.place _ c.loop-place.goals.place c.with-goals.result.place c.loop-place.invariant.within c.with-goals.ensures.place;
    }
