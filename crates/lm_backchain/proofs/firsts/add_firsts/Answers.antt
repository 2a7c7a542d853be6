use Rattle.std.proofs.Common.{◌≤◌, length, arith}
use Rattle.lm_backchain.proofs.FirstAchievers.{firsts_next}
use Rattle.lm_backchain.proofs.firsts.add_firsts.Goals as goal

pub loop-place-init : goal.loop-place-init
loop-place-init c done so_far = so_far

pub loop-place-preserved : goal.loop-place-preserved
loop-place-preserved c done so_far = c.in_ok-add_first.ensures done (c.loop-place.invariant done so_far)

pub returns : goal.returns
returns c done so_far next =
    let at = rw c.parts.ensures.parts at c.index.ensures in
    let all : length c.index.result.now.effects ≤ c.loop-place.place = omega arith in
    firsts_next c.args.task.now c.args.node.now done c.args.op c.loop-place.place next c.index.result.now c.loop-place.firsts.items at all (c.loop-place.invariant done so_far)
