use Rattle.std.proofs.Common.{◌≡◌, arith}
use Rattle.succ_gen.proofs.Levels.{level_sorted, level_last, order_sorted}
use Rattle.succ_gen.proofs.growing.grow.Goals as goal

pub place_steps-requires-clause-level : goal.place_steps-requires-clause-level
place_steps-requires-clause-level c = level_sorted c.args.conditions.now c.loop-depth.depth _ _ _ _ _ c.sort_unstable.ensures.permutation c.deref.ensures.value c.loop-depth.invariant

pub place_steps-requires-clause-order : goal.place_steps-requires-clause-order
place_steps-requires-clause-order c = order_sorted _ _ c.sort_unstable.ensures.sorted c.deref.ensures.value

pub returns : goal.returns
returns c =
    let end : c.loop-depth.depth ≡ c.longest-depth-end.result = omega arith in
    level_last c.args.conditions.now c.loop-depth.depth _ _ _ (λ op lt. let short = c.longest-depth-end.ensures op lt in omega arith) c.loop-depth.invariant
