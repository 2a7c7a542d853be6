use Rattle.std.proofs.Common.{◌≤◌, sym, subst, ℕ, List, length, arith}
use Rattle.lm_backchain.specs.Firsts.{HasFirsts}
use Rattle.lm_backchain.proofs.FirstAchievers.{no_firsts, firsts_done}
use Rattle.lm_backchain.proofs.GivingOperators.{given_within}
use Rattle.lm_backchain.proofs.ListLaws.{read_at, take_more_at, take_whole}
use Rattle.lm_backchain.proofs.firsts.firsts_of.Goals as goal

pub loop-op-init : goal.loop-op-init
loop-op-init c next = rw c.new-firsts.ensures.items (no_firsts c.args.task.now c.args.node.now next)

pub add_firsts-requires-clause-op : goal.add_firsts-requires-clause-op
add_firsts-requires-clause-op c = given_within c.args.task.now c.args.node.now c.args.ops.now c.loop-op.op-index _ c.requires.ops (read_at c.args.ops.now c.loop-op.op-index 0 c.loop-op-test.true)

pub loop-op-preserved : goal.loop-op-preserved
loop-op-preserved c next =
    let at = read_at c.args.ops.now c.loop-op.op-index 0 c.loop-op-test.true in
    subst (λ (ops : List ℕ). HasFirsts c.args.task.now c.args.node.now ops next 0 c.add_firsts.new.firsts.items) (sym (take_more_at c.args.ops.now c.loop-op.op-index _ at))
    (c.in_ok-add_firsts.ensures _ (c.loop-op.invariant _) next)

pub returns : goal.returns
returns c =
    let all : length c.args.ops.now ≤ c.loop-op.op-index = omega arith in
    firsts_done c.args.task.now c.args.node.now c.args.ops.now c.loop-op.firsts.items c.requires.ops
    (subst (λ (ops : List ℕ). HasFirsts c.args.task.now c.args.node.now ops 0 0 c.loop-op.firsts.items) (take_whole c.args.ops.now c.loop-op.op-index all) (c.loop-op.invariant 0))
