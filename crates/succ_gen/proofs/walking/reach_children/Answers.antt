use Rattle.std.proofs.Common.{◌∙◌, ◌+◌, arith}
use Rattle.succ_gen.specs.Trees.{IsChild}
use Rattle.succ_gen.proofs.TreeWalk.{reached_more}
use Rattle.succ_gen.proofs.walking.reach_children.Goals as goal

pub loop-group-preserved : goal.loop-group-preserved
loop-group-preserved c =
    let nodes = c.args.nodes.now in
    let invariant = c.loop-group.invariant in
    let child : IsChild nodes c.args.node c.loop-group.group = record { inside = c.requires.node; from = invariant.low; to = c.loop-group-test.true } in
    let end = c.requires.tree.within c.args.node c.loop-group.group child in
    let first = c.requires.tree.first c.args.node (omega arith) in
    let last = c.requires.tree.few (c.args.node + 1) c.requires.node in
    let on = c.requires.tree.onwards c.loop-group.group (omega arith) (omega arith) in
    let result = c.reach_group-group.ensures.end in
    record {
      reached = reached_more nodes c.args.state.now _ c.loop-group.group _ _ _ _ invariant.low (omega arith) invariant.reached c.reach_group-group.ensures.reached;
      low = omega arith;
      high = omega arith;
      few = omega arith;
      room = c.reach_group-group.ensures.room ∙ invariant.room;
    }
