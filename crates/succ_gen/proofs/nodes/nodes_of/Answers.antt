use Rattle.std.proofs.Common.{refl}
use Rattle.succ_gen.proofs.NodeLayout.{nodes_more}
use Rattle.succ_gen.proofs.nodes.nodes_of.Goals as goal

pub loop-number-preserved : goal.loop-number-preserved
loop-number-preserved c =
    nodes_more c.args.branches.now c.args.homes.now c.loop-number.number c.loop-number.child c.loop-number.home c.loop-number.group c.skip_branches-child.result c.skip_homes-home.result c.group_end-group.result c.loop-number.nodes.items c.push.new.self.items _
    c.loop-number.invariant c.skip_branches-child.ensures c.skip_homes-home.ensures c.group_end-group.ensures.run c.group_end-group.ensures.onwards c.fact_to.ensures refl refl refl c.in_ok-push.ensures.items
