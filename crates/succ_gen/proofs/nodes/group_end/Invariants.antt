use Rattle.succ_gen.proofs.NodeLayout.{AreSiblings}
use Rattle.succ_gen.proofs.nodes.group_end.Given as goal

abbrev pub invariant-loop-next : goal.invariant-loop-next
invariant-loop-next l = AreSiblings l.branches l.number l.next l.first
