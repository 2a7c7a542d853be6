use Rattle.succ_gen.proofs.NodeLayout.{AreNodesTo}
use Rattle.succ_gen.proofs.nodes.nodes_of.Given as goal

abbrev pub invariant-loop-number : goal.invariant-loop-number
invariant-loop-number l = AreNodesTo l.branches l.homes l.number l.child l.home l.group l.nodes.items
