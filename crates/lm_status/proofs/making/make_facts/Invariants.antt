use Rattle.std.proofs.Common.{◌≡◌, take}
use Rattle.lm_graph.specs.Nodes.{sets_of}
use Rattle.lm_status.proofs.making.make_facts.Given as goal

abbrev pub invariant-loop-node : goal.invariant-loop-node
invariant-loop-node l = l.facts ≡ sets_of (take l.node-index l.nodes)
