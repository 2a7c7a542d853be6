use Rattle.succ_gen.specs.Growing.{node_of}
use Rattle.succ_gen.specs.Nodes.{IsBelow}
use Rattle.succ_gen.proofs.nodes.skip_homes.Given as goal

abbrev pub invariant-loop-place : goal.invariant-loop-place
invariant-loop-place l = IsBelow node_of l.homes l.number l.place
