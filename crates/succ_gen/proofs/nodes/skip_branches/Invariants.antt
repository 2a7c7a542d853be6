use Rattle.succ_gen.specs.Growing.{parent_of}
use Rattle.succ_gen.specs.Nodes.{IsBelow}
use Rattle.succ_gen.proofs.nodes.skip_branches.Given as goal

abbrev pub invariant-loop-place : goal.invariant-loop-place
invariant-loop-place l = IsBelow parent_of l.branches l.number l.place
