use Rattle.std.proofs.Common.{◌≡◌, take, map}
use Rattle.lm_status.specs.Accepted.{nodes_in}
use Rattle.lm_status.proofs.making.make_before.Given as goal

abbrev pub invariant-loop-node : goal.invariant-loop-node
invariant-loop-node l = l.before ≡ map nodes_in (take l.node l.graph.rows)
