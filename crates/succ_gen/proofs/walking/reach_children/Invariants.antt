use Rattle.std.proofs.Common.{◌≡◌, ◌≤◌, ◌-◌, ◌++◌, vec_len, vec_capacity}
use Rattle.succ_gen.specs.Trees.{node_at}
use Rattle.succ_gen.specs.Walks.{opened}
use Rattle.succ_gen.proofs.walking.reach_children.Given as goal

abbrev pub invariant-loop-group : goal.invariant-loop-group
invariant-loop-group l = record {
  reached : l.reached.items ≡ l.initial.reached.items ++ opened l.nodes l.state (node_at l.nodes l.node).children l.group;
  low : (node_at l.nodes l.node).children ≤ l.group;
  high : l.group ≤ l.end;
  few : vec_len l.reached ≤ l.group;
  room : vec_capacity l.reached ≡ vec_capacity l.initial.reached;
}

abbrev pub decreases-loop-group : goal.decreases-loop-group
decreases-loop-group l = l.end - l.group
