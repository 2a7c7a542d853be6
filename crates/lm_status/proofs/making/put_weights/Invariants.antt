use Rattle.std.proofs.Common.{◌≡◌, length, map, take}
use Rattle.lm_status.specs.Estimates.{weight_of}
use Rattle.lm_status.proofs.making.put_weights.Given as goal

abbrev pub invariant-loop-node : goal.invariant-loop-node
invariant-loop-node l = record {
  long : length l.weights ≡ length l.nodes;
  written : take l.node l.weights ≡ map (weight_of l.task l.kind) (take l.node l.nodes);
}
