use Rattle.std.proofs.Common.{◌≡◌, ◌≤◌, length, take, vec_len, vec_capacity}
use Rattle.std.specs.List.{filter}
use Rattle.state_step.specs.Steps.{is_applicable}
use Rattle.h_ff.proofs.operators.prefer.Given as goal

abbrev pub invariant-loop-op : goal.invariant-loop-op
invariant-loop-op l = record {
  preferred : l.preferred.items ≡ filter (is_applicable l.task l.state) (take l.op-index l.ops);
  len : vec_len l.preferred ≤ l.op-index;
  room : length l.ops ≤ vec_capacity l.preferred;
  capacity : vec_capacity l.fn.preferred ≤ vec_capacity l.preferred;
}
