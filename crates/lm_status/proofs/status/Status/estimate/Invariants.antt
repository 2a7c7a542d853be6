use Rattle.std.proofs.Common.{◌≡◌, min, slice_index, sum_by, filter}
use Rattle.std.specs.List.{range_with_len}
use Rattle.lm_status.specs.Estimates.{is_open}
use Rattle.bit_rows.specs.Rows.{has}
use Rattle.lm_status.proofs.status.Status.estimate.Given as goal

abbrev pub invariant-loop-node : goal.invariant-loop-node
invariant-loop-node l = l.sum ≡ min (sum_by (slice_index l.self.weights) (filter (is_open l.self.graph (has l.row) l.state) (range_with_len 0 l.node))) 1000000000
