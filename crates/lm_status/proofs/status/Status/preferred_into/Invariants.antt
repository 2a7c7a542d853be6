use Rattle.std.proofs.Common.{◌≡◌, take, ◌≤◌, vec_len, vec_capacity}
use Rattle.lm_status.specs.Preferred.{landmark_preferred}
use Rattle.bit_rows.specs.Rows.{has}
use Rattle.lm_status.proofs.status.Status.preferred_into.Given as goal

abbrev pub invariant-loop-op : goal.invariant-loop-op
invariant-loop-op l = (l.out.items ≡ landmark_preferred l.task l.self.graph (has l.row) l.state (take l.op-index l.applicable)) × (vec_len l.out ≤ l.op-index) × (vec_capacity l.fn.out ≤ vec_capacity l.out)
