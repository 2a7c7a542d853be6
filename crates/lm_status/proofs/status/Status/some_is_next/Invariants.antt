use Rattle.std.proofs.Common.{◌≡◌, take, false}
use Rattle.std.specs.List.{list_any}
use Rattle.lm_status.specs.Preferred.{is_next}
use Rattle.bit_rows.specs.Rows.{has}
use Rattle.lm_status.proofs.status.Status.some_is_next.Given as goal

abbrev pub invariant-loop-node : goal.invariant-loop-node
invariant-loop-node l = list_any (is_next l.self.graph (has l.row)) (take l.node-index l.nodes) ≡ false
