use Rattle.std.proofs.Common.{◌≡◌, length}
use Rattle.lm_status.specs.Accepted.{opens}
use Rattle.bit_rows.specs.Rows.{has}
use Rattle.lm_status.specs.Rows.{words_of}
use Rattle.lm_status.proofs.Loops.{AddedBelow}
use Rattle.lm_status.proofs.status.Status.accept.Given as goal

abbrev pub invariant-loop-node : goal.invariant-loop-node
invariant-loop-node l = (length l.out ≡ words_of l.self.graph) × AddedBelow l.node l.out (has l.parent) (opens l.self.graph (has l.parent) l.state)
