use Rattle.std.proofs.Common.{length}
use Rattle.plan_check.proofs.NamedOperators.{LeadsOn, left_of}
use Rattle.plan_check.proofs.candidates.candidates_into.Given as goal

abbrev pub invariant-loop-at : goal.invariant-loop-at
invariant-loop-at l = LeadsOn l.task l.state l.name l.out.items l.at

abbrev pub decreases-loop-at : goal.decreases-loop-at
decreases-loop-at l = left_of (length l.task.operators) l.at
