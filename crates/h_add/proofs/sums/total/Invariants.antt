use Rattle.h_add.specs.Values.{value_at}
use Rattle.h_add.proofs.ReachedSums.{IsSumSoFar}
use Rattle.h_add.proofs.sums.total.Given as goal

abbrev pub invariant-loop-fact : goal.invariant-loop-fact
invariant-loop-fact l = IsSumSoFar (value_at l.costs) l.facts l.fact-index l.sum
