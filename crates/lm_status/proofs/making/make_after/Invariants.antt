use Rattle.lm_status.proofs.Afters.{AfterBelow}
use Rattle.lm_status.proofs.making.make_after.Given as goal

abbrev pub invariant-loop-node : goal.invariant-loop-node
invariant-loop-node l = AfterBelow l.graph l.after l.node
