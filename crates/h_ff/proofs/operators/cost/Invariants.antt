use Rattle.std.proofs.Common.{◌≡◌, take}
use Rattle.h_ff.specs.RelaxedPlans.{cost_of}
use Rattle.h_ff.proofs.operators.cost.Given as goal

abbrev pub invariant-loop-op : goal.invariant-loop-op
invariant-loop-op l = l.sum ≡ cost_of l.task l.kind (take l.op-index l.ops)
