use Rattle.std.proofs.Common.{◌≡◌, take, map}
use Rattle.state_step.proofs.tables.preconditions_of.Given as goal

abbrev pub invariant-loop-operator : goal.invariant-loop-operator
invariant-loop-operator l = l.rows ≡ map (λ o. o.pre) (take l.operator-index l.operators)
