use Rattle.std.proofs.Common.{◌≡◌, take, map}
use Rattle.lm_orders.specs.Interference.{always_given}
use Rattle.lm_orders.proofs.givers.always_rows.Given as goal

abbrev pub invariant-loop-operator : goal.invariant-loop-operator
invariant-loop-operator l = l.rows ≡ map always_given (take l.operator-index l.operators)
