use Rattle.std.specs.Prelude.{◌≡◌, ◌++◌, take, drop, map}
use Rattle.sas_task.specs.Order.{in_order}
use Rattle.sas_task.proofs.order.put_slice_in_order.Given as goal

abbrev pub invariant-loop-operator : goal.invariant-loop-operator
invariant-loop-operator l = l.operators ≡ map in_order (take l.operator-index l.initial.operators) ++ drop l.operator-index l.initial.operators
