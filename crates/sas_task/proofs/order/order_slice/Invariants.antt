use Rattle.std.specs.Prelude.{◌≡◌, ◌++◌, take, drop, map, flat_map}
use Rattle.sas_task.specs.Limits.{most_listed}
use Rattle.sas_task.specs.Order.{in_order}
use Rattle.sas_task.specs.Refusals.{above, conditions_of}
use Rattle.sas_task.proofs.order.order_slice.Given as goal

abbrev pub invariant-loop-operator : goal.invariant-loop-operator
invariant-loop-operator l = record {
  order : l.operators ≡ map in_order (take l.operator-index l.initial.operators) ++ drop l.operator-index l.initial.operators;
  count : above most_listed (flat_map conditions_of (drop l.operator-index l.initial.operators)) ≡ above most_listed (flat_map conditions_of l.initial.operators);
}
