use Rattle.std.proofs.Common.{◌≡◌, map}
use Rattle.std.specs.List.{range_with_len}
use Rattle.task_gen.specs.Delivery.{truck_at}
use Rattle.task_gen.proofs.delivery.truck_values.Given as goal

abbrev pub invariant-loop-place : goal.invariant-loop-place
invariant-loop-place l = l.values.items ≡ map truck_at (range_with_len 0 l.place)
