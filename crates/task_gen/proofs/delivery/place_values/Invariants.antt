use Rattle.std.proofs.Common.{◌≡◌, map}
use Rattle.std.specs.List.{range_with_len}
use Rattle.task_gen.specs.Delivery.{at_place}
use Rattle.task_gen.proofs.delivery.place_values.Given as goal

abbrev pub invariant-loop-place : goal.invariant-loop-place
invariant-loop-place l = l.values.items ≡ map (at_place l.number) (range_with_len 0 l.place)
