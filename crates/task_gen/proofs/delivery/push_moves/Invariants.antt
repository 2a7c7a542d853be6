use Rattle.std.proofs.Common.{◌≡◌, ◌+◌, ◌++◌, ◌∷◌, []}
use Rattle.std.specs.Prelude.{flat_map}
use Rattle.std.specs.List.{range_with_len}
use Rattle.task_gen.specs.Delivery.{move_to}
use Rattle.task_gen.proofs.delivery.push_moves.Given as goal

abbrev pub invariant-loop-place : goal.invariant-loop-place
invariant-loop-place l = l.operators.items ≡ l.fn.operators.items ++ flat_map (λ i. move_to i (i + 1) ∷ move_to (i + 1) i ∷ []) (range_with_len 0 l.place)
