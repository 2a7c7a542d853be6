use Rattle.std.proofs.Common.{◌≡◌, ◌++◌, ◌∷◌, []}
use Rattle.std.specs.Prelude.{flat_map}
use Rattle.std.specs.List.{range_with_len}
use Rattle.task_gen.specs.Delivery.{load, unload}
use Rattle.task_gen.proofs.delivery.push_loads.Given as goal

abbrev pub invariant-loop-place : goal.invariant-loop-place
invariant-loop-place l = l.operators.items ≡ l.fn.operators.items ++ flat_map (λ i. load l.n l.number i ∷ unload l.n l.number i ∷ []) (range_with_len 0 l.place)
