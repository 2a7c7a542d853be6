use Rattle.std.proofs.Common.{◌≡◌, ◌∷◌, map}
use Rattle.task_gen.specs.Delivery.{starts_at}
use Rattle.task_gen.proofs.Ranges.{numbers_below}
use Rattle.task_gen.proofs.delivery.init.Given as goal

abbrev pub invariant-loop-number : goal.invariant-loop-number
invariant-loop-number l = l.init.items ≡ 0 ∷ map (starts_at l.n) (numbers_below l.number)
