use Rattle.std.proofs.Common.{◌≡◌, ◌∷◌, map}
use Rattle.task_gen.specs.Delivery.{truck_of, package_of}
use Rattle.task_gen.proofs.Ranges.{numbers_below}
use Rattle.task_gen.proofs.delivery.variables.Given as goal

abbrev pub invariant-loop-number : goal.invariant-loop-number
invariant-loop-number l = l.variables.items ≡ truck_of l.n ∷ map (package_of l.n) (numbers_below l.number)
