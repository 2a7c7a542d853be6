use Rattle.std.proofs.Common.{◌≡◌, ◌++◌}
use Rattle.std.specs.Prelude.{flat_map}
use Rattle.task_gen.specs.Delivery.{moves, loads_of}
use Rattle.task_gen.proofs.Ranges.{numbers_below}
use Rattle.task_gen.proofs.delivery.operators.Given as goal

abbrev pub invariant-loop-number : goal.invariant-loop-number
invariant-loop-number l = l.operators.items ≡ moves l.n ++ flat_map (loads_of l.n) (numbers_below l.number)
