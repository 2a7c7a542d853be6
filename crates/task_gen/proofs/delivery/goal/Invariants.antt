use Rattle.std.proofs.Common.{◌≡◌, map}
use Rattle.task_gen.specs.Delivery.{ends_at, fact_of}
use Rattle.task_gen.proofs.Ranges.{numbers_below}
use Rattle.task_gen.proofs.delivery.goal.Given as goal

abbrev pub invariant-loop-number : goal.invariant-loop-number
invariant-loop-number l = l.goal.items ≡ map (λ k. fact_of k (ends_at l.n k)) (numbers_below l.number)
