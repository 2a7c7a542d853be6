use Rattle.std.proofs.Common.{◌≡◌, ℕ, ◌<◌, ◌≤◌, None, slice_index_or}
use Rattle.cost_queue.proofs.chains.first_low.Given as goal

abbrev pub invariant-loop-price : goal.invariant-loop-price
invariant-loop-price l = (price : ℕ) → l.start ≤ price → price < l.price → slice_index_or l.heads price None ≡ None
