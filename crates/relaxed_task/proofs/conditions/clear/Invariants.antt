use Rattle.std.proofs.Common.{◌≡◌, ℕ, length, drop, true}
use Rattle.relaxed_task.specs.Numbers.{is_among}
use Rattle.relaxed_task.specs.Making.{is_marked}
use Rattle.relaxed_task.proofs.conditions.clear.Given as goal

abbrev pub invariant-loop-fact : goal.invariant-loop-fact
invariant-loop-fact l = ((fact : ℕ) → is_marked l.marks fact ≡ true → is_among (drop l.fact-index l.facts) fact ≡ true) × (length l.marks ≡ length l.initial.marks)
