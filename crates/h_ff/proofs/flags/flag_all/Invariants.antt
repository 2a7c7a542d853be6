use Rattle.std.proofs.Common.{◌≡◌, ◌||◌, ℕ, take}
use Rattle.relaxed_task.specs.Numbers.{is_among}
use Rattle.h_ff.specs.Orders.{is_given}
use Rattle.h_ff.proofs.flags.flag_all.Given as goal

abbrev pub invariant-loop-fact : goal.invariant-loop-fact
invariant-loop-fact l = (fact : ℕ) → is_given l.flags fact ≡ (is_among (take l.fact-index l.facts) fact || is_given l.fn.flags fact)
