use Rattle.std.proofs.Common.{ℕ, take}
use Rattle.lm_backchain.specs.Firsts.{HasFirsts}
use Rattle.lm_backchain.proofs.firsts.firsts_of.Given as goal

abbrev pub invariant-loop-op : goal.invariant-loop-op
invariant-loop-op l = (next : ℕ) → HasFirsts l.task l.node (take l.op-index l.ops) next 0 l.firsts.items
