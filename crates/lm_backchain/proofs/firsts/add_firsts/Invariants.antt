use Rattle.std.proofs.Common.{ℕ, List}
use Rattle.lm_backchain.specs.Firsts.{HasFirsts}
use Rattle.lm_backchain.proofs.firsts.add_firsts.Given as goal

abbrev pub invariant-loop-place : goal.invariant-loop-place
invariant-loop-place l = (done : List ℕ) → HasFirsts l.task l.node done l.op 0 l.fn.firsts.items → HasFirsts l.task l.node done l.op l.place l.firsts.items
