use Rattle.std.proofs.Common.{◌≡◌, drop}
use Rattle.lm_backchain.specs.Backchain.{is_open as open_test}
use Rattle.lm_backchain.proofs.facts.is_open.Given as goal

abbrev pub invariant-loop-fact : goal.invariant-loop-fact
invariant-loop-fact l = open_test l.task (drop l.fact-index l.facts) ≡ open_test l.task l.facts
