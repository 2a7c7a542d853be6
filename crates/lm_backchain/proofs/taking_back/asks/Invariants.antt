use Rattle.std.proofs.Common.{take}
use Rattle.sas_task.specs.declared.contents.Fact.{Fact}
use Rattle.lm_backchain.specs.Asked.{IsOf}
use Rattle.lm_backchain.proofs.taking_back.asks.Given as goal

abbrev pub invariant-loop-fact : goal.invariant-loop-fact
invariant-loop-fact l = (fact : Fact) → IsOf l.task l.predicate (take l.fact-index l.conds) fact → ⊥
