use Rattle.std.proofs.Common.{take}
use Rattle.lm_backchain.specs.Asked.{AllAsk}
use Rattle.lm_backchain.proofs.taking_back.all_ask.Given as goal

abbrev pub invariant-loop-conds : goal.invariant-loop-conds
invariant-loop-conds l = AllAsk l.task l.predicate (take l.conds-index l.lists)
