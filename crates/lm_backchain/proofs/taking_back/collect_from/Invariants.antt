use Rattle.std.proofs.Common.{take}
use Rattle.lm_backchain.specs.Asked.{IsOf, Collects}
use Rattle.lm_backchain.proofs.taking_back.collect_from.Given as goal

abbrev pub invariant-loop-fact : goal.invariant-loop-fact
invariant-loop-fact l = Collects l.initial.set.items l.set.items (IsOf l.task l.predicate (take l.fact-index l.conds))
