use Rattle.std.proofs.Common.{[], take}
use Rattle.lm_backchain.specs.Asked.{IsAsked, Collects}
use Rattle.lm_backchain.proofs.taking_back.collect.Given as goal

abbrev pub invariant-loop-conds : goal.invariant-loop-conds
invariant-loop-conds l = Collects [] l.set.items (IsAsked l.task l.predicate (take l.conds-index l.lists))
