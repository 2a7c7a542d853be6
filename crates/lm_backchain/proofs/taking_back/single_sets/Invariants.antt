use Rattle.std.proofs.Common.{◌≡◌, take}
use Rattle.lm_backchain.specs.Backchain.{singles}
use Rattle.lm_backchain.proofs.taking_back.single_sets.Given as goal

abbrev pub invariant-loop-fact : goal.invariant-loop-fact
invariant-loop-fact l = l.sets.items ≡ singles (take l.fact-index l.facts)
