use Rattle.std.proofs.Common.{take}
use Rattle.lm_backchain.specs.Asked.{HasSets}
use Rattle.lm_backchain.proofs.taking_back.sets_of.Given as goal

abbrev pub invariant-loop-seed : goal.invariant-loop-seed
invariant-loop-seed l = HasSets l.task l.lists (take l.seed-index l.front) l.sets.items
