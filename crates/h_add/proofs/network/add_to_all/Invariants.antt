use Rattle.std.proofs.Common.{take}
use Rattle.h_add.specs.Networks.{Listed}
use Rattle.h_add.proofs.network.add_to_all.Given as goal

abbrev pub invariant-loop-fact : goal.invariant-loop-fact
invariant-loop-fact l = Listed l.fn.lists l.lists (take l.fact-index l.facts) l.place
