use Rattle.std.proofs.Common.{take}
use Rattle.h_add.specs.UnderWay.{HasMarked}
use Rattle.h_add.proofs.settling.Settling.mark_all.Given as goal

abbrev pub invariant-loop-fact : goal.invariant-loop-fact
invariant-loop-fact l = HasMarked l.network.unaries (take l.fact-index l.facts) l.fn.self l.self
