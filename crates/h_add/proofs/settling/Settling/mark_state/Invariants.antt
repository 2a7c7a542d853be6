use Rattle.std.proofs.Common.{take}
use Rattle.relaxed_task.specs.Numbers.{numbers_by}
use Rattle.h_add.specs.UnderWay.{HasMarked}
use Rattle.h_add.proofs.settling.Settling.mark_state.Given as goal

abbrev pub invariant-loop-var : goal.invariant-loop-var
invariant-loop-var l = HasMarked l.network.unaries (take l.var (numbers_by l.network.offsets l.state)) l.fn.self l.self
