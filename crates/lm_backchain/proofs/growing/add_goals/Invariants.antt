use Rattle.std.proofs.Common.{take}
use Rattle.lm_backchain.specs.Growth.{HasGoals}
use Rattle.lm_backchain.proofs.growing.add_goals.Given as goal

abbrev pub invariant-loop-fact : goal.invariant-loop-fact
invariant-loop-fact l = HasGoals l.task (take l.fact-index l.task.goal) l.graph
