use Rattle.std.proofs.Common.{take}
use Rattle.lm_orders.specs.Givers.{Indexes}
use Rattle.lm_orders.proofs.givers.index.Given as goal

abbrev pub invariant-loop-number : goal.invariant-loop-number
invariant-loop-number l = Indexes (take l.number l.rows) l.table
