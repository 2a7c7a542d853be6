use Rattle.std.proofs.Common.{arith}
use Rattle.open_lists.proofs.Best.{none_in_all}
use Rattle.open_lists.proofs.picks.next_list.Goals as goal

pub returns-clause-none : goal.returns-clause-none
returns-clause-none c = none_in_all c.args.lists.now c.loop-i.i c.loop-i.best (omega arith) c.loop-i.invariant
