use Rattle.std.proofs.Common.{◌-◌}
use Rattle.succ_gen.proofs.TreeWalk.{IsSearched}
use Rattle.succ_gen.proofs.walking.search.Given as goal

abbrev pub invariant-loop-start : goal.invariant-loop-start
invariant-loop-start l = IsSearched l.nodes l.from l.to l.value l.start l.end

abbrev pub decreases-loop-start : goal.decreases-loop-start
decreases-loop-start l = l.end - l.start
