use Rattle.std.proofs.Common.{◌≡◌, replicate, []}
use Rattle.h_add.proofs.network.no_lists.Given as goal

abbrev pub invariant-loop-fact : goal.invariant-loop-fact
invariant-loop-fact l = l.lists.items ≡ replicate l._fact []
