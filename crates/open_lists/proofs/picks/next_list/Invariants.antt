use Rattle.std.proofs.Common.{slice_get}
use Rattle.open_lists.specs.Lists.{IsBestBefore, least_count_in, counter_in}
use Rattle.open_lists.proofs.picks.next_list.Given as goal

abbrev pub invariant-loop-i : goal.invariant-loop-i
invariant-loop-i l = IsBestBefore (λ m. least_count_in (slice_get l.lists m)) (λ m. counter_in (slice_get l.lists m)) l.i l.best
