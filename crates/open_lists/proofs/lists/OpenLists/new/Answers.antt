use Rattle.std.proofs.Common.{refl, arith}
use Rattle.open_lists.proofs.Places.{empties_more}
use Rattle.open_lists.proofs.lists.OpenLists.new.Goals as goal

pub loop-flag-preserved : goal.loop-flag-preserved
loop-flag-preserved c =
    empties_more c.loop-flag.lists.items _ c.args.preferred_only.now c.loop-flag.flag-index _ c.loop-flag.invariant (omega arith) c.in_ok-push.ensures.items c.new.ensures.empty refl refl
