use Rattle.std.proofs.Common.{◌<◌, length, refl, arith}
use Rattle.h_add.proofs.ReachedSums.{one_met, counted_more}
use Rattle.h_add.proofs.settling.Settling.walk.Goals as goal

pub loop-place-preserved : goal.loop-place-preserved
loop-place-preserved c =
    let lt : c.loop-place.place-index < length c.args.places.now = omega arith in
    record {
      way = one_met _ _ c.args.places.now _ _ c.loop-place.place-index _ lt refl c.meet.ensures.way c.loop-place.invariant.way;
      counted = counted_more _ _ _ c.loop-place.invariant.counted c.meet.ensures.counted;
    }
