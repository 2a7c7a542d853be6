use Rattle.std.proofs.Common.{refl, ◌<◌, length, arith}
use Rattle.succ_gen.proofs.Levels.{places_more, places_all}
use Rattle.succ_gen.proofs.growing.place_all.Goals as goal

pub loop-operator-preserved : goal.loop-operator-preserved
loop-operator-preserved c =
    let lt : c.loop-operator.operator < length c.args.conditions.now = omega arith in
    places_more c.args.conditions.now c.loop-operator.operator 0 c.loop-operator.operator _ _ _ _ c.loop-operator.invariant lt refl refl c.in_ok-place.ensures

pub returns : goal.returns
returns c = places_all c.args.conditions.now c.loop-operator.operator _ _ (omega arith) c.loop-operator.invariant
