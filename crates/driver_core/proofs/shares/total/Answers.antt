use Rattle.std.proofs.Common.{arith}
use Rattle.driver_core.proofs.Times.{marked_more, marked_less}
use Rattle.driver_core.proofs.shares.total.Goals as goal
use Rattle.driver_core.proofs.shares.total.Goals.{then-marks-place, else-marks-place}

pub loop-place-preserved : goal.loop-place-preserved
loop-place-preserved c =
    let loop = c.loop-place in
    elim c.if-marks-place.branch [
      | then-marks-place w ↦ record {
        so_far = marked_more c.args.shares.now c.args.marks.now loop.place loop.total _ _ c.loop-place-test.true c.requires.same w.if-marks-place.true (omega (arith, w.total-is, w.from-total.ensures)) loop.invariant.so_far;
        small = omega (arith, w.total-is, w.from-total.ensures, loop.invariant.small, c.type_inv.shares loop.place);
      }
      | else-marks-place w ↦ record {
        so_far = marked_less c.args.shares.now c.args.marks.now loop.place loop.total _ _ c.loop-place-test.true c.requires.same w.if-marks-place.false w.total-is loop.invariant.so_far;
        small = omega (arith, w.total-is, loop.invariant.small);
      }
    ]
