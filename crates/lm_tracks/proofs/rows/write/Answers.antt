use Rattle.std.proofs.Common.{◌+◌, ◌*◌, ◌-◌, length, arith}
use Rattle.lm_tracks.proofs.Places.{stored}
use Rattle.lm_tracks.proofs.rows.write.Goals as goal

pub returns : goal.returns
returns c =
    stored c.args.rows.now c.args.row.now c.copy_from_slice.new.self c.args.number
    (c.args.number * length c.args.row.now + length c.args.row.now - c.args.number * length c.args.row.now)
    c.requires.there (omega arith) c.copy_from_slice.ensures.after
