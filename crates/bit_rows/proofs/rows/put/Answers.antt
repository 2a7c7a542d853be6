use Rattle.bit_rows.proofs.Bits.{put_has}
use Rattle.bit_rows.proofs.rows.put.Goals as goal

pub returns : goal.returns
returns c = put_has c.args.row.now c.args.number c.requires
