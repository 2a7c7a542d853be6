use Rattle.std.proofs.Common.{slice_index, ◌/◌, ◌^◌}
use Rattle.packed_state.proofs.Bits.{mask_is}
use Rattle.packed_state.proofs.fields.read_field.Goals as goal

pub returns : goal.returns
returns c = mask_is (slice_index c.args.words.now c.args.field.word / 2 ^ c.args.field.shift) c.args.field.bits c.requires.short
