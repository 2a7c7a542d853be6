use Rattle.std.proofs.Common.{ap, slice_index, slice_set, ◌+◌, ◌%◌, ◌*◌, ◌^◌, ◌∙◌, arith}
use Rattle.packed_state.proofs.Bits.{no_wrap, put_no_wrap}
use Rattle.packed_state.proofs.fields.write_field.Goals as goal

pub overflow_add-word : goal.overflow_add-word
overflow_add-word c =
    let fits = put_no_wrap (slice_index c.args.words.now c.args.field.word) c.args.value c.args.field.shift c.args.field.bits c.requires.free c.requires.small c.requires.fits in
    rw c.from.ensures (omega (arith, fits))

pub returns : goal.returns
returns c =
    ap (λ v. slice_set c.args.words.now c.args.field.word (slice_index c.args.words.now c.args.field.word + v * 2 ^ c.args.field.shift % 2 ^ 64)) c.from.ensures
    ∙ ap (λ z. slice_set c.args.words.now c.args.field.word (slice_index c.args.words.now c.args.field.word + z)) (no_wrap c.args.value c.args.field.shift c.args.field.bits c.requires.small c.requires.fits)
