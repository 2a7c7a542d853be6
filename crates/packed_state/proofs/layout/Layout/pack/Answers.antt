use Rattle.std.proofs.Common.{refl, sym, ap, subst, ◌∙◌, arith, length, ◌+◌, ◌<◌, slice_get}
use Rattle.std.proofs.lemmas.Option.{slice_get_read}
use Rattle.packed_state.specs.Packing.{Places, IsLaid}
use Rattle.packed_state.proofs.FieldReads.{PackedTo, packed_more, free_now}
use Rattle.packed_state.proofs.layout.Layout.pack.Goals as goal

pub write_field-requires-clause-free : goal.write_field-requires-clause-free
write_field-requires-clause-free c =
    let layout = c.args.self.now in
    let fields = c.self.inside.fields.items in
    let i = c.loop-i.i in
    let within : c.loop-i.i < length c.self.inside.fields.items = omega arith in
    let at = ap (λ (p : Places). slice_get p.fields i) (sym c.self.view_is) ∙ slice_get_read fields (length fields) i c.index.result.now refl within c.index.ensures in
    free_now layout c.args.values.now c.loop-i.out i c.index.result.now at c.loop-i.invariant

pub loop-i-preserved : goal.loop-i-preserved
loop-i-preserved c =
    let layout = c.args.self.now in
    let fields = c.self.inside.fields.items in
    let i = c.loop-i.i in
    let within : c.loop-i.i < length c.self.inside.fields.items = omega arith in
    let at = ap (λ (p : Places). slice_get p.fields i) (sym c.self.view_is) ∙ slice_get_read fields (length fields) i c.index.result.now refl within c.index.ensures in
    let laid = subst (λ (p : Places). IsLaid p.words p.fields) c.self.view_is c.self.invariant in
    subst (λ words. PackedTo layout c.args.values.now (i + 1) words) (sym c.write_field.ensures)
    (packed_more layout c.args.values.now c.loop-i.out i c.index.result.now laid c.requires.state at c.loop-i.invariant)
