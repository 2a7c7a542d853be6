use Rattle.std.proofs.Common.{◌<◌, arith, refl, ap, sym, subst, ◌∙◌, length, List, ℕ, slice_get}
use Rattle.std.proofs.lemmas.Option.{slice_get_read}
use Rattle.packed_state.specs.Packing.{Places, IsLaid, value_in}
use Rattle.packed_state.proofs.FieldReads.{reads}
use Rattle.packed_state.proofs.layout.Layout.get.Goals as goal

pub returns : goal.returns
returns c =
    let layout = c.args.self.now in
    let fields = c.self.inside.fields.items in
    let field = c.index.result.now in
    let same = ap (λ (p : Places). length p.fields) c.self.view_is in
    let within : c.args.var < length c.self.inside.fields.items = omega (arith, c.requires.var, same) in
    let at = ap (λ (p : Places). slice_get p.fields c.args.var) (sym c.self.view_is) ∙ slice_get_read fields (length fields) c.args.var field refl within c.index.ensures in
    let laid = subst (λ (p : Places). IsLaid p.words p.fields) c.self.view_is c.self.invariant in
    λ state can is. c.read_field.ensures ∙ ap (λ (words : List ℕ). value_in words field) is ∙ reads layout state c.args.var field laid can at
