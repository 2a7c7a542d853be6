use Rattle.std.proofs.Common.{◌≡◌, ◌<◌, ℕ, List, refl, sym, ap, subst, ◌∙◌, length, slice_get, slice_index, slice_set, arith, inl, inr}
use Rattle.std.proofs.lemmas.Bool.{cases_eq}
use Rattle.std.proofs.lemmas.List.{get_or-set_same, get_or-set_other}
use Rattle.std.proofs.lemmas.Option.{slice_get_read}
use Rattle.packed_state.specs.Packing.{Places, IsLaid, value_in}
use Rattle.packed_state.proofs.FieldReads.{reads, same_list}
use Rattle.packed_state.proofs.layout.Layout.unpack.Goals as goal

pub loop-i-preserved : goal.loop-i-preserved
loop-i-preserved c =
    let layout = c.args.self.now in
    let fields = c.self.inside.fields.items in
    let field = c.index.result.now in
    let i = c.loop-i.i in
    let same = ap (λ (p : Places). length p.fields) c.self.view_is in
    let within : c.loop-i.i < length c.self.inside.fields.items = omega arith in
    let within_out : c.loop-i.i < length c.loop-i.out = omega (arith, same) in
    let at = ap (λ (p : Places). slice_get p.fields i) (sym c.self.view_is) ∙ slice_get_read fields (length fields) i field refl within c.index.ensures in
    let laid = subst (λ (p : Places). IsLaid p.words p.fields) c.self.view_is c.self.invariant in
    λ state can is var lt. elim (cases_eq var i) [
      | inl here ↦
          ap (λ k. slice_index (slice_set c.loop-i.out i c.read_field.result) k) here
          ∙ get_or-set_same c.loop-i.out i c.read_field.result 0 within_out
          ∙ c.read_field.ensures
          ∙ ap (λ (words : List ℕ). value_in words field) is
          ∙ reads layout state i field laid can at
          ∙ ap (λ k. slice_index state k) (sym here)
      | inr apart ↦ get_or-set_other c.loop-i.out i var c.read_field.result 0 apart ∙ c.loop-i.invariant state can is var (omega arith)
    ]

pub returns : goal.returns
returns c =
    let same = ap (λ (p : Places). length p.fields) c.self.view_is in
    λ state can is.
    let long : length c.loop-i.out ≡ length state = omega (arith, can.long) in
    same_list c.loop-i.out state long (λ k lt. c.loop-i.invariant state can is k (omega (arith, can.long, same)))
