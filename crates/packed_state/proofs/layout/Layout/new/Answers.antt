use Rattle.std.proofs.Common.{◌≡◌, ◌≤◌, ◌+◌, ◌^◌, ◌∙◌, sym, ap, refl, arith, length, slice_get, Some, List}
use Rattle.std.proofs.lemmas.Option.{slice_get_read}
use Rattle.sas_task.specs.declared.contents.Parts.{Parts}
use Rattle.sas_task.specs.declared.contents.Variable.{Variable}
use Rattle.packed_state.specs.declared.fields.Field.{Field}
use Rattle.packed_state.proofs.FieldLayout.{laid_more, laid_in, room_more}
use Rattle.packed_state.proofs.FieldReads.{layout_for}
use Rattle.packed_state.proofs.layout.Layout.new.Goals as goal

pub loop-variable-preserved : goal.loop-variable-preserved
loop-variable-preserved c =
    let place = c.place_for-place.result in
    let fields = c.loop-variable.fields.items in
    let invariant = c.loop-variable.invariant in
    let field : Field = record { word = c.place_for-place.result.word; shift = c.place_for-place.result.used; bits = c.bits_for-bits.result } in
    let pushed = c.in_ok-push.ensures.items in
    let all : c.deref-variable-items.result.now ≡ c.args.task.now.variables = c.deref-variable-items.ensures ∙ ap (λ (p : Parts). p.variables) c.parts.ensures.parts in
    let read = slice_get_read c.deref-variable-items.result.now (length c.deref-variable-items.result.now) c.loop-variable.variable-index c.variable-item.result refl c.loop-variable-test.true c.variable-item.is in
    let at : slice_get c.args.task.now.variables c.loop-variable.variable-index ≡ Some c.variable-item.result =
    ap (λ (vs : List Variable). slice_get vs c.loop-variable.variable-index) (sym all) ∙ read in
    let enough : length c.variable-item.result.values ≤ 2 ^ c.bits_for-bits.result = rw c.len.ensures at c.bits_for-bits.ensures.enough in
    record {
      long = omega (arith, c.in_ok-push.ensures.len, invariant.long);
      laid = rw pushed (laid_more fields c.loop-variable.next.word c.loop-variable.next.used field invariant.laid c.place_for-place.ensures.low c.place_for-place.ensures.same c.place_for-place.ensures.inside c.place_for-place.ensures.fits c.bits_for-bits.ensures.few);
      used = c.place_for-place.ensures.fits;
      word = omega (arith, c.place_for-place.ensures.high, invariant.word);
      room = rw pushed (room_more c.args.task.now.variables fields field c.variable-item.result c.loop-variable.variable-index invariant.long at enough invariant.room);
    }

pub returns : goal.returns
returns c =
    let laid = laid_in c.loop-variable.fields.items c.loop-variable.next.word c.loop-variable.next.used (c.loop-variable.next.word + 1) c.loop-variable.invariant.laid (omega arith) in
    let all : c.deref-variable-items.result.now ≡ c.args.task.now.variables = c.deref-variable-items.ensures ∙ ap (λ (p : Parts). p.variables) c.parts.ensures.parts in
    let as_many = ap (λ (vs : List Variable). length vs) all in
    layout_for c.args.task.now _ laid (omega (arith, c.loop-variable.invariant.long, as_many, c.loop-variable-test.false, c.loop-variable.auto.variable-index-end)) c.loop-variable.invariant.room
