use Rattle.std.proofs.Common.{◌≡◌, ◌∙◌, ◌<◌, ap, sym, refl, length, slice_get, Some, arith}
use Rattle.std.proofs.lemmas.Option.{get_or_from_slice_get}
use Rattle.axiom_eval.proofs.DefaultValues.{derived_none, derived_more, derived_same, derived_all}
use Rattle.axiom_eval.proofs.RuleTables.{read_at}
use Rattle.axiom_eval.proofs.building.derived_of.Goals as goal
use Rattle.axiom_eval.proofs.building.derived_of.Goals.{then-is_some+in_ok-push, else-is_some}

pub loop-i-init : goal.loop-i-init
loop-i-init c = rw c.new-derived.ensures.items (derived_none c.args.parts.now)

pub loop-i-preserved : goal.loop-i-preserved
loop-i-preserved c =
    let lt : c.loop-i.i < length c.args.parts.now.variables = omega (arith, ap length c.deref-variable-items.ensures) in
    let at : slice_get c.args.parts.now.variables c.loop-i.i ≡ Some c.variable-item.result = read_at _ _ c.loop-i.i c.variable-item.result c.deref-variable-items.ensures c.loop-i-test.true c.variable-item.is in
    elim c.if-is_some.branch [
      | then-is_some+in_ok-push w ↦ derived_more c.args.parts.now c.loop-i.i c.variable-item.result c.loop-i.derived.items _ _ at (sym c.is_some.ensures ∙ w.if-is_some.true) lt c.loop-i.invariant (ap (λ v. v.items) w.derived-is ∙ w.in_ok-push.ensures.items) refl (sym (get_or_from_slice_get c.args.parts.now.init c.loop-i.i w.index.result.now 0 w.index.ensures))
      | else-is_some w ↦ rw w.derived-is (derived_same c.args.parts.now c.loop-i.i c.variable-item.result c.loop-i.derived.items at (sym c.is_some.ensures ∙ w.if-is_some.false) c.loop-i.invariant)
    ]

pub returns : goal.returns
returns c = derived_all c.args.parts.now c.loop-i.i c.loop-i.derived.items (omega (arith, ap length c.deref-variable-items.ensures)) c.loop-i.invariant
