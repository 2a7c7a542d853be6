use Rattle.std.proofs.Common.{◌≡◌, ◌∙◌, ◌<◌, ◌+◌, ◌-◌, sym, ap, refl, arith, length}
use Rattle.std.proofs.Math.ListN.{length-set}
use Rattle.std.proofs.lemmas.Option.{slice_get_within, slice_get_read}
use Rattle.sas_task.specs.declared.contents.Operator.{Operator}
use Rattle.plan_check.specs.Names.{next_of}
use Rattle.plan_check.proofs.NamedOperators.{first_none, next_more, first_more}
use Rattle.plan_check.proofs.names.ByName.new.Goals as goal

pub loop-op-init : goal.loop-op-init
loop-op-init c =
    let operators = c.args.operators.now in
    record {
      first = λ name. first_none c.new-first.result operators name c.new-first.ensures.empty;
      next = λ k o le at. let lt : k < length c.args.operators.now = slice_get_within operators k o at in absurd (omega arith);
      long = omega (arith, c.in_ok-next.ensures.len, c.in_ok-next.next.ok.0);
    }

pub loop-op-preserved : goal.loop-op-preserved
loop-op-preserved c =
    let operators = c.args.operators.now in
    let i = c.loop-op.op in
    let op = c.loop-op.op - 1 in
    let before : c.loop-op.op ≡ (c.loop-op.op - 1) + 1 = omega arith in
    let named : c.as_slice.result.now ≡ c.index-operators-op.result.name = c.as_slice.ensures ∙ ap (λ (o : Operator). o.name) (sym c.index-operators-op.is) in
    let old : c.in_ok-next-2.field-0 ≡ next_of c.index-operators-op.result.name c.loop-op.op c.args.operators.now =
    c.in_ok-next-2.ensures.old ∙ c.loop-op.invariant.first c.as_slice.result.now ∙ ap (λ name. next_of name c.loop-op.op c.args.operators.now) named in
    let at = slice_get_read operators (length operators) op c.index-operators-op.result refl (omega arith) c.index-operators-op.is in
    record {
      first = first_more operators i op c.index-operators-op.result before at c.as_slice.result c.loop-op.first c.insert.new.self named c.in_ok-next-2.ensures.updates c.loop-op.invariant.first;
      next = next_more operators i op c.index-operators-op.result before at c.loop-op.next.items c.in_ok-next-2.field-0 c.loop-op.invariant.long old c.loop-op.invariant.next;
      long = simp length-set c.loop-op.invariant.long;
    }
