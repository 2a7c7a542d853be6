use Rattle.std.proofs.Common.{◌∙◌, sym, ap, subst, Some}
use Rattle.std.proofs.lemmas.Option.{slice_get-get_or}
use Rattle.task_gen.specs.Printed.{operator_lines}
use Rattle.task_gen.specs.Waiting.{CanWait}
use Rattle.task_gen.proofs.Grown.{grown}
use Rattle.task_gen.proofs.printing.push_operators.Goals as goal

pub push_operator-requires-clause-fits : goal.push_operator-requires-clause-fits
push_operator-requires-clause-fits c =
    let o = c.operator-item.result in
    let at = slice_get-get_or c.args.operators.now c.loop-operator.operator-index o c.loop-operator-test.true ∙ ap (λ x. Some x) (sym c.operator-item.is) in
    subst (λ n. CanWait n o) (sym c.loop-operator.auto.waiting) (c.requires.fits c.loop-operator.operator-index o at)

pub loop-operator-preserved : goal.loop-operator-preserved
loop-operator-preserved c = record {
  text_is = grown operator_lines c.args.operators.now c.loop-operator.operator-index c.operator-item.result c.push_count.new.text.items c.loop-operator.text.items c.push_operator.new.text.items
      c.loop-operator-test.true c.operator-item.is c.loop-operator.invariant.text_is c.in_ok-push_operator.ensures.text;
  none = c.in_ok-push_operator.ensures.waiting;
}
