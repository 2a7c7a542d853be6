use Rattle.std.proofs.Common.{◌≡◌, ◌∙◌, ap, not, nat_eq, get_or, true, false, arith}
use Rattle.std.proofs.lemmas.Bool.Decides.{nat_tests}
use Rattle.sas_task.specs.States.{all_hold as facts_hold}
use Rattle.axiom_eval.proofs.TriedRules.{read_within, due_as, not_due_as}
use Rattle.axiom_eval.proofs.layers.is_due_at.Goals as goal

pub bounds-values-head : goal.bounds-values-head
bounds-values-head c = read_within _ c.args.rules.now c.args.place c.index.result.now c.requires.within c.requires.place c.index.ensures

pub returns-then-values-head : goal.returns-then-values-head
returns-then-values-head c =
    let ne : not (nat_eq (get_or c.args.values.now c.index.result.now.fact.var 0) c.index.result.now.fact.val) ≡ true = grind (arith, nat_tests, c.if-values-head.true) in
    due_as c.args.rules.now c.args.place c.args.values.now c.index.result.now c.all_hold.result c.index.ensures ne (c.all_hold.ensures ∙ ap (facts_hold c.args.values.now) c.row.ensures)

pub returns-else-values-head : goal.returns-else-values-head
returns-else-values-head c =
    let none : not (nat_eq (get_or c.args.values.now c.index.result.now.fact.var 0) c.index.result.now.fact.val) ≡ false = grind (arith, nat_tests, c.if-values-head.false) in
    not_due_as c.args.rules.now c.args.place c.args.values.now c.index.result.now c.index.ensures none
