use Rattle.std.proofs.Common.{◌≡◌, ◌∙◌, sym, true}
use Rattle.axiom_eval.specs.Rules.{is_due}
use Rattle.axiom_eval.proofs.TriedRules.{read_within, wrote_as, waits_as}
use Rattle.axiom_eval.proofs.layers.try_rule.Goals as goal

pub bounds-values-head : goal.bounds-values-head
bounds-values-head c = read_within _ c.args.rules.now c.args.place c.index.result.now c.requires.within c.requires.place c.index.ensures

pub returns-then-is_due_at-clause-values : goal.returns-then-is_due_at-clause-values
returns-then-is_due_at-clause-values c =
    let due : is_due c.args.rules.now c.args.place c.args.values.now ≡ true = sym c.is_due_at.ensures ∙ c.if-is_due_at.true in
    wrote_as c.args.rules.now c.args.place c.args.values.now c.index.result.now c.index.ensures due

pub returns-then-is_due_at-clause-waiting : goal.returns-then-is_due_at-clause-waiting
returns-then-is_due_at-clause-waiting c =
    let due : is_due c.args.rules.now c.args.place c.args.values.now ≡ true = sym c.is_due_at.ensures ∙ c.if-is_due_at.true in
    c.push_reserved.ensures.items ∙ waits_as c.args.rules.now c.args.place c.args.values.now c.args.waiting.now.items c.index.result.now c.index.ensures due
