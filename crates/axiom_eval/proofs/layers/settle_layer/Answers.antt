use Rattle.std.proofs.Common.{◌≡◌, ap}
use Rattle.axiom_eval.specs.Rules.{head_at, layer_at}
use Rattle.axiom_eval.specs.declared.tables.Head.{Head}
use Rattle.axiom_eval.proofs.TriedRules.{begins, begins_between, settles, head_read}
use Rattle.axiom_eval.proofs.layers.settle_layer.Goals as goal

pub try_rules_of-end-requires-clause-hearing : goal.try_rules_of-end-requires-clause-hearing
try_rules_of-end-requires-clause-hearing c =
    let at : head_at c.args.rules.now.heads c.args.from ≡ c.index.result.now = head_read c.args.rules.now c.args.from c.index.result.now c.index.ensures in
    rw c.requires.none (begins c.args.parts.now c.args.rules.now c.index.result.now.layer c.args.from c.args.values.now (ap (λ (h : Head). h.layer) at) c.requires.first c.requires.long)

pub returns-clause-values : goal.returns-clause-values
returns-clause-values c =
    let at : head_at c.args.rules.now.heads c.args.from ≡ c.index.result.now = head_read c.args.rules.now c.args.from c.index.result.now c.index.ensures in
    let layer : layer_at c.args.rules.now c.args.from ≡ c.index.result.now.layer = ap (λ (h : Head). h.layer) at in
    rw layer (settles c.args.parts.now c.args.rules.now c.index.result.now.layer c.args.values.now _ c.requires.formed c.requires.rules c.propagate.ensures.hearing (c.propagate.ensures.between c.args.values.now (c.try_rules_of-end.ensures.between c.args.values.now (begins_between c.args.parts.now c.index.result.now.layer c.args.values.now c.requires.formed))))
