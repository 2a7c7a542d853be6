use Rattle.std.proofs.Common.{◌∙◌, ◌+◌, ◌++◌, ◌∷◌, [], sym, ap, subst, List}
use Rattle.std.proofs.lemmas.Bool.{both_ways}
use Rattle.sas_task.specs.declared.contents.Fact.{Fact}
use Rattle.lm_backchain.specs.Firsts.{HasFirsts}
use Rattle.lm_backchain.proofs.FirstAchievers.{conditions_there, firsts_more, firsts_same}
use Rattle.lm_backchain.proofs.firsts.add_first.Goals as goal

pub returns-in_ok-push : goal.returns-in_ok-push
returns-in_ok-push c done so_far =
    let at = rw c.parts.ensures.parts at c.index-operator.ensures in
    let own = c.index-effect.ensures in
    let there = conditions_there c.args.task.now c.args.op c.args.place c.index-operator.result.now c.index-effect.result.now c.parts.ensures.well_formed at own in
    let achieves = (c.achieves.ensures c.args.task.now c.requires.knows there).0 c.if-achieves.true in
    let more = firsts_more c.args.task.now c.args.node.now c.args.op c.args.place c.index-operator.result.now c.index-effect.result.now at own done c.args.firsts.now.items so_far achieves in
    let is = c.in_ok-push.ensures.items ∙ ap (λ (x : List Fact). c.args.firsts.now.items ++ x ∷ []) c.in_ok-conditions.ensures in
    subst (HasFirsts c.args.task.now c.args.node.now done c.args.op (c.args.place + 1)) (sym is) more

pub returns-else-achieves : goal.returns-else-achieves
returns-else-achieves c done so_far =
    let at = rw c.parts.ensures.parts at c.index-operator.ensures in
    let own = c.index-effect.ensures in
    let there = conditions_there c.args.task.now c.args.op c.args.place c.index-operator.result.now c.index-effect.result.now c.parts.ensures.well_formed at own in
    firsts_same c.args.task.now c.args.node.now c.args.op c.args.place c.index-operator.result.now c.index-effect.result.now at own done c.args.firsts.now.items so_far
    (λ a. both_ways _ c.if-achieves.false ((c.achieves.ensures c.args.task.now c.requires.knows there).1 a))
