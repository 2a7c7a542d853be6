use Rattle.std.proofs.Common.{◌<◌, ◌∙◌, ◌++◌, ap, sym, subst, length, refl, List}
use Rattle.sas_task.specs.declared.contents.Fact.{Fact}
use Rattle.lm_backchain.specs.Growth.{IsTakenBack}
use Rattle.lm_backchain.proofs.SharedConditions.{taken_back_none, taken_back_from, nothing_there, something_there}
use Rattle.lm_backchain.proofs.ListLaws.{item}
use Rattle.lm_backchain.proofs.taking_back.back_from.Goals as goal

pub returns-then-is_empty : goal.returns-then-is_empty
returns-then-is_empty c node free firsts = rw c.new.ensures.items (taken_back_none c.args.task.now node c.args.lists.now firsts (nothing_there c.args.lists.now (sym c.is_empty.ensures ∙ c.if-is_empty.true)))

pub returns : goal.returns
returns c node free firsts =
    let some : 0 < length c.args.lists.now = something_there c.args.lists.now (sym c.is_empty.ensures ∙ c.if-is_empty.false) in
    let front = item c.args.lists.now 0 c.index-lists-0.result c.index-lists-0.result some c.index-lists-0.is refl in
    let whole = c.in_ok-append.ensures.items ∙ ap (λ (ss : List (List Fact)). ss ++ c.in_ok-more.more.items) (rw c.deref-2.ensures.value at c.in_ok-sets.ensures) in
    subst (IsTakenBack c.args.task.now node) (sym whole) (taken_back_from c.args.task.now node c.args.lists.now firsts c.index-lists-0.result c.in_ok-facts.facts.items c.in_ok-more.more.items free front (rw c.deref.ensures at c.in_ok-facts.ensures) (rw c.deref-3.ensures at c.in_ok-more.ensures))
