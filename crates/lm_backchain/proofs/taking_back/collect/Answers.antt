use Rattle.std.proofs.Common.{◌≤◌, [], length, arith, subst, refl, List}
use Rattle.sas_task.specs.declared.contents.Fact.{Fact}
use Rattle.lm_backchain.specs.Asked.{IsAsked, Collects}
use Rattle.lm_backchain.proofs.SharedConditions.{collects_none, no_asked, asked_next}
use Rattle.lm_backchain.proofs.ListLaws.{item, take_whole}
use Rattle.lm_backchain.proofs.taking_back.collect.Goals as goal

pub loop-conds-init : goal.loop-conds-init
loop-conds-init c = rw c.new-set.ensures.items (collects_none [] (IsAsked c.args.task.now c.args.predicate.now []) refl (no_asked c.args.task.now c.args.predicate.now))

pub collect_from-requires : goal.collect_from-requires
collect_from-requires c = c.loop-conds.invariant.ascending

pub loop-conds-preserved : goal.loop-conds-preserved
loop-conds-preserved c =
    let at = item c.args.lists.now c.loop-conds.conds-index c.conds-item.result _ c.loop-conds-test.true c.conds-item.is refl in
    asked_next c.args.task.now c.args.predicate.now [] c.loop-conds.set.items _ c.args.lists.now c.loop-conds.conds-index _ at c.loop-conds.invariant (rw c.deref.ensures at c.in_ok-collect_from.ensures)

pub returns : goal.returns
returns c =
    let all : length c.args.lists.now ≤ c.loop-conds.conds-index = omega arith in
    subst (λ (ls : List (List Fact)). Collects [] c.loop-conds.set.items (IsAsked c.args.task.now c.args.predicate.now ls)) (take_whole c.args.lists.now c.loop-conds.conds-index all) c.loop-conds.invariant
