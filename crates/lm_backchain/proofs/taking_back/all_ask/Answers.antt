use Rattle.std.proofs.Common.{◌≡◌, ◌≤◌, length, true, false, refl, arith, subst}
use Rattle.std.proofs.lemmas.Bool.{both_ways}
use Rattle.lm_backchain.specs.Asked.{AllAsk}
use Rattle.lm_backchain.proofs.SharedConditions.{ask_more}
use Rattle.lm_backchain.proofs.ListLaws.{item, take_whole, among_none}
use Rattle.lm_backchain.proofs.taking_back.all_ask.Goals as goal

pub loop-conds-init : goal.loop-conds-init
loop-conds-init c conds m = absurd (among_none conds m)

pub loop-conds-preserved : goal.loop-conds-preserved
loop-conds-preserved c =
    let at = item c.args.lists.now c.loop-conds.conds-index c.conds-item.result _ c.loop-conds-test.true c.conds-item.is refl in
    ask_more c.args.task.now c.args.predicate.now c.args.lists.now c.loop-conds.conds-index _ at c.loop-conds.invariant ((rw c.deref.ensures at c.asks.ensures).0 c.if-not-asks.false)

pub returns : goal.returns
returns c =
    let all : length c.args.lists.now ≤ c.loop-conds.conds-index = omega arith in
    (λ h. subst (AllAsk c.args.task.now c.args.predicate.now) (take_whole c.args.lists.now c.loop-conds.conds-index all) c.loop-conds.invariant, λ h. refl)

pub returns-then-not-asks : goal.returns-then-not-asks
returns-then-not-asks c =
    let at = item c.args.lists.now c.loop-conds.conds-index c.conds-item.result _ c.loop-conds-test.true c.conds-item.is refl in (
      λ h. (let k : false ≡ true = h in cc),
      λ all. absurd (both_ways _ c.if-not-asks.true ((rw c.deref.ensures at c.asks.ensures).1 (all c.conds-item.result (record { place = c.loop-conds.conds-index; at = at })))),
    )
