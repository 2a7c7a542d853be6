use Rattle.std.proofs.Common.{◌≡◌, ◌≤◌, length, true, false, refl, arith, subst, sym, List}
use Rattle.std.proofs.lemmas.Bool.{both_ways}
use Rattle.sas_task.specs.declared.contents.Fact.{Fact}
use Rattle.lm_backchain.specs.Asked.{IsOf}
use Rattle.lm_backchain.proofs.SharedConditions.{no_of, none_more}
use Rattle.lm_backchain.proofs.FactLists.{has_at}
use Rattle.lm_backchain.proofs.ListLaws.{read_at, take_whole}
use Rattle.lm_backchain.proofs.taking_back.asks.Goals as goal

pub loop-fact-init : goal.loop-fact-init
loop-fact-init c f w = no_of c.args.task.now c.args.predicate.now f w

pub loop-fact-preserved : goal.loop-fact-preserved
loop-fact-preserved c =
    let at = read_at c.args.conds.now c.loop-fact.fact-index (record { var = 0; val = 0 }) c.loop-fact-test.true in
    none_more c.args.task.now c.args.predicate.now c.args.conds.now c.loop-fact.fact-index _ at c.loop-fact.invariant (λ is. both_ways _ c.if-has_predicate.false (c.has_predicate.ensures.1 is))

pub returns : goal.returns
returns c = (
  λ h. (let k : false ≡ true = h in cc),
  λ s.
      let all : length c.args.conds.now ≤ c.loop-fact.fact-index = omega arith in
      absurd (c.loop-fact.invariant s.0 (subst (λ (fs : List Fact). IsOf c.args.task.now c.args.predicate.now fs s.0) (sym (take_whole c.args.conds.now c.loop-fact.fact-index all)) s.1)),
)

pub returns-then-has_predicate : goal.returns-then-has_predicate
returns-then-has_predicate c =
    let at = read_at c.args.conds.now c.loop-fact.fact-index (record { var = 0; val = 0 }) c.loop-fact-test.true in
    (λ h. (_, record { is_of = c.has_predicate.ensures.0 c.if-has_predicate.true; asked = has_at c.args.conds.now c.loop-fact.fact-index _ at }), λ s. refl)
