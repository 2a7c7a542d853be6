use Rattle.std.proofs.Common.{◌≤◌, [], length, arith, subst, List}
use Rattle.sas_task.specs.declared.contents.Fact.{Fact}
use Rattle.lm_backchain.specs.Asked.{IsOf, Collects}
use Rattle.lm_backchain.proofs.SharedConditions.{collects_none, no_of, of_next}
use Rattle.lm_backchain.proofs.ListLaws.{read_at, take_whole}
use Rattle.lm_backchain.proofs.taking_back.collect_from.Goals as goal

pub loop-fact-init : goal.loop-fact-init
loop-fact-init c = collects_none c.args.set.now.items (IsOf c.args.task.now c.args.predicate.now []) c.requires (no_of c.args.task.now c.args.predicate.now)

pub collect_fact-requires : goal.collect_fact-requires
collect_fact-requires c = c.loop-fact.invariant.ascending

pub loop-fact-preserved : goal.loop-fact-preserved
loop-fact-preserved c =
    let at = read_at c.args.conds.now c.loop-fact.fact-index (record { var = 0; val = 0 }) c.loop-fact-test.true in
    of_next c.args.task.now c.args.predicate.now c.args.set.now.items c.loop-fact.set.items _ c.args.conds.now c.loop-fact.fact-index _ at c.loop-fact.invariant c.in_ok-collect_fact.ensures

pub returns : goal.returns
returns c =
    let all : length c.args.conds.now ≤ c.loop-fact.fact-index = omega arith in
    subst (λ (fs : List Fact). Collects c.args.set.now.items c.loop-fact.set.items (IsOf c.args.task.now c.args.predicate.now fs)) (take_whole c.args.conds.now c.loop-fact.fact-index all) c.loop-fact.invariant
