use Rattle.std.proofs.Common.{◌≡◌, ◌≤◌, subst, length, true, false, refl, arith}
use Rattle.std.proofs.lemmas.Bool.{both_ways}
use Rattle.lama_num.proofs.ListLaws.{list_all_get}
use Rattle.sas_task.specs.WellFormed.{is_fact}
use Rattle.lm_backchain.specs.Firsts.{AreReached}
use Rattle.lm_backchain.proofs.FactLists.{has_at}
use Rattle.lm_backchain.proofs.FirstAchievers.{reached_more}
use Rattle.lm_backchain.proofs.ListLaws.{read_at, take_whole}
use Rattle.lm_backchain.proofs.firsts.all_reached.Goals as goal

pub loop-fact-init : goal.loop-fact-init
loop-fact-init c parts node knows there f h = let k : false ≡ true = h in cc

pub loop-fact-preserved : goal.loop-fact-preserved
loop-fact-preserved c parts node knows there =
    let at = read_at c.args.facts.now c.loop-fact.fact-index (record { var = 0; val = 0 }) c.loop-fact-test.true in
    let own = list_all_get (is_fact parts.variables) c.args.facts.now c.loop-fact.fact-index _ there at in
    reached_more parts node c.args.facts.now c.loop-fact.fact-index _ at (c.loop-fact.invariant parts node knows there) ((c.is_reached.ensures parts node knows own).0 c.if-not-is_reached.false)

pub returns : goal.returns
returns c parts node knows there =
    let all : length c.args.facts.now ≤ c.loop-fact.fact-index = omega arith in
    let reached = c.loop-fact.invariant parts node knows there in
    (λ h. subst (AreReached parts node) (take_whole c.args.facts.now c.loop-fact.fact-index all) reached, λ h. refl)

pub returns-then-not-is_reached : goal.returns-then-not-is_reached
returns-then-not-is_reached c parts node knows there =
    let at = read_at c.args.facts.now c.loop-fact.fact-index (record { var = 0; val = 0 }) c.loop-fact-test.true in
    let own = list_all_get (is_fact parts.variables) c.args.facts.now c.loop-fact.fact-index _ there at in (
      λ h. (let k : false ≡ true = h in cc),
      λ all. absurd (both_ways _ c.if-not-is_reached.true ((c.is_reached.ensures parts node knows own).1 (all _ (has_at c.args.facts.now c.loop-fact.fact-index _ at)))),
    )
