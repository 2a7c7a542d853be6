use Rattle.std.proofs.Common.{◌≤◌, ◌∙◌, ◌&&◌, ap, length, refl, arith, List}
use Rattle.sas_task.specs.declared.contents.Fact.{Fact}
use Rattle.lm_backchain.specs.Asked.{all_have}
use Rattle.lm_backchain.specs.Backchain.{has}
use Rattle.lm_backchain.proofs.SharedConditions.{shared_more}
use Rattle.lm_backchain.proofs.ListLaws.{read_at, take_whole}
use Rattle.lm_backchain.proofs.taking_back.shared.Goals as goal

pub loop-fact-init : goal.loop-fact-init
loop-fact-init c = rw c.new-facts.ensures.items (record { ascending = refl; has = λ f. refl })

pub put_shared-requires : goal.put_shared-requires
put_shared-requires c = c.loop-fact.invariant.ascending

pub loop-fact-preserved : goal.loop-fact-preserved
loop-fact-preserved c =
    let at = read_at c.args.front.now c.loop-fact.fact-index (record { var = 0; val = 0 }) c.loop-fact-test.true in
    record {
      ascending = c.in_ok-put_shared.ensures.ascending;
      has = shared_more c.args.lists.now c.args.front.now c.loop-fact.fact-index _ c.loop-fact.facts.items _ at c.loop-fact.invariant.has c.in_ok-put_shared.ensures.has;
    }

pub returns : goal.returns
returns c fact =
    let all : length c.args.front.now ≤ c.loop-fact.fact-index = omega arith in
    c.loop-fact.invariant.has fact ∙ ap (λ (fs : List Fact). has fs fact && all_have c.args.lists.now fact) (take_whole c.args.front.now c.loop-fact.fact-index all)
