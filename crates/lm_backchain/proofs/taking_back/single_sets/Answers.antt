use Rattle.std.proofs.Common.{◌≤◌, ◌∙◌, ◌++◌, ◌∷◌, [], sym, ap, length, arith, List, take}
use Rattle.sas_task.specs.declared.contents.Fact.{Fact}
use Rattle.lm_backchain.specs.Backchain.{singles}
use Rattle.lm_backchain.proofs.SharedConditions.{single_more}
use Rattle.lm_backchain.proofs.ListLaws.{read_at, take_whole}
use Rattle.lm_backchain.proofs.taking_back.single_sets.Goals as goal

pub loop-fact-preserved : goal.loop-fact-preserved
loop-fact-preserved c =
    let at = read_at c.args.facts.now c.loop-fact.fact-index (record { var = 0; val = 0 }) c.loop-fact-test.true in
    c.in_ok-push.ensures.items
    ∙ (ap (λ (ss : List (List Fact)). ss ++ c.in_ok-set.set ∷ []) c.loop-fact.invariant
    ∙ (ap (λ (s : List Fact). singles (take c.loop-fact.fact-index c.args.facts.now) ++ s ∷ []) c.in_ok-set.ensures ∙ sym (single_more c.args.facts.now c.loop-fact.fact-index _ at)))

pub returns : goal.returns
returns c =
    let all : length c.args.facts.now ≤ c.loop-fact.fact-index = omega arith in
    c.loop-fact.invariant ∙ ap singles (take_whole c.args.facts.now c.loop-fact.fact-index all)
