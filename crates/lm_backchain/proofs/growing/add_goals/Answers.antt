use Rattle.std.proofs.Common.{◌≡◌, ◌≤◌, ◌<◌, ◌∙◌, ◌++◌, ◌∷◌, [], sym, ap, subst, take, length, arith, get_or, List}
use Rattle.sas_task.specs.declared.contents.Fact.{Fact}
use Rattle.lm_backchain.specs.Growth.{HasGoals}
use Rattle.lm_backchain.proofs.GoalFacts.{works_begins}
use Rattle.lm_backchain.proofs.ListLaws.{read_at, take_more_at, take_whole}
use Rattle.lm_backchain.proofs.growing.add_goals.Goals as goal

pub loop-fact-preserved : goal.loop-fact-preserved
loop-fact-preserved c =
    let same : c.as_slice-fact-items.result.now ≡ c.args.task.now.goal = c.as_slice-fact-items.ensures ∙ ap (λ p. p.goal) c.parts.ensures.parts in
    let lt : c.loop-fact.fact-index < length c.args.task.now.goal = let l = ap length same in omega (arith, l, c.loop-fact-test.true) in
    let at = read_at c.args.task.now.goal c.loop-fact.fact-index (record { var = 0; val = 0 }) lt in
    let fact = ap (λ (fs : List Fact). get_or fs c.loop-fact.fact-index (record { var = 0; val = 0 })) same in
    subst (λ (fs : List Fact). HasGoals c.args.task.now fs c.add_goal.new.graph) (sym (take_more_at c.args.task.now.goal c.loop-fact.fact-index _ at))
    (subst (λ (f : Fact). HasGoals c.args.task.now (take c.loop-fact.fact-index c.args.task.now.goal ++ f ∷ []) c.add_goal.new.graph) fact
    (c.in_ok-add_goal.ensures (take c.loop-fact.fact-index c.args.task.now.goal) c.loop-fact.invariant))

pub returns : goal.returns
returns c =
    let same = c.as_slice-fact-items.ensures ∙ ap (λ p. p.goal) c.parts.ensures.parts in
    let all : length c.args.task.now.goal ≤ c.loop-fact.fact-index = let l = ap length same in omega (arith, l) in
    works_begins c.args.task.now c.loop-fact.graph (subst (λ (fs : List Fact). HasGoals c.args.task.now fs c.loop-fact.graph) (take_whole c.args.task.now.goal c.loop-fact.fact-index all) c.loop-fact.invariant)
