use Rattle.std.proofs.Common.{◌≤◌, length, subst, arith, List}
use Rattle.sas_task.specs.declared.contents.Fact.{Fact}
use Rattle.lm_backchain.specs.Growth.{Works}
use Rattle.lm_backchain.proofs.NewNodes.{still_within, stayed, works_next}
use Rattle.lm_backchain.proofs.ListLaws.{take_whole}
use Rattle.lm_backchain.proofs.growing.add_list.Goals as goal

pub loop-at-init : goal.loop-at-init
loop-at-init c = record { works = c.requires.works; nodes = λ i x at. at }

pub add_before-requires-clause-place : goal.add_before-requires-clause-place
add_before-requires-clause-place c = still_within c.args.graph.now c.loop-at.graph c.args.place c.loop-at.invariant.nodes c.requires.place

pub add_before-requires-clause-works : goal.add_before-requires-clause-works
add_before-requires-clause-works c = c.loop-at.invariant.works

pub add_before-requires-clause-back : goal.add_before-requires-clause-back
add_before-requires-clause-back c b at = c.requires.back b (stayed c.args.graph.now c.loop-at.graph c.args.place b c.loop-at.invariant.nodes c.requires.place at)

pub loop-at-preserved : goal.loop-at-preserved
loop-at-preserved c = record {
  works = c.in_ok-add_before.ensures.works;
  nodes = λ i x at. c.in_ok-add_before.ensures.nodes i x (c.loop-at.invariant.nodes i x at);
}

pub returns-clause-works : goal.returns-clause-works
returns-clause-works c =
    let all : length c.args.list.now ≤ c.loop-at.at = omega arith in
    works_next c.args.task.now c.loop-at.graph c.args.place c.args.list.now
    (subst (λ (ls : List (List Fact)). Works c.args.task.now c.loop-at.graph c.args.place ls) (take_whole c.args.list.now c.loop-at.at all) c.loop-at.invariant.works)
    (λ b at. c.requires.back b (stayed c.args.graph.now c.loop-at.graph c.args.place b c.loop-at.invariant.nodes c.requires.place at))

pub returns-clause-nodes : goal.returns-clause-nodes
returns-clause-nodes c = c.loop-at.invariant.nodes
