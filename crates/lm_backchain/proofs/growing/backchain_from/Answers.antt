use Rattle.std.proofs.Common.{◌∙◌, sym, ap, subst, List, length, length-append, ◌∷◌, [], arith}
use Rattle.std.proofs.lemmas.Option.{same_Some}
use Rattle.sas_task.specs.declared.contents.Fact.{Fact}
use Rattle.lm_backchain.specs.Growth.{IsTakenBack}
use Rattle.lm_backchain.proofs.NewNodes.{still_within, kept_more}
use Rattle.lm_backchain.proofs.Sound.{node_facts}
use Rattle.lm_backchain.proofs.growing.backchain_from.Goals as goal

pub taken_back-requires-clause-node : goal.taken_back-requires-clause-node
taken_back-requires-clause-node c = rw c.deref-2.ensures.value (node_facts c.args.task.now c.in_ok-node.node.items c.requires.add.well_formed (c.requires.works.found c.in_ok-node.node.items (record { place = c.args.place; at = c.in_ok-node.ensures })))

pub add_list-requires-clause-back : goal.add_list-requires-clause-back
add_list-requires-clause-back c b at =
    let back = rw c.deref-2.ensures.value at c.in_ok-list.ensures.sets in
    let same = same_Some _ _ (sym c.in_ok-node.ensures ∙ at) in
    rw c.deref-4.ensures.value (subst (λ (x : List Fact). IsTakenBack c.args.task.now x c.in_ok-list.list.items) same back)

pub returns-clause-place : goal.returns-clause-place
returns-clause-place c = still_within c.args.graph.now c.add_list.new.graph c.args.place c.in_ok-add_list.ensures.nodes c.requires.place

pub returns-clause-long : goal.returns-clause-long
returns-clause-long c =
    let keeps = c.in_ok-list.ensures.keeps in
    let l = ap length keeps.singles ∙ length-append c.args.singles.now.items (keeps.single ∷ []) in
    omega (arith, l, c.requires.long)

pub returns-clause-kept : goal.returns-clause-kept
returns-clause-kept c = kept_more c.args.task.now c.args.graph.now c.add_list.new.graph c.args.place c.in_ok-node.node.items c.args.singles.now.items c.taken_back.new.singles.items c.requires.long c.in_ok-node.ensures c.in_ok-add_list.ensures.nodes c.requires.kept
    (rw c.deref-2.ensures.value at c.in_ok-list.ensures.keeps)
