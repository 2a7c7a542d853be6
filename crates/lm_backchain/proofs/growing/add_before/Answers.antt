use Rattle.std.proofs.Common.{◌∙◌, sym}
use Rattle.lm_backchain.proofs.NewNodes.{greedy_set, this_gives, this_place, this_at, this_other, this_ordered, this_full, this_stays, set_within, stays_at}
use Rattle.lm_backchain.proofs.ListLaws.{item}
use Rattle.lm_backchain.proofs.growing.add_before.Goals as goal

pub add_node-requires-clause-set : goal.add_node-requires-clause-set
add_node-requires-clause-set c =
    let at = item c.args.list.now c.args.at c.index-list-at.result _ c.requires.at c.index-list-at.is c.deref.ensures in
    greedy_set c.args.task.now _ _ (this_gives c.args.task.now c.args.graph.now c.args.place c.args.list.now c.args.at _ c.requires.place c.requires.back at)

pub order-requires-clause-before : goal.order-requires-clause-before
order-requires-clause-before c =
    let at = item c.args.list.now c.args.at c.index-list-at.result _ c.requires.at c.index-list-at.is c.deref.ensures in
    set_within c.add_node.new.graph c.in-Some.before _ (this_at c.args.task.now c.args.graph.now c.args.place c.args.list.now c.args.at _ c.requires.place c.requires.back at c.add_node.new.graph c.in_ok-added.added c.requires.works c.in_ok-added.ensures.ok c.in-Some.before (sym c.number_of.ensures ∙ c.in-Some.is))

pub order-requires-clause-after : goal.order-requires-clause-after
order-requires-clause-after c =
    let at = item c.args.list.now c.args.at c.index-list-at.result _ c.requires.at c.index-list-at.is c.deref.ensures in
    set_within c.add_node.new.graph c.args.place _ (this_place c.args.task.now c.args.graph.now c.args.place c.args.list.now c.args.at _ c.requires.place c.requires.back at c.add_node.new.graph c.in_ok-added.added c.requires.works c.in_ok-added.ensures.ok)

pub order-requires-clause-different : goal.order-requires-clause-different
order-requires-clause-different c =
    let at = item c.args.list.now c.args.at c.index-list-at.result _ c.requires.at c.index-list-at.is c.deref.ensures in
    this_other c.args.task.now c.args.graph.now c.args.place c.args.list.now c.args.at _ c.requires.place c.requires.back at c.add_node.new.graph c.in_ok-added.added c.requires.works c.in_ok-added.ensures.ok c.in-Some.before (sym c.number_of.ensures ∙ c.in-Some.is)

pub returns-in_ok-order-in-Some-clause-nodes : goal.returns-in_ok-order-in-Some-clause-nodes
returns-in_ok-order-in-Some-clause-nodes c i x own =
    let at = item c.args.list.now c.args.at c.index-list-at.result _ c.requires.at c.index-list-at.is c.deref.ensures in
    stays_at c.add_node.new.graph c.order.new.self i x c.in_ok-order-in-Some.ensures.ok.nodes (this_stays c.args.task.now c.args.graph.now c.args.place c.args.list.now c.args.at _ c.requires.place c.requires.back at c.add_node.new.graph c.in_ok-added.added c.requires.works c.in_ok-added.ensures.ok i x own)

pub returns-in-None-clause-nodes : goal.returns-in-None-clause-nodes
returns-in-None-clause-nodes c i x own =
    let at = item c.args.list.now c.args.at c.index-list-at.result _ c.requires.at c.index-list-at.is c.deref.ensures in
    this_stays c.args.task.now c.args.graph.now c.args.place c.args.list.now c.args.at _ c.requires.place c.requires.back at c.add_node.new.graph c.in_ok-added.added c.requires.works c.in_ok-added.ensures.ok i x own

pub returns-in_ok-order-in-Some-clause-works : goal.returns-in_ok-order-in-Some-clause-works
returns-in_ok-order-in-Some-clause-works c =
    let at = item c.args.list.now c.args.at c.index-list-at.result _ c.requires.at c.index-list-at.is c.deref.ensures in
    this_ordered c.args.task.now c.args.graph.now c.args.place c.args.list.now c.args.at _ c.requires.place c.requires.back at c.add_node.new.graph c.in_ok-added.added c.requires.works c.in_ok-added.ensures.ok c.in-Some.before _ c.in_ok-added.ensures.graph (sym c.number_of.ensures ∙ c.in-Some.is) c.in_ok-order-in-Some.ensures.ok

pub returns-in-None-clause-works : goal.returns-in-None-clause-works
returns-in-None-clause-works c =
    let at = item c.args.list.now c.args.at c.index-list-at.result _ c.requires.at c.index-list-at.is c.deref.ensures in
    this_full c.args.task.now c.args.graph.now c.args.place c.args.list.now c.args.at _ c.requires.place c.requires.back at c.add_node.new.graph c.in_ok-added.added c.requires.works c.in_ok-added.ensures.ok (sym c.number_of.ensures ∙ c.in-None.is)
