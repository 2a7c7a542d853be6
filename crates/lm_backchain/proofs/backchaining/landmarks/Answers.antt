use Rattle.std.proofs.Common.{ap}
use Rattle.lm_backchain.proofs.GoalFacts.{no_goals}
use Rattle.lm_backchain.proofs.Sound.{node_sound, greedy_sound, natural_sound}
use Rattle.lm_backchain.proofs.Strong.{with_natural, greedy_of, natural_of}
use Rattle.lm_backchain.proofs.backchaining.landmarks.Goals as goal

pub add_nodes-requires : goal.add_nodes-requires
add_nodes-requires c = no_goals c.args.task.now c.new-graph.result (ap (λ g. g.nodes) c.new-graph.ensures) (ap (λ g. g.rows) c.new-graph.ensures)

pub returns-clause-backchain : goal.returns-clause-backchain
returns-clause-backchain c = with_natural c.args.task.now c.add_nodes.new.graph c.add_natural.new.graph c.in_ok-singles.singles.items c.deref.result.now c.deref.ensures.value c.in_ok-singles.ensures.works c.in_ok-singles.ensures.kept c.in_ok-add_natural.ensures.orders c.in_ok-add_natural.ensures.nodes c.add_natural.ensures.graph

pub returns-clause-landmarks : goal.returns-clause-landmarks
returns-clause-landmarks c facts m =
    let g = with_natural c.args.task.now c.add_nodes.new.graph c.add_natural.new.graph c.in_ok-singles.singles.items c.deref.result.now c.deref.ensures.value c.in_ok-singles.ensures.works c.in_ok-singles.ensures.kept c.in_ok-add_natural.ensures.orders c.in_ok-add_natural.ensures.nodes c.add_natural.ensures.graph in
    node_sound c.args.task.now facts c.in_ok-singles.ensures.formed (g.found facts m)

pub returns-clause-greedy : goal.returns-clause-greedy
returns-clause-greedy c i j a b at_i at_j is =
    let g = with_natural c.args.task.now c.add_nodes.new.graph c.add_natural.new.graph c.in_ok-singles.singles.items c.deref.result.now c.deref.ensures.value c.in_ok-singles.ensures.works c.in_ok-singles.ensures.kept c.in_ok-add_natural.ensures.orders c.in_ok-add_natural.ensures.nodes c.add_natural.ensures.graph in
    greedy_sound c.args.task.now a b c.in_ok-singles.ensures.formed (g.found b (record { place = j; at = at_j })) (greedy_of c.args.task.now c.add_natural.new.graph i j a b g at_i at_j is)

pub returns-clause-natural : goal.returns-clause-natural
returns-clause-natural c i j a b at_i at_j is =
    let g = with_natural c.args.task.now c.add_nodes.new.graph c.add_natural.new.graph c.in_ok-singles.singles.items c.deref.result.now c.deref.ensures.value c.in_ok-singles.ensures.works c.in_ok-singles.ensures.kept c.in_ok-add_natural.ensures.orders c.in_ok-add_natural.ensures.nodes c.add_natural.ensures.graph in
    natural_sound c.args.task.now a b c.in_ok-singles.ensures.formed (g.found b (record { place = j; at = at_j })) (natural_of c.args.task.now c.add_natural.new.graph i j a b g at_i at_j is)
