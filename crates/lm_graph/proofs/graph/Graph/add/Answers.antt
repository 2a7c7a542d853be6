use Rattle.lm_graph.proofs.Contents.{goal_graph, sets_of-with_goal}
use Rattle.lm_graph.proofs.FactLookUps.{same_keys}
use Rattle.lm_graph.proofs.graph.Graph.add.Goals as goal

pub invariant_of-self : goal.invariant_of-self
invariant_of-self c =
    let nodes = c.self.inside.nodes.items in
    let rows = c.self.inside.rows.items in
    let keys = c.self.inside.sets.keys in
    rw c.join_goal.ensures (goal_graph nodes rows c.in-Some.place c.args.goal c.self.invariant.0, same_keys keys nodes _ c.self.invariant.1 (sets_of-with_goal nodes c.in-Some.place c.args.goal))

pub returns-in-Some-clause-graph : goal.returns-in-Some-clause-graph
returns-in-Some-clause-graph c =
    rw c.join_goal.ensures (goal_graph c.self.inside.nodes.items c.self.inside.rows.items c.in-Some.place c.args.goal c.self.invariant.0)
