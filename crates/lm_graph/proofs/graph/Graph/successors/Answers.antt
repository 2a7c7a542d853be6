use Rattle.lm_graph.proofs.Contents.{rows_within}
use Rattle.lm_graph.proofs.graph.Graph.successors.Goals as goal

pub new-requires-clause-within : goal.new-requires-clause-within
new-requires-clause-within c = rw c.deref.ensures.value (rows_within c.self.inside.nodes.items c.self.inside.rows.items c.self.invariant.0)
