use Rattle.lm_graph.proofs.Contents.{rows_within}
use Rattle.lm_graph.proofs.graph.Graph.leading_to.Goals as goal

pub flood-requires-clause-within : goal.flood-requires-clause-within
flood-requires-clause-within c = rw c.deref.ensures.value (rows_within c.self.inside.nodes.items c.self.inside.rows.items c.self.invariant.0)

pub returns-clause-leads : goal.returns-clause-leads
returns-clause-leads c other = rw (← c.self.view_is) (rw (c.deref.ensures.value, ← c.from.ensures) at (c.in_ok-seen.ensures.leads other))
