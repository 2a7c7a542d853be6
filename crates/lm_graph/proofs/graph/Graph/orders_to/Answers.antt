use Rattle.std.proofs.Common.{◌≡◌, Some, subst, length, ◌<◌}
use Rattle.lm_graph.specs.Graphs.{Content, kind_of}
use Rattle.lm_graph.proofs.Contents.{edge_kind}
use Rattle.lm_graph.proofs.graph.Graph.orders_to.Goals as goal

pub returns-clause-each : goal.returns-clause-each
returns-clause-each c place edge at =
    let own = edge_kind c.self.inside.nodes.items c.self.inside.rows.items c.args.node place _ edge c.self.invariant.0 (rw c.deref.ensures.value at c.edges_at.ensures.edges) c.edges_at.ensures.ascending at in
    subst (λ (g : Content). (edge.node < length g.nodes) × (kind_of g edge.node c.args.node ≡ Some edge.kind)) c.self.view_is own
