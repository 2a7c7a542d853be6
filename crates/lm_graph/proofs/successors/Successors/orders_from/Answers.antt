use Rattle.std.proofs.Common.{◌≡◌, ◌∙◌, sym, ap, subst, Some, List, length, ◌<◌}
use Rattle.lm_graph.specs.declared.orders.Edge.{Edge}
use Rattle.lm_graph.specs.Rows.{kind_in}
use Rattle.lm_graph.specs.Turned.{kinds_from}
use Rattle.lm_graph.proofs.MarkLaws.{row_within}
use Rattle.lm_graph.proofs.Strengths.{kind_at_place}
use Rattle.lm_graph.proofs.successors.Successors.orders_from.Goals as goal

pub returns-clause-each : goal.returns-clause-each
returns-clause-each c place edge at =
    let rows = c.self.inside.rows.items in
    let row = rw c.deref.ensures.value at c.edges_at.ensures.edges in
    let kind = ap (λ (r : List Edge). kind_in r edge.node) (sym row) ∙ kind_at_place _ place edge c.edges_at.ensures.ascending at in
    let within = row_within rows c.args.node place _ edge c.self.invariant row c.edges_at.ensures.ascending at in
    subst (λ (s : List (List Edge)). (edge.node < length s) × (kinds_from s c.args.node edge.node ≡ Some edge.kind)) c.self.view_is (within, kind)
