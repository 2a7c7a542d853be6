use Rattle.std.proofs.Common.{◌<◌, sym, subst, arith, length}
use Rattle.lm_graph.specs.Graphs.{Content, IsPair}
use Rattle.lm_graph.proofs.Contents.{puts_order, ordered_graph}
use Rattle.lm_graph.proofs.graph.Graph.order.Goals as goal

pub invariant_of-self-2 : goal.invariant_of-self-2
invariant_of-self-2 c =
    let before = subst (λ (g : Content). c.args.before < length g.nodes) (sym c.self.view_is) c.requires.before in
    let after = subst (λ (g : Content). c.args.after < length g.nodes) (sym c.self.view_is) c.requires.after in
    let pair : IsPair (length c.self.inside.nodes.items) c.args.before c.args.after = record { first = before; second = after; different = c.requires.different } in
    let within : c.args.after < length c.self.inside.rows.items = omega (arith, after, c.self.invariant.0.long) in
    (ordered_graph c.self.inside.nodes.items c.self.inside.rows.items _ c.args.before c.args.after c.args.kind c.in_ok-raise_at.ensures.ok within c.self.invariant.0 pair, c.self.invariant.1)

pub returns-clause-ok : goal.returns-clause-ok
returns-clause-ok c =
    let after = subst (λ (g : Content). c.args.after < length g.nodes) (sym c.self.view_is) c.requires.after in
    let within : c.args.after < length c.self.inside.rows.items = omega (arith, after, c.self.invariant.0.long) in
    rw (← c.self.view_is) (puts_order c.self.inside.nodes.items c.self.inside.rows.items _ c.args.before c.args.after c.args.kind c.in_ok-raise_at.ensures.ok within)

pub returns-clause-graph : goal.returns-clause-graph
returns-clause-graph c =
    let before = subst (λ (g : Content). c.args.before < length g.nodes) (sym c.self.view_is) c.requires.before in
    let after = subst (λ (g : Content). c.args.after < length g.nodes) (sym c.self.view_is) c.requires.after in
    let pair : IsPair (length c.self.inside.nodes.items) c.args.before c.args.after = record { first = before; second = after; different = c.requires.different } in
    let within : c.args.after < length c.self.inside.rows.items = omega (arith, after, c.self.invariant.0.long) in
    ordered_graph c.self.inside.nodes.items c.self.inside.rows.items _ c.args.before c.args.after c.args.kind c.in_ok-raise_at.ensures.ok within c.self.invariant.0 pair
