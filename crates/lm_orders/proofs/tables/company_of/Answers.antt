use Rattle.std.proofs.Common.{◌∙◌, ◌++◌, ◌∷◌, [], ap, sym, List}
use Rattle.std.specs.List.{filter_map}
use Rattle.sas_task.specs.declared.contents.Fact.{Fact}
use Rattle.lm_graph.specs.declared.orders.Edge.{Edge}
use Rattle.lm_graph.specs.declared.nodes.Node.{Node}
use Rattle.lm_graph.specs.Graphs.{kind_of}
use Rattle.lm_graph.specs.Rows.{kind_in}
use Rattle.lm_orders.specs.Givers.{fact_before}
use Rattle.lm_orders.proofs.Companies.{company_goes}
use Rattle.lm_orders.proofs.tables.company_of.Goals as goal

pub returns : goal.returns
returns c parts are =
    let row = c.orders_to.result.now in
    company_goes parts c.args.givers.now c.args.graph.now.nodes (kind_of c.args.graph.now) c.args.node row c.args.fact c.in_ok-company.company.items c.in_ok-before.before.items c.push.new.self.items are
    (λ place edge at. (c.orders_to.ensures.each place edge at).1)
    (λ i. ap (λ (r : List Edge). kind_in r i) (sym c.orders_to.ensures.orders))
    c.in_ok-company.ensures
    (c.in_ok-before.ensures ∙ ap (λ (nodes : List Node). filter_map (fact_before nodes) row) c.nodes.ensures.nodes)
    (c.in_ok-push.ensures.items ∙ ap (λ (facts : List Fact). facts ++ c.args.fact ∷ []) (c.in_ok-extend_from_slice.ensures.items ∙ ap (λ (facts : List Fact). c.in_ok-company.company.items ++ facts) c.deref.ensures.value))
