use Rattle.std.proofs.Common.{◌≡◌, ◌∙◌, ap, sym, subst, List}
use Rattle.std.proofs.lemmas.Option.{same_Some, none-some}
use Rattle.sas_task.specs.declared.contents.Fact.{Fact}
use Rattle.lm_graph.specs.declared.nodes.Node.{Node}
use Rattle.lm_graph.specs.Graphs.{kind_of}
use Rattle.lm_orders.specs.Givers.{IsCompany}
use Rattle.lm_orders.specs.Interference.{fact_of}
use Rattle.lm_orders.proofs.Companies.{rows_next}
use Rattle.lm_orders.proofs.tables.companies.Goals as goal
use Rattle.lm_orders.proofs.tables.companies.Goals.{in-Some+in_ok-company-in-Some+in_ok-push-in-Some, in-None+in_ok-push-in-None}

pub loop-node-preserved : goal.loop-node-preserved
loop-node-preserved c =
    let graph = c.args.graph.now in
    let n = c.loop-node.node in
    let read : fact_of c.nodes.result.now n ≡ fact_of graph.nodes n = ap (λ (nodes : List Node). fact_of nodes n) c.nodes.ensures.nodes in
    elim c.match-fact_at.branch [
      | in-Some+in_ok-company-in-Some+in_ok-push-in-Some w ↦
          rows_next c.args.givers.now graph n c.loop-node.rows c.match-fact_at.rows w.deref.result.now c.loop-node.invariant.0 (w.rows-is ∙ w.in_ok-push-in-Some.ensures.ok) c.loop-node.invariant.1
          (λ parts are fact is.
          let same : w.in-Some.fact ≡ fact = same_Some _ _ (w.in-Some.ensures ∙ (read ∙ is)) in
          subst (λ (f : Fact). IsCompany parts graph.nodes (kind_of graph) n f w.deref.result.now) same
          (subst (IsCompany parts graph.nodes (kind_of graph) n w.in-Some.fact) (sym w.deref.ensures.value) (w.in_ok-company-in-Some.ensures parts are)))
      | in-None+in_ok-push-in-None w ↦
          rows_next c.args.givers.now graph n c.loop-node.rows c.match-fact_at.rows _ c.loop-node.invariant.0 (w.rows-is ∙ w.in_ok-push-in-None.ensures.ok) c.loop-node.invariant.1
          (λ parts are fact is. absurd (none-some fact (w.in-None.ensures ∙ (read ∙ is))))
    ]
