use Rattle.std.proofs.Common.{◌∙◌, sym, subst, arith, ◌<◌, length, List, IsTrue}
use Rattle.sas_task.specs.declared.contents.Fact.{Fact}
use Rattle.lm_graph.specs.Nodes.{is_set, IsAbsent}
use Rattle.lm_graph.specs.Graphs.{Content}
use Rattle.lm_graph.proofs.Contents.{new_graph}
use Rattle.lm_graph.proofs.graph.Graph.add_new.Goals as goal

pub invariant_of-self-2 : goal.invariant_of-self-2
invariant_of-self-2 c =
    let facts = c.from-facts.ensures ∙ c.in_ok-from_slice.ensures.items in
    let absent = subst (λ (fs : List Fact). IsAbsent c.self.inside.nodes.items fs) (sym facts) (subst (λ (g : Content). IsAbsent g.nodes c.args.facts.now) (sym c.self.view_is) c.requires.absent) in
    let set = subst (λ (fs : List Fact). IsTrue (is_set fs)) (sym facts) c.requires.set in
    let room : length c.self.inside.nodes.items < 65536 = omega arith in
    rw (c.in_ok-push_node.ensures.nodes, c.in_ok-push_node.ensures.rows) (new_graph _ _ _ c.self.invariant.0 absent room set, rw c.in_ok-push_node.ensures.nodes at c.in_ok-push_node.ensures.keys)

pub returns-clause-graph : goal.returns-clause-graph
returns-clause-graph c =
    let facts = c.from-facts.ensures ∙ c.in_ok-from_slice.ensures.items in
    let absent = subst (λ (fs : List Fact). IsAbsent c.self.inside.nodes.items fs) (sym facts) (subst (λ (g : Content). IsAbsent g.nodes c.args.facts.now) (sym c.self.view_is) c.requires.absent) in
    let set = subst (λ (fs : List Fact). IsTrue (is_set fs)) (sym facts) c.requires.set in
    let room : length c.self.inside.nodes.items < 65536 = omega arith in
    rw (c.in_ok-push_node.ensures.nodes, c.in_ok-push_node.ensures.rows) (new_graph _ _ _ c.self.invariant.0 absent room set)
