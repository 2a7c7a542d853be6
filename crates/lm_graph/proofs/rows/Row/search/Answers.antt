use Rattle.std.proofs.Common.{rules}
use Rattle.std.proofs.lemmas.List.Sorted.{answers_always}
use Rattle.lm_graph.proofs.Places.{searched}
use Rattle.lm_graph.proofs.rows.Row.search.Goals as goal

pub returns : goal.returns
returns c =
    let facts = c.binary_search_by_key.ensures in
    let by_node = facts.position (λ edge. edge.node) (answers_always _ _ _ (λ f a r g called. search rules)) in
    rw (← c.self.view_is, ← c.deref.ensures.value) (searched _ (rw c.deref.ensures.value c.self.invariant) c.args.node _ facts.bound by_node)
