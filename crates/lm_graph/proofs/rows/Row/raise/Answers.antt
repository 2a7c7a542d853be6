use Rattle.std.proofs.Common.{◌≡◌, ◌∙◌, ap, subst, Some, get_or}
use Rattle.std.proofs.lemmas.List.{get_or_default}
use Rattle.lm_graph.specs.declared.orders.Edge.{Edge}
use Rattle.lm_graph.specs.Orders.{stronger}
use Rattle.lm_graph.specs.Rows.{IsAscending, past_end}
use Rattle.lm_graph.proofs.Places.{raises_set, raises_insert}
use Rattle.lm_graph.proofs.rows.Row.raise.Goals as goal

pub returns-in-Ok-clause-ok : goal.returns-in-Ok-clause-ok
returns-in-Ok-clause-ok c =
    let found = c.in-Ok.ensures.found in
    let row = c.args.self.now in
    let read : c.index.result.now ≡ get_or row c.in-Ok.place past_end = rw c.self.view_is at (c.index.ensures ∙ get_or_default c.self.inside.edges.items c.in-Ok.place c.index.result.now past_end (rw (← c.self.view_is) at found.within)) in
    rw c.self.view_is (raises_set row (subst IsAscending c.self.view_is c.self.invariant) c.args.node c.in-Ok.place found c.args.kind _ (c.stronger-kind.ensures ∙ ap (λ (e : Edge). stronger (Some e.kind) c.args.kind) read))

pub returns-in_ok-insert-in-Err-clause-ok : goal.returns-in_ok-insert-in-Err-clause-ok
returns-in_ok-insert-in-Err-clause-ok c = rw (c.in_ok-insert-in-Err.ensures.items, c.self.view_is) (raises_insert _ _ _ c.in-Err.ensures.absent _)
