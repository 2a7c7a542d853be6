use Rattle.std.proofs.Common.{sym, subst, arith}
use Rattle.std.proofs.lemmas.List.{get_or_default}
use Rattle.lm_graph.specs.Rows.{IsAscending, past_end}
use Rattle.lm_graph.proofs.Places.{kind_at, kind_in_gap}
use Rattle.lm_graph.proofs.rows.Row.kind.Goals as goal

pub returns-in-Ok : goal.returns-in-Ok
returns-in-Ok c =
    let order = kind_at _ (subst IsAscending c.self.view_is c.self.invariant) _ _ c.in-Ok.ensures.found in
    let read = get_or_default _ _ c.index.result.now past_end c.in-Ok.ensures.found.within in
    grind (arith, c.self.view_is)

pub returns-in-Err : goal.returns-in-Err
returns-in-Err c = sym (kind_in_gap _ _ _ c.in-Err.ensures.absent)
