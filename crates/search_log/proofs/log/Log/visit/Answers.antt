use Rattle.std.proofs.Common.{length, slice_get, get_or, List, ℕ, [], Some, ap, sym, ◌∙◌, arith}
use Rattle.search_log.specs.declared.columns.VisitRow.{VisitRow}
use Rattle.search_log.specs.Logs.{Content}
use Rattle.search_log.specs.Columns.{visit_of}
use Rattle.search_log.proofs.ColumnLaws.{length-beside, beside-found}
use Rattle.search_log.proofs.log.Log.visit.Goals as goal

pub index-visit-requires : goal.index-visit-requires
index-visit-requires c = omega (arith, c.requires, length-beside visit_of _ _ c.self.invariant.0, ap (λ (l : Content). length l.visits) c.self.view_is)

pub row-requires : goal.row-requires
row-requires c = omega (arith, c.requires, c.self.invariant.0, length-beside visit_of _ _ c.self.invariant.0, ap (λ (l : Content). length l.visits) c.self.view_is)

pub returns : goal.returns
returns c =
    ap (λ (l : Content). slice_get l.visits c.args.number) (sym c.self.view_is)
    ∙ beside-found visit_of _ _ c.args.number c.index-visit.result.now [] c.self.invariant.0
    (omega (arith, c.requires, length-beside visit_of _ _ c.self.invariant.0, ap (λ (l : Content). length l.visits) c.self.view_is))
    ∙ ap (λ (row : VisitRow). Some (visit_of row (get_or c.self.inside.preferred c.args.number []))) (sym c.index-visit.ensures)
    ∙ ap (λ (preferred : List ℕ). Some (visit_of c.index-visit.result.now preferred)) (sym c.row.ensures)
