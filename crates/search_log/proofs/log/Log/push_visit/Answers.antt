use Rattle.search_log.specs.Columns.{visit_of}
use Rattle.search_log.proofs.ColumnLaws.{beside-push}
use Rattle.search_log.proofs.log.Log.push_visit.Goals as goal

pub returns-clause-visits : goal.returns-clause-visits
returns-clause-visits c =
    rw (c.in_ok-add_visit.ensures.visits, c.in_ok-add_visit.ensures.preferred, c.deref.ensures, ← c.self.view_is) (beside-push visit_of _ _ _ _ c.self.invariant.0)
