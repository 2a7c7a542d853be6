use Rattle.std.proofs.Common.{length, ap, arith}
use Rattle.search_log.specs.Logs.{Content}
use Rattle.search_log.specs.Columns.{visit_of}
use Rattle.search_log.proofs.ColumnLaws.{length-beside}
use Rattle.search_log.proofs.log.Log.visits.Goals as goal

pub returns-clause-count : goal.returns-clause-count
returns-clause-count c = omega (arith, c.len.ensures, length-beside visit_of _ _ c.self.invariant.0, ap (λ (l : Content). length l.visits) c.self.view_is)
