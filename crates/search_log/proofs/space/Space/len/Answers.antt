use Rattle.std.proofs.Common.{length, ap, arith}
use Rattle.search_log.specs.Columns.{member_of}
use Rattle.search_log.proofs.ColumnLaws.{length-beside}
use Rattle.search_log.proofs.space.Space.len.Goals as goal

pub returns : goal.returns
returns c = omega (arith, c.len.ensures, c.self.invariant.0, length-beside member_of _ _ c.self.invariant.0, ap length c.self.view_is)
