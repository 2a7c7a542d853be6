use Rattle.std.proofs.Common.{arith}
use Rattle.sas_reader.specs.Formats.{Name}
use Rattle.sas_reader.proofs.FormatWalks.{lines_fail}
use Rattle.sas_reader.proofs.variables.read_names.Goals as goal

pub returns-in-Err-clause-names : goal.returns-in-Err-clause-names
returns-in-Err-clause-names c = rw c.loop-i.invariant.read at (lines_fail Name c.loop-i.names.items c.args.count c.loop-i._i c.loop-i.cursor c.in-Err.e (omega arith) c.in-Err.ensures)
