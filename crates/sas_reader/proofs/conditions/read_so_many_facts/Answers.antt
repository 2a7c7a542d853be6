use Rattle.std.proofs.Common.{arith}
use Rattle.sas_reader.specs.Formats.{FactIn}
use Rattle.sas_reader.proofs.FormatWalks.{lines_fail}
use Rattle.sas_reader.proofs.conditions.read_so_many_facts.Goals as goal

pub returns-in-Err : goal.returns-in-Err
returns-in-Err c = rw c.loop-i.invariant at (lines_fail (FactIn c.args.variables.now) c.loop-i.facts.items c.args.count c.loop-i._i c.loop-i.cursor c.in-Err.e (omega arith) c.in-Err.ensures)
