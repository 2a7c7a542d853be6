use Rattle.std.proofs.Common.{arith}
use Rattle.candidates.proofs.Fronts.{front_goes}
use Rattle.candidates.proofs.reading.read_on.Goals as goal

pub returns-in-Ok-clause-turns : goal.returns-in-Ok-clause-turns
returns-in-Ok-clause-turns g c files idle held front = grind (arith, front_goes, c.in-Ok-Bytes.ensures.reads files idle held, c.in-Ok-Bytes.field-0-is, c.in-Ok.ensures.items)
