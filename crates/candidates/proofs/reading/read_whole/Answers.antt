use Rattle.std.proofs.Common.{arith}
use Rattle.candidates.proofs.Fronts.{front_long}
use Rattle.candidates.proofs.reading.read_whole.Goals as goal

pub returns-clause-exact : goal.returns-clause-exact
returns-clause-exact g c files idle held = front_long _ _ _ (c.loop-folder.invariant.front files idle held) (omega arith)
