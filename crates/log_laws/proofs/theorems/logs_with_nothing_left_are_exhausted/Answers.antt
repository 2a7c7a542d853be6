use Rattle.log_laws.proofs.SpaceLaws.{lawful_exhausted}
use Rattle.log_laws.proofs.theorems.logs_with_nothing_left_are_exhausted.Goals as goal

pub returns : goal.returns
returns c phase visits pops is lawful ends dead = lawful_exhausted phase visits pops is lawful ends dead
