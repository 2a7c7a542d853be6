use Rattle.task_gen.proofs.NamesRead.{names_read}
use Rattle.task_gen.proofs.law.names_that_are_read.Goals as goal

pub returns : goal.returns
returns c = names_read
