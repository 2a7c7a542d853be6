use Rattle.sas_reader.proofs.Readings.{task_given, refusal_given, one_reading}
use Rattle.sas_reader.proofs.reader.read.Goals as goal

pub returns-clause-text : goal.returns-clause-text
returns-clause-text c = task_given c.args.bytes.now c.read_accepted.result c.read_accepted.ensures

pub returns-clause-first : goal.returns-clause-first
returns-clause-first c = refusal_given c.args.bytes.now c.read_accepted.result c.read_accepted.ensures

pub returns-clause-decided : goal.returns-clause-decided
returns-clause-decided c = one_reading c.args.bytes.now
