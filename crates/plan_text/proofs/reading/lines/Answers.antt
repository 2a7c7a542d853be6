use Rattle.std.proofs.Common.{arith}
use Rattle.plan_text.proofs.Few.{few_given}
use Rattle.plan_text.proofs.reading.lines.Goals as goal

pub returns-clause-few : goal.returns-clause-few
returns-clause-few c = few_given c.args.bytes.now c.read_lines.result (omega arith) c.read_lines.ensures
