use Rattle.std.proofs.Common.{arith}
use Rattle.sas_reader.proofs.Parts.{values_more, values_fail}
use Rattle.sas_reader.proofs.variables.read_values.Goals as goal

pub returns-in-Err : goal.returns-in-Err
returns-in-Err c =
    rw c.loop-variable.invariant
    at (values_fail c.loop-variable.values.items c.args.variables.now c.loop-variable.variable-index c.variable-item.result c.loop-variable.cursor c.in-Err.e (omega arith) (rw (c.len.ensures, c.variable-item.is) at c.in-Err.ensures))

pub loop-variable-preserved : goal.loop-variable-preserved
loop-variable-preserved c =
    rw (c.in_ok-push-in-Ok.ensures.items, values_more c.loop-variable.values.items c.args.variables.now c.loop-variable.variable-index c.variable-item.result c.loop-variable.cursor c.read_value.new.cursor c.in-Ok.value (omega arith) (rw (c.len.ensures, c.variable-item.is) at c.in-Ok.ensures))
    c.loop-variable.invariant
