use Rattle.sas_task.specs.Limits.{longest_name}
use Rattle.sas_task.specs.Refusals.{names_of}
use Rattle.sas_task.proofs.Above.{flat_front, flat_behind}
use Rattle.sas_task.proofs.limits.variable_names_above.Goals as goal

pub returns-then-is_some : goal.returns-then-is_some
returns-then-is_some c =
    flat_front longest_name names_of c.args.variables.now c.loop-variable.variable-index c.variable-item.result c.variable_name_above-longest.result c.loop-variable-test.true c.variable-item.is c.variable_name_above-longest.ensures (cc)
    c.loop-variable.invariant

pub loop-variable-preserved : goal.loop-variable-preserved
loop-variable-preserved c =
    flat_behind longest_name names_of c.args.variables.now c.loop-variable.variable-index c.variable-item.result c.variable_name_above-longest.result c.loop-variable-test.true c.variable-item.is c.variable_name_above-longest.ensures (cc)
    c.loop-variable.invariant
