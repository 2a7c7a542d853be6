use Rattle.std.proofs.Common.{arith, length, ap}
use Rattle.std.proofs.lemmas.List.Sums.{sum_by_more}
use Rattle.sas_task.specs.Limits.{most_listed}
use Rattle.sas_task.proofs.Above.{within_each}
use Rattle.sas_task.proofs.limits.fact_count.Goals as goal

pub overflow_add-facts : goal.overflow_add-facts
overflow_add-facts c =
    let small = within_each most_listed (λ v. length v.values) c.args.variables.now c.loop-variable.variable-index c.variable-item.result c.requires.small c.loop-variable-test.true in
    let values = ap (λ v. length v.values) c.variable-item.is in
    let few = c.requires.few in
    omega arith

pub loop-variable-preserved : goal.loop-variable-preserved
loop-variable-preserved c =
    let small = within_each most_listed (λ v. length v.values) c.args.variables.now c.loop-variable.variable-index c.variable-item.result c.requires.small c.loop-variable-test.true in
    let values = ap (λ v. length v.values) c.variable-item.is in
    let more = sum_by_more (λ v. length v.values) c.args.variables.now c.loop-variable.variable-index c.variable-item.result c.loop-variable-test.true in
    record { small = omega arith; same = omega arith }
