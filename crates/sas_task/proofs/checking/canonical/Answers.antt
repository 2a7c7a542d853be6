use Rattle.std.proofs.Common.{rules}
use Rattle.sas_task.proofs.CauseLaws.{no_conditions, brought_by}
use Rattle.sas_task.proofs.checking.canonical.Goals as goal

pub returns : goal.returns
returns c =
    let parts = c.args.parts in
    let conditions = no_conditions parts c.first_of.result c.order_operators-conditions.result c.rule_conditions_above.result (search rules) c.first_of.ensures (search rules) (search rules) in
    let order = c.order_operators-conditions.ensures.order conditions.operators_none in
    brought_by parts c.from.result c.from-2.result conditions.none (search rules) (search rules)
