use Rattle.std.proofs.lemmas.Bool.{both_ways}
use Rattle.lm_orders.proofs.PairOrder.{step_yes, step_no}
use Rattle.lm_orders.proofs.adding.order_pair.Goals as goal

pub order-requires-clause-different : goal.order-requires-clause-different
order-requires-clause-different c = c.is_reasonable.ensures.different c.if-is_reasonable.true

pub returns-in_ok-order-clause-ok : goal.returns-in_ok-order-clause-ok
returns-in_ok-order-clause-ok c parts old at =
    step_yes parts old c.args.graph.now c.order.new.self c.args.tables.now c.args.source.now c.args.after at
    ((c.is_reasonable.ensures.reasonable parts at.fact at.under_way.fit at.fits at.is_fact).0 c.if-is_reasonable.true) c.in_ok-order.ensures.ok

pub returns-else-is_reasonable-clause-ok : goal.returns-else-is_reasonable-clause-ok
returns-else-is_reasonable-clause-ok c parts old at =
    step_no parts old c.args.graph.now c.args.tables.now c.args.source.now c.args.after at
    (λ r. both_ways _ c.if-is_reasonable.false ((c.is_reasonable.ensures.reasonable parts at.fact at.under_way.fit at.fits at.is_fact).1 r))
