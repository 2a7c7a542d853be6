use Rattle.lm_orders.proofs.OrderTests.{source_fits}
use Rattle.lm_orders.proofs.sources.Source.new.Goals as goal

pub returns-clause-source : goal.returns-clause-source
returns-clause-source c parts fit = source_fits parts c.args.graph.now c.args.tables.now _ fit c.in_ok-leads.ensures.leads c.in_ok-reached.ensures.reached
