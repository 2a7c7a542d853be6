use Rattle.lm_orders.specs.Sources.{IsUnderWay}
use Rattle.lm_orders.proofs.adding.add_reasonable.Given as goal

abbrev pub invariant-loop-node : goal.invariant-loop-node
invariant-loop-node l = IsUnderWay l.task l.initial.graph l.graph l.tables l.node 0
