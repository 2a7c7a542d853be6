use Rattle.std.proofs.Common.{◌≡◌, map, take}
use Rattle.lm_backchain.specs.Backchain.{least}
use Rattle.lm_backchain.specs.Givers.{cost_at}
use Rattle.lm_backchain.proofs.nodes.least_cost.Given as goal

abbrev pub invariant-loop-op : goal.invariant-loop-op
invariant-loop-op l = l.least ≡ least (map (cost_at l.operators) (take l.op-index l.ops))
