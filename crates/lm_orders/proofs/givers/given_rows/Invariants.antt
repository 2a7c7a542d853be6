use Rattle.std.proofs.Common.{◌≡◌, take, map}
use Rattle.lm_orders.specs.Interference.{given_facts}
use Rattle.lm_orders.proofs.givers.given_rows.Given as goal

abbrev pub invariant-loop-operator : goal.invariant-loop-operator
invariant-loop-operator l = l.rows ≡ map given_facts (take l.operator-index l.operators)
