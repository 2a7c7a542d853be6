use Rattle.lm_status.specs.Statuses.{Finds}
use Rattle.lm_status.proofs.table.make_table.Given as goal

abbrev pub invariant-loop-number : goal.invariant-loop-number
invariant-loop-number l = Finds l.table l.nodes l.number
