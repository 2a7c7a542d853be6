use Rattle.lm_backchain.specs.Givers.{FindsGivers}
use Rattle.lm_backchain.proofs.givers.make_table.Given as goal

abbrev pub invariant-loop-op : goal.invariant-loop-op
invariant-loop-op l = FindsGivers l.task l.op l.table
