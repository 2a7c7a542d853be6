use Rattle.std.specs.Prelude.{take}
use Rattle.sas_task.specs.Tables.{Remembers}
use Rattle.sas_task.proofs.FactLists.{KeepsDistinct}
use Rattle.sas_task.proofs.order.keep_distinct.Given as goal

abbrev pub invariant-loop-i : goal.invariant-loop-i
invariant-loop-i l = record {
  keeps : KeepsDistinct l.initial.facts l.facts l.kept l.i;
  seen : Remembers l.seen (take l.kept l.facts);
}
