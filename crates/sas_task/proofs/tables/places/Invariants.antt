use Rattle.std.specs.Prelude.{take}
use Rattle.sas_task.specs.Tables.{Places, CountsFacts}
use Rattle.sas_task.proofs.tables.places.Given as goal

abbrev pub invariant-loop-fact : goal.invariant-loop-fact
invariant-loop-fact l = record {
  counts : CountsFacts l.counts (take l.fact-index l.facts);
  placed : Places l.placed (take l.fact-index l.facts);
}
