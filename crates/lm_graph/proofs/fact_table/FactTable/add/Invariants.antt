use Rattle.std.proofs.Common.{take}
use Rattle.lm_graph.specs.FactTables.{AddsNumber}
use Rattle.lm_graph.proofs.fact_table.FactTable.add.Given as goal

abbrev pub invariant-loop-fact : goal.invariant-loop-fact
invariant-loop-fact l = AddsNumber l.initial.self l.self (take l.fact-index l.facts) l.number
