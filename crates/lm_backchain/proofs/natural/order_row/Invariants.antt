use Rattle.std.proofs.Common.{◌≡◌}
use Rattle.sas_task.specs.declared.contents.Parts.{Parts}
use Rattle.lm_backchain.specs.Singles.{AreKept, IsSingleAt}
use Rattle.lm_backchain.specs.Strengths.{IsUpTo}
use Rattle.lm_backchain.proofs.natural.order_row.Given as goal

abbrev pub invariant-loop-after : goal.invariant-loop-after
invariant-loop-after l = record {
  nodes : l.graph.nodes ≡ l.initial.graph.nodes;
  so_far : (parts : Parts) → IsSingleAt parts l.initial.graph l.before l.single → AreKept parts l.initial.graph l.singles → IsUpTo parts l.initial.graph l.before 0 → IsUpTo parts l.graph l.before l.after;
}
