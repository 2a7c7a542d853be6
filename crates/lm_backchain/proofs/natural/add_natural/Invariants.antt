use Rattle.std.proofs.Common.{◌≡◌}
use Rattle.sas_task.specs.declared.contents.Parts.{Parts}
use Rattle.lm_backchain.specs.Singles.{AreKept}
use Rattle.lm_backchain.specs.Strengths.{IsUpTo}
use Rattle.lm_backchain.proofs.natural.add_natural.Given as goal

abbrev pub invariant-loop-before : goal.invariant-loop-before
invariant-loop-before l = record {
  nodes : l.graph.nodes ≡ l.initial.graph.nodes;
  so_far : (parts : Parts) → AreKept parts l.initial.graph l.singles → IsUpTo parts l.initial.graph 0 0 → IsUpTo parts l.graph l.before 0;
}
