use Rattle.std.proofs.Common.{List, take, IsTrue}
use Rattle.std.specs.List.{list_all}
use Rattle.sas_task.specs.WellFormed.{is_fact}
use Rattle.sas_task.specs.declared.contents.Fact.{Fact}
use Rattle.sas_task.specs.declared.contents.Parts.{Parts}
use Rattle.lm_backchain.specs.Firsts.{Knows, AreReached}
use Rattle.lm_backchain.proofs.firsts.all_reached.Given as goal

abbrev pub invariant-loop-fact : goal.invariant-loop-fact
invariant-loop-fact l = (parts : Parts) (node : List Fact) → Knows parts node l.add → IsTrue (list_all (is_fact parts.variables) l.facts) → AreReached parts node (take l.fact-index l.facts)
