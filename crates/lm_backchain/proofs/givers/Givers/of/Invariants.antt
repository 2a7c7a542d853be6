use Rattle.std.proofs.Common.{length, take}
use Rattle.sas_task.specs.declared.contents.Parts.{Parts}
use Rattle.lm_backchain.specs.Givers.{AreGivers, FindsGivers}
use Rattle.lm_backchain.proofs.givers.Givers.of.Given as goal

abbrev pub invariant-loop-fact : goal.invariant-loop-fact
invariant-loop-fact l = (parts : Parts) → FindsGivers parts (length parts.operators) l.self.table → AreGivers parts (take l.fact-index l.facts) l.ops.items
