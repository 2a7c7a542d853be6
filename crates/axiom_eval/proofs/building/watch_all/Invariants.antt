use Rattle.std.proofs.Common.{take}
use Rattle.axiom_eval.specs.Building.{AddsWatcher}
use Rattle.axiom_eval.proofs.building.watch_all.Given as goal

abbrev pub invariant-loop-fact : goal.invariant-loop-fact
invariant-loop-fact l = AddsWatcher l.variables l.layer l.place (take l.fact-index l.facts) l.fn.lists.items l.lists.items
