use Rattle.std.proofs.Common.{◌≡◌}
use Rattle.sas_task.specs.declared.contents.Parts.{Parts}
use Rattle.lm_graph.specs.Graphs.{Content}
use Rattle.lm_orders.specs.Sources.{IsUnderWay, IsAtSource}
use Rattle.lm_orders.proofs.adding.order_from.Given as goal

abbrev pub invariant-loop-after : goal.invariant-loop-after
invariant-loop-after l =
    (l.graph.nodes ≡ l.initial.graph.nodes)
    × ((parts : Parts) (old : Content) → IsUnderWay parts old l.initial.graph l.tables l.node 0 → IsAtSource parts old l.graph l.tables l.source l.after)
