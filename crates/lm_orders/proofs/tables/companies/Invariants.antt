use Rattle.std.proofs.Common.{◌≡◌, length}
use Rattle.sas_task.specs.declared.contents.Parts.{Parts}
use Rattle.lm_graph.specs.Graphs.{kind_of}
use Rattle.lm_orders.specs.Givers.{AreGivers, HasCompanies}
use Rattle.lm_orders.proofs.tables.companies.Given as goal

abbrev pub invariant-loop-node : goal.invariant-loop-node
invariant-loop-node l = (l.node ≡ length l.rows) × ((parts : Parts) → AreGivers parts l.givers → HasCompanies parts l.graph.nodes (kind_of l.graph) l.node l.rows)
