-- A node that reasonable orders may come from.
use Rattle.std.specs.Prelude.{◌≡◌, ℕ, ◌<◌, length, Bool, true, false, not, ◌&&◌, ◌↔◌, nat_eq, Option, Some}
use Rattle.std.specs.List.{list_any}
use Rattle.std.specs.Option.{option_map_or, is_none}
use Rattle.lama_num.specs.Rows.{row_at}
use Rattle.sas_task.specs.declared.contents.Fact.{Fact}
use Rattle.sas_task.specs.declared.contents.Parts.{Parts}
use Rattle.lm_graph.specs.declared.orders.Edge.{Edge}
use Rattle.lm_graph.specs.declared.orders.Order.TheVariants.{Reasonable, Natural, GreedyNecessary}
use Rattle.lm_graph.specs.Graphs.{Content, kind_of}
use Rattle.lm_graph.specs.Marks.{is_seen}
use Rattle.lm_graph.specs.Orders.{is_strong}
use Rattle.lm_graph.specs.Paths.{Path}
use Rattle.lm_orders.specs.declared.sources.Source.{Source}
use Rattle.lm_orders.specs.declared.tables.Tables.{Tables}
use Rattle.lm_orders.specs.Interference.{fact_of}
use Rattle.lm_orders.specs.Reasonable.{AddsBefore}
use Rattle.lm_orders.specs.Tables.{mutex_by, AreTables}

-- What is kept of a node as the graph stands: the nodes that lead to it, and those that it leads to by natural and greedy-necessary orders.
pub record IsSource (graph : Content) (source : Source) : Type 0 where
  pub leads : (other : ℕ) → (is_seen source.leads other ≡ true) ↔ Path (kind_of graph) Reasonable other source.node
  pub reached : (other : ℕ) → (is_seen source.reached other ≡ true) ↔ Path (kind_of graph) Natural source.node other

-- the node of an edge is to hold directly after, and the source, which is another node, leads to it
abbrev pub is_past : Source → Edge → Bool
is_past source edge = is_strong GreedyNecessary (Some edge.kind) && (not (nat_eq edge.node source.node) && is_seen source.reached edge.node)

-- an order to a node would be new and close no cycle
abbrev pub is_new_by : Content → Source → ℕ → Bool
is_new_by graph source after = not (nat_eq source.node after) && (not (is_seen source.leads after) && is_none (kind_of graph source.node after))

-- a fact interferes with the source
abbrev pub interferes_by : Tables → Source → Option Fact → Bool
interferes_by tables source fact = option_map_or (λ f. list_any (λ x. mutex_by tables.groups x f) (row_at tables.company source.node)) fact false

-- The pairs that are earlier than one are judged, and the tables fit the graph as it stands.
pub record IsUnderWay (parts : Parts) (old now : Content) (tables : Tables) (before after : ℕ) : Type 0 where
  pub fit : AreTables parts now tables
  pub adds : AddsBefore parts old now before after

-- So it is at a node of one fact, of which the source is.
pub record IsAtSource (parts : Parts) (old now : Content) (tables : Tables) (source : Source) (after : ℕ) : Type 0 where
  pub within : source.node < length now.nodes
  pub fact : Fact
  pub is_fact : fact_of now.nodes source.node ≡ Some fact
  pub fits : IsSource now source
  pub under_way : IsUnderWay parts old now tables source.node after
