-- Tables of a task and of its graph.
use Rattle.std.specs.Prelude.{◌≡◌, ℕ, List, length, Bool, not, ◌&&◌, ◌||◌, nat_eq, Option}
use Rattle.std.specs.List.{list_any}
use Rattle.sas_task.specs.Facts.{same_fact}
use Rattle.sas_task.specs.declared.contents.Fact.{Fact}
use Rattle.sas_task.specs.declared.contents.Parts.{Parts}
use Rattle.lm_graph.specs.declared.fact_table.FactTable.{FactTable}
use Rattle.lm_graph.specs.declared.orders.Order.{Order}
use Rattle.lm_graph.specs.declared.orders.Order.TheVariants.{Natural, GreedyNecessary}
use Rattle.lm_graph.specs.FactTables.{numbers_at}
use Rattle.lm_graph.specs.Graphs.{Content, kind_of}
use Rattle.lm_graph.specs.Orders.{is_strong}
use Rattle.lm_graph.specs.Turned.{kinds_from}
use Rattle.lm_orders.specs.declared.tables.Tables.{Tables}
use Rattle.lm_orders.specs.Givers.{Indexes, HasCompanies}

-- some number stands in both lists
abbrev pub share : List ℕ → List ℕ → Bool
share xs ys = list_any (λ x. list_any (nat_eq x) ys) xs

-- two facts are mutex, by the numbers of their groups
abbrev pub mutex_by : FactTable → Fact → Fact → Bool
mutex_by groups a b = not (same_fact a b) && (nat_eq a.var b.var || share (numbers_at groups a) (numbers_at groups b))

-- the two say the same of natural and greedy-necessary orders
pub record SameStrong (kinds others : ℕ → ℕ → Option Order) : Type 0 where
  pub natural : (i j : ℕ) → is_strong Natural (kinds i j) ≡ is_strong Natural (others i j)
  pub greedy : (i j : ℕ) → is_strong GreedyNecessary (kinds i j) ≡ is_strong GreedyNecessary (others i j)

-- a row for each node
pub record AreLong (graph : Content) (tables : Tables) : Type 0 where
  pub company : length tables.company ≡ length graph.nodes
  pub successors : length tables.successors ≡ length graph.nodes

-- The mutex groups of a fact by number; what goes with each node; and the orders by the node that they come from, as far as they are
-- natural or greedy-necessary.
pub record AreTables (parts : Parts) (graph : Content) (tables : Tables) : Type 0 where
  pub groups : Indexes parts.groups tables.groups
  pub company : HasCompanies parts graph.nodes (kind_of graph) (length graph.nodes) tables.company
  pub strong : SameStrong (kinds_from tables.successors) (kind_of graph)
