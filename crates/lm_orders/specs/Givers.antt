-- Which operators give a fact, and what goes with a node of one fact.
use Rattle.std.specs.Prelude.{◌≡◌, ℕ, ◌<◌, List, [], ◌∷◌, map, length, Bool, true, false, ◌↔◌, nat_eq, Option, Some, None, if◌then◌else◌}
use Rattle.std.specs.List.{list_any, list_all}
use Rattle.lama_num.specs.Rows.{row_at}
use Rattle.sas_task.specs.Facts.{has_fact}
use Rattle.sas_task.specs.declared.contents.Fact.{Fact}
use Rattle.sas_task.specs.declared.contents.Parts.{Parts}
use Rattle.lm_graph.specs.declared.fact_table.FactTable.{FactTable}
use Rattle.lm_graph.specs.declared.nodes.Node.{Node}
use Rattle.lm_graph.specs.declared.orders.Edge.{Edge}
use Rattle.lm_graph.specs.declared.orders.Order.{Order}
use Rattle.lm_graph.specs.declared.orders.Order.TheVariants.{GreedyNecessary}
use Rattle.lm_graph.specs.FactTables.{numbers_at}
use Rattle.lm_graph.specs.Orders.{is_strong}
use Rattle.lm_orders.specs.declared.givers.Givers.{Givers}
use Rattle.lm_orders.specs.Interference.{fact_of, given_facts, always_given, GoesWith}

-- the numbers under a fact are those of the rows that have it
pub record Indexes (rows : List (List Fact)) (table : FactTable) : Type 0 where
  pub each : (fact : Fact) (n : ℕ) → list_any (nat_eq n) (numbers_at table fact) ≡ has_fact (row_at rows n) fact

-- the operators that give each fact, by number, and what each operator always gives
pub record AreGivers (parts : Parts) (givers : Givers) : Type 0 where
  pub table : Indexes (map given_facts parts.operators) givers.table
  pub always : givers.always ≡ map always_given parts.operators

-- each number under a fact is one of a row
pub record AreWithin (givers : Givers) : Type 0 where
  pub each : (fact : Fact) (op : ℕ) → list_any (nat_eq op) (numbers_at givers.table fact) ≡ true → op < length givers.always

-- a fact stands in each row of some numbers, of which there is one
abbrev pub is_common : List (List Fact) → List ℕ → Fact → Bool
is_common rows [] fact = false
is_common rows (n ∷ numbers) fact = list_all (λ m. has_fact (row_at rows m) fact) (n ∷ numbers)

-- the fact of the node that an edge comes from, where that is one fact and the order is greedy-necessary
abbrev pub fact_before : List Node → Edge → Option Fact
fact_before nodes edge = if is_strong GreedyNecessary (Some edge.kind) then fact_of nodes edge.node else None

-- the facts are those that go with a node of one fact
pub record IsCompany (parts : Parts) (nodes : List Node) (kinds : ℕ → ℕ → Option Order) (node : ℕ) (fact : Fact) (company : List Fact) : Type 0 where
  pub each : (other : Fact) → (has_fact company other ≡ true) ↔ GoesWith parts nodes kinds node fact other

-- There is a row for each node below a number, and those of nodes of one fact have what goes with these.
pub record HasCompanies (parts : Parts) (nodes : List Node) (kinds : ℕ → ℕ → Option Order) (count : ℕ) (rows : List (List Fact)) : Type 0 where
  pub each : (node : ℕ) (fact : Fact) → node < count → fact_of nodes node ≡ Some fact → IsCompany parts nodes kinds node fact (row_at rows node)
