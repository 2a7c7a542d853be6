-- What a status of landmarks keeps.
use Rattle.std.specs.Prelude.{◌≡◌, ℕ, ◌<◌, List, length, Bool, map, ◌&&◌}
use Rattle.std.specs.List.{list_any, range_with_len}
use Rattle.lama_num.specs.Rows.{row_at}
use Rattle.sas_task.specs.Facts.{has_fact}
use Rattle.sas_task.specs.declared.contents.CostKind.{CostKind}
use Rattle.sas_task.specs.declared.contents.Fact.{Fact}
use Rattle.sas_task.specs.declared.contents.Parts.{Parts}
use Rattle.lm_graph.specs.declared.nodes.Node.{Node}
use Rattle.lm_graph.specs.declared.fact_table.FactTable.{FactTable}
use Rattle.lm_graph.specs.FactTables.{numbers_at}
use Rattle.lm_graph.specs.Nodes.{sets_of}
use Rattle.lm_graph.specs.Graphs.{Content}
use Rattle.lm_status.specs.Accepted.{nodes_in, facts_of}
use Rattle.lm_status.specs.Estimates.{after_of, weight_of}

-- What contracts see of a status: a graph, and the weights of its nodes.
pub record Charted : Type 0 where
  pub graph : Content
  pub weights : List ℕ

-- the status of a graph of landmarks, with the weights of a task and a kind of cost
pub record IsStatusOf (parts : Parts) (landmarks : Content) (kind : CostKind) (status : Charted) : Type 0 where
  pub graph : status.graph ≡ landmarks
  pub weights : status.weights ≡ map (weight_of parts kind) landmarks.nodes

-- some node of a row passes a test where a node does that the first is to hold directly before
pub record AreAfter (graph : Content) (after : List (List ℕ)) : Type 0 where
  pub long : length after ≡ length graph.nodes
  pub each : (node : ℕ) (test : ℕ → Bool) → node < length graph.nodes → list_any test (row_at after node) ≡ list_any test (after_of graph node)

-- a number under a fact passes a test where a node below a number has the fact and passes it
pub record Finds (table : FactTable) (nodes : List Node) (count : ℕ) : Type 0 where
  pub each : (fact : Fact) (test : ℕ → Bool) → list_any test (numbers_at table fact) ≡ list_any (λ node. has_fact (facts_of nodes node) fact && test node) (range_with_len 0 count)

-- The graph in flat tables: the facts of each node, its predecessors, the nodes that it is to hold directly before, whether it is a goal, and the nodes that have a fact.
pub record AreTables (graph : Content) (facts : List (List Fact)) (before after : List (List ℕ)) (goals : List Bool) (weights : List ℕ) (table : FactTable) : Type 0 where
  pub facts_are : facts ≡ sets_of graph.nodes
  pub before_are : before ≡ map nodes_in graph.rows
  pub before_long : length graph.rows ≡ length graph.nodes
  pub after_are : AreAfter graph after
  pub goals_are : goals ≡ map (λ n. n.goal) graph.nodes
  pub weights_long : length weights ≡ length graph.nodes
  pub found : Finds table graph.nodes (length graph.nodes)
