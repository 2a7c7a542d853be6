-- Rows of orders that are turned round.
use Rattle.std.specs.Prelude.{◌≡◌, ◌≢◌, ℕ, List, length, Option}
use Rattle.lm_graph.specs.declared.orders.Order.{Order}
use Rattle.lm_graph.specs.declared.orders.Edge.{Edge}
use Rattle.lm_graph.specs.Graphs.{Content, row_of, kind_of}
use Rattle.lm_graph.specs.Rows.{kind_in}

-- the orders of rows: from a number, in whose row they are, to another
abbrev pub kinds_from : List (List Edge) → ℕ → ℕ → Option Order
kinds_from rows before after = kind_in (row_of rows before) after

-- the edges of a row were put to the nodes that they come from
pub record TurnsRow (old new : List (List Edge)) (row : List Edge) (after : ℕ) : Type 0 where
  pub long : length new ≡ length old
  pub here : (before : ℕ) → kinds_from new before after ≡ kind_in row before
  pub others : (before other : ℕ) → other ≢ after → kinds_from new before other ≡ kinds_from old before other

-- the second rows have the orders of the first, by the node that they come from
pub record IsTurned (rows turned : List (List Edge)) : Type 0 where
  pub long : length turned ≡ length rows
  pub same : (before after : ℕ) → kinds_from turned before after ≡ kind_in (row_of rows after) before

-- the orders of a graph, by the node that they come from
pub record AreSuccessors (graph : Content) (rows : List (List Edge)) : Type 0 where
  pub long : length rows ≡ length graph.nodes
  pub same : (before after : ℕ) → kinds_from rows before after ≡ kind_of graph before after
