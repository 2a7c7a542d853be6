-- Graphs: nodes, and the orders between them.
use Rattle.std.specs.Prelude.{◌≡◌, ◌≢◌, ℕ, ◌<◌, ◌≤◌, List, [], ◌∷◌, ◌++◌, length, Option, Some, slice_get, slice_set, slice_index_or, IsTrue}
use Rattle.std.specs.List.{list_all}
use Rattle.lm_graph.specs.declared.orders.Order.{Order}
use Rattle.lm_graph.specs.declared.orders.Edge.{Edge}
use Rattle.lm_graph.specs.declared.nodes.Node.{Node}
use Rattle.lm_graph.specs.declared.nodes.Added.{Added}
use Rattle.lm_graph.specs.declared.nodes.Added.TheVariants.{New, Known, Full}
use Rattle.lm_graph.specs.Nodes.{is_set, sets_of, IsAbsent, AreDistinct, with_goal}
use Rattle.lm_graph.specs.Orders.{stronger}
use Rattle.lm_graph.specs.Rows.{kind_in, Raises}
use Rattle.lm_graph.specs.declared.graph.TheConstants.{MOST_NODES}

-- What contracts see of a graph: its nodes, and for each the edges that lead to it.
pub record Content : Type 0 where
  pub nodes : List Node
  pub rows : List (List Edge)

abbrev pub content : List Node → List (List Edge) → Content
content nodes rows = record { nodes = nodes; rows = rows }

-- the edges that lead to a node; none to a number that is no node's
abbrev pub row_of : List (List Edge) → ℕ → List Edge
row_of rows after = slice_index_or rows after []

-- an order of a node was put into the row of another
pub record RaisesAt (old new : List (List Edge)) (other node : ℕ) (kind : Order) : Type 0 where
  pub row : List Edge
  pub rows : new ≡ slice_set old node row
  pub raises : Raises (row_of old node) row other kind

-- the order from a node to another, if one stands
abbrev pub kind_of : Content → ℕ → ℕ → Option Order
kind_of graph before after = kind_in (row_of graph.rows after) before

-- two different numbers below one
pub record IsPair (n i j : ℕ) : Type 0 where
  pub first : i < n
  pub second : j < n
  pub different : i ≢ j

-- as many nodes as a graph may have
abbrev pub most_nodes : ℕ
most_nodes = MOST_NODES

-- What holds of every graph: each node is a set of facts, no set is two nodes, and orders stand between different nodes.
pub record IsGraph (graph : Content) : Type 0 where
  pub few : length graph.nodes ≤ most_nodes
  pub sets : IsTrue (list_all is_set (sets_of graph.nodes))
  pub distinct : AreDistinct graph.nodes
  pub long : length graph.rows ≡ length graph.nodes
  pub between : (i j : ℕ) (kind : Order) → kind_of graph i j ≡ Some kind → IsPair (length graph.nodes) i j

-- the orders are the same
abbrev pub SameOrders : Content → Content → Type 0
SameOrders old new = (i j : ℕ) → kind_of new i j ≡ kind_of old i j

-- The node is new: it goes to the end, and has no order yet.
pub record AddsNew (old new : Content) (node : Node) (place : ℕ) : Type 0 where
  pub absent : IsAbsent old.nodes node.facts
  pub room : length old.nodes < most_nodes
  pub place_is : place ≡ length old.nodes
  pub nodes : new.nodes ≡ old.nodes ++ node ∷ []
  pub orders : SameOrders old new

-- A node with these facts is there: it is a goal as well, if so.
pub record FindsKnown (old new : Content) (node : Node) (place : ℕ) : Type 0 where
  pub there : slice_get (sets_of old.nodes) place ≡ Some node.facts
  pub nodes : new.nodes ≡ with_goal old.nodes place node.goal
  pub orders : SameOrders old new

-- The node isn't there, and as many as there may be are.
pub record IsFull (old new : Content) (node : Node) : Type 0 where
  pub absent : IsAbsent old.nodes node.facts
  pub most : length old.nodes ≡ most_nodes
  pub same : new ≡ old

-- what adding a node did
abbrev pub Adds : Content → Content → Node → Added → Type 0
Adds old new node (New place) = AddsNew old new node place
Adds old new node (Known place) = FindsKnown old new node place
Adds old new node Full = IsFull old new node

-- Of the order from a node to another the stronger one stays; all else is as it was.
pub record PutsOrder (old new : Content) (before after : ℕ) (kind : Order) : Type 0 where
  pub nodes : new.nodes ≡ old.nodes
  pub here : kind_of new before after ≡ Some (stronger (kind_of old before after) kind)
  pub others : (i j : ℕ) → (i ≡ before → j ≡ after → ⊥) → kind_of new i j ≡ kind_of old i j
