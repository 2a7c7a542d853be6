-- Orders between one node and others, as a row of edges.
use Rattle.std.specs.Prelude.{◌≡◌, ◌≢◌, ℕ, ◌<◌, ◌≤◌, List, [], ◌∷◌, length, nat_eq, if◌then◌else◌, slice_index_or, Option, Some, None}
use Rattle.lm_graph.specs.declared.orders.Order.{Order}
use Rattle.lm_graph.specs.declared.orders.Order.TheVariants.{Reasonable}
use Rattle.lm_graph.specs.declared.orders.Edge.{Edge}
use Rattle.lm_graph.specs.Orders.{stronger}

-- the order of a node, if an edge of the row has it
abbrev pub kind_in : List Edge → ℕ → Option Order
kind_in [] node = None
kind_in (edge ∷ row) node = if nat_eq edge.node node then Some edge.kind else kind_in row node

-- what a read past the end of a row would give
abbrev pub past_end : Edge
past_end = record { node = 0; kind = Reasonable }

-- the node of the edge at a place
abbrev pub node_at : List Edge → ℕ → ℕ
node_at row place = (slice_index_or row place past_end).node

-- the edges have ascending nodes, so no node twice
pub record IsAscending (row : List Edge) : Type 0 where
  pub each : (i j : ℕ) → i < j → j < length row → node_at row i < node_at row j

-- the edge at a place has the node
pub record IsAt (row : List Edge) (node place : ℕ) : Type 0 where
  pub within : place < length row
  pub here : node_at row place ≡ node

-- an edge of the node would go to a place
pub record IsGapFor (row : List Edge) (node place : ℕ) : Type 0 where
  pub within : place ≤ length row
  pub below : (i : ℕ) → i < place → node_at row i < node
  pub above : (i : ℕ) → place ≤ i → i < length row → node < node_at row i

-- Of the order of one node the stronger one stays, and the others stay as they were.
pub record Raises (old new : List Edge) (node : ℕ) (kind : Order) : Type 0 where
  pub here : kind_in new node ≡ Some (stronger (kind_in old node) kind)
  pub others : (other : ℕ) → other ≢ node → kind_in new other ≡ kind_in old other
