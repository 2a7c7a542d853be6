-- Marked numbers, with the list of them in the order in which they were marked.
use Rattle.std.specs.Prelude.{◌≡◌, ℕ, ◌<◌, List, ◌++◌, length, Bool, true, false, ◌||◌, ◌&&◌, nat_eq, unwrap_or, count_by, slice_get, Option, Some}
use Rattle.std.specs.List.{list_any}
use Rattle.lm_graph.specs.declared.orders.Order.{Order}
use Rattle.lm_graph.specs.declared.orders.Edge.{Edge}
use Rattle.lm_graph.specs.Orders.{is_strong}
use Rattle.lm_graph.specs.Rows.{kind_in}
use Rattle.lm_graph.specs.Graphs.{row_of}

abbrev pub is_seen : List Bool → ℕ → Bool
is_seen seen i = unwrap_or (slice_get seen i) false

-- the edge comes from the number, and is at least that strong
abbrev pub takes : Order → ℕ → Edge → Bool
takes weakest i edge = nat_eq edge.node i && is_strong weakest (Some edge.kind)

-- some edge of the row does
abbrev pub is_taken : List Edge → Order → ℕ → Bool
is_taken row weakest i = list_any (takes weakest i) row

-- the list has just the marked numbers, each once
pub record InStep (seen : List Bool) (queue : List ℕ) : Type 0 where
  pub queued : (i : ℕ) → is_seen seen i ≡ true → (q : ℕ) × (slice_get queue q ≡ Some i)
  pub marked : (q i : ℕ) → slice_get queue q ≡ Some i → is_seen seen i ≡ true
  pub count : length queue ≡ count_by (λ b. b) seen

-- the numbers of a test were marked, and no others
pub record Marks (seen : List Bool) (queue : List ℕ) (test : ℕ → Bool) (now : List Bool) (list : List ℕ) : Type 0 where
  pub in_step : InStep now list
  pub long : length now ≡ length seen
  pub same : (i : ℕ) → is_seen now i ≡ (is_seen seen i || test i)
  pub more : List ℕ
  pub goes_on : list ≡ queue ++ more

-- the orders of rows: from a number to another, in the row of the second
abbrev pub kinds_in : List (List Edge) → ℕ → ℕ → Option Order
kinds_in rows before after = kind_in (row_of rows after) before

-- orders come from numbers of rows
pub record AreWithin (rows : List (List Edge)) : Type 0 where
  pub each : (i j : ℕ) (kind : Order) → kinds_in rows i j ≡ Some kind → i < length rows
