-- Paths of orders.
use Rattle.std.specs.Prelude.{◌≡◌, ℕ, true, Option}
use Rattle.lm_graph.specs.declared.orders.Order.{Order}
use Rattle.lm_graph.specs.Orders.{is_strong}
use Rattle.lm_graph.specs.Graphs.{Content, kind_of}

-- a path of one or more orders, each at least that strong
pub data Path (kinds : ℕ → ℕ → Option Order) (weakest : Order) : ℕ → ℕ → Type 0 where
  one : {i j : ℕ} → is_strong weakest (kinds i j) ≡ true → Path kinds weakest i j
  more : {i j k : ℕ} → is_strong weakest (kinds i j) ≡ true → Path kinds weakest j k → Path kinds weakest i k

-- such a path leads from a node to another
abbrev pub HasPath : Content → Order → ℕ → ℕ → Type 0
HasPath graph weakest before after = Path (kind_of graph) weakest before after
