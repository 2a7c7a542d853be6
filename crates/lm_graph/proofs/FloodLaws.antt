-- Laws of Marks.
use Rattle.std.specs.Prelude.{◌≡◌, ℕ, ◌<◌, List, length, Bool, true, slice_get, Some}
use Rattle.lm_graph.specs.declared.orders.Order.{Order}
use Rattle.lm_graph.specs.declared.orders.Edge.{Edge}
use Rattle.lm_graph.specs.Orders.{is_strong}
use Rattle.lm_graph.specs.Paths.{Path}
use Rattle.lm_graph.specs.Marks.{is_seen, InStep, kinds_in}

-- The numbers that lead to the last one are marked, as far as the list was gone through.
pub record Floods (rows : List (List Edge)) (weakest : Order) (last : ℕ) (seen : List Bool) (queue : List ℕ) (place : ℕ) : Type 0 where
  pub in_step : InStep seen queue
  pub long : length seen ≡ length rows
  pub sound : (i : ℕ) → is_seen seen i ≡ true → Path (kinds_in rows) weakest i last
  pub first : (i : ℕ) → is_strong weakest (kinds_in rows i last) ≡ true → is_seen seen i ≡ true
  pub expanded : (q i j : ℕ) → q < place → slice_get queue q ≡ Some j → is_strong weakest (kinds_in rows i j) ≡ true → is_seen seen i ≡ true
