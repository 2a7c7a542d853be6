-- How strong orders are.
use Rattle.std.specs.Prelude.{ℕ, Bool, nat_lt, nat_le, if◌then◌else◌, Option, Some, None}
use Rattle.lm_graph.specs.declared.orders.Order.{Order}
use Rattle.lm_graph.specs.declared.orders.Order.TheVariants.{Reasonable, Natural, GreedyNecessary}

-- how strong an order is, from the weakest
abbrev pub strength_of : Order → ℕ
strength_of Reasonable = 1
strength_of Natural = 2
strength_of GreedyNecessary = 3

-- 0 where there is none
abbrev pub strength : Option Order → ℕ
strength None = 0
strength (Some kind) = strength_of kind

-- the stronger of the order that stands, if one does, and another
abbrev pub stronger : Option Order → Order → Order
stronger None kind = kind
stronger (Some old) kind = if nat_lt (strength_of old) (strength_of kind) then kind else old

-- an order stands that is at least so strong
abbrev pub is_strong : Order → Option Order → Bool
is_strong weakest kind = nat_le (strength_of weakest) (strength kind)
