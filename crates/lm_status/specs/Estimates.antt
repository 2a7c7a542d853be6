-- The landmark estimate.
use Rattle.std.specs.Prelude.{ℕ, ◌+◌, List, length, Bool, false, ◌&&◌, ◌||◌, not, min, map, filter, sum_by, slice_index, slice_index_or, Option, Some, None, if◌then◌else◌}
use Rattle.std.specs.List.{list_any, range_with_len}
use Rattle.sas_task.specs.Costs.{is_unit_cost}
use Rattle.sas_task.specs.declared.contents.CostKind.{CostKind}
use Rattle.sas_task.specs.declared.contents.CostKind.TheVariants.{Normal, One, PlusOne}
use Rattle.sas_task.specs.declared.contents.Parts.{Parts}
use Rattle.lm_graph.specs.declared.nodes.Node.{Node}
use Rattle.lm_graph.specs.declared.orders.Order.TheVariants.{GreedyNecessary}
use Rattle.lm_graph.specs.Orders.{is_strong}
use Rattle.lm_graph.specs.Graphs.{Content, kind_of}
use Rattle.lm_status.specs.Accepted.{holds_at}
use Rattle.lama_num.specs.declared.estimates.TheConstants.{LARGEST_ESTIMATE}

-- the numbers of the nodes
abbrev pub nodes_of : Content → List ℕ
nodes_of graph = range_with_len 0 (length graph.nodes)

abbrev pub is_goal_at : List Node → ℕ → Bool
is_goal_at nodes node = slice_index_or (map (λ n. n.goal) nodes) node false

-- the nodes that a node is to hold directly before
abbrev pub after_of : Content → ℕ → List ℕ
after_of graph node = filter (λ m. is_strong GreedyNecessary (kind_of graph node m)) (nodes_of graph)

-- required again: accepted, but false, and a goal or to hold directly before a node that isn't accepted
abbrev pub is_again : Content → (ℕ → Bool) → List ℕ → ℕ → Bool
is_again graph accepted state node =
    accepted node && (not (holds_at graph state node) && (is_goal_at graph.nodes node || list_any (λ m. not (accepted m)) (after_of graph node)))

-- not accepted, or required again
abbrev pub is_open : Content → (ℕ → Bool) → List ℕ → ℕ → Bool
is_open graph accepted state node = not (accepted node) || is_again graph accepted state node

-- the sum of the weights of the open nodes, at most 1,000,000,000
abbrev pub landmark_estimate : Content → List ℕ → (ℕ → Bool) → List ℕ → ℕ
landmark_estimate graph weights accepted state = min (sum_by (slice_index weights) (filter (is_open graph accepted state) (nodes_of graph))) LARGEST_ESTIMATE

-- a cost by a kind of cost
abbrev pub adjusted : Parts → CostKind → ℕ → ℕ
adjusted parts Normal cost = cost
adjusted parts One cost = 1
adjusted parts PlusOne cost = if is_unit_cost parts then 1 else cost + 1

-- the weight of a node: the least cost of an operator that gives one of its facts, by a kind of cost; 0 where there is none
abbrev pub weight_of : Parts → CostKind → Node → ℕ
weight_of parts kind node = weight node.least
  where
    weight : Option ℕ → ℕ
    weight None = 0
    weight (Some cost) = adjusted parts kind cost
