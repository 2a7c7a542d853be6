-- What a walk through a tree comes to.
use Rattle.std.specs.Prelude.{◌≡◌, ℕ, ◌+◌, ◌-◌, ◌<◌, ◌≤◌, List, length, filter, Option, Some, None}
use Rattle.std.specs.List.{All, Contains, range_with_len}
use Rattle.sas_task.specs.States.{holds}
use Rattle.succ_gen.specs.declared.nodes.Node.{Node}
use Rattle.succ_gen.specs.Trees.{node_at, IsFound}

-- the values rise from node to node
pub record Rises (nodes : List Node) (from to : ℕ) : Type 0 where
  pub inside : to ≤ length nodes
  pub rising : (i d : ℕ) → from ≤ i → i + d < to → (node_at nodes i).fact.val + d ≤ (node_at nodes (i + d)).fact.val

-- the node that has a value, of those from one to before another; none where none has it
abbrev pub IsSought : List Node → ℕ → ℕ → ℕ → Option ℕ → Type 0
IsSought nodes from to value (Some m) = (from ≤ m) × (m < to) × ((node_at nodes m).fact.val ≡ value)
IsSought nodes from to value None = (m : ℕ) → from ≤ m → m < to → (node_at nodes m).fact.val ≡ value → ⊥

-- the nodes from one to before another whose facts hold
abbrev pub opened : List Node → List ℕ → ℕ → ℕ → List ℕ
opened nodes state from to = filter (λ m. holds state (node_at nodes m).fact) (range_with_len from (to - from))

-- the children of a node whose facts hold
abbrev pub open_children : List Node → List ℕ → ℕ → List ℕ
open_children nodes state n = opened nodes state (node_at nodes n).children (node_at nodes (n + 1)).children

-- the operators are those that stand at nodes that the state opens
pub record AreFound (nodes : List Node) (operators state found : List ℕ) : Type 0 where
  pub only : All (IsFound nodes operators state) found
  pub all : (op : ℕ) → IsFound nodes operators state op → Contains found op
