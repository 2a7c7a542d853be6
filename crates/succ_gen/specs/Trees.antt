-- Trees of operators, and which operators a state opens.
use Rattle.std.specs.Prelude.{◌≡◌, ℕ, ◌+◌, ◌<◌, ◌≤◌, List, length, IsTrue, filter, slice_index_or, slice_range}
use Rattle.std.specs.List.{Contains, range_with_len}
use Rattle.sas_task.specs.States.{holds, is_applicable}
use Rattle.sas_task.specs.declared.contents.Parts.{Parts}
use Rattle.succ_gen.specs.declared.nodes.Node.{Node}

-- the operators that are applicable in a state, ascending
abbrev pub applicable : Parts → List ℕ → List ℕ
applicable parts state = filter (is_applicable parts state) (range_with_len 0 (length parts.operators))

-- what a tree keeps: its nodes and one more behind them, the operators that stand at them, and for how many nodes a walk has room
pub record Stored : Type 0 where
  pub nodes : List Node
  pub operators : List ℕ
  pub room : ℕ

-- a node by its number
abbrev pub node_at : List Node → ℕ → Node
node_at nodes n = slice_index_or nodes n (record { fact = record { var = 0; val = 0 }; group_end = 0; children = 0; operators = 0 })

-- a node of a tree has another as a child
pub record IsChild (nodes : List Node) (n m : ℕ) : Type 0 where
  pub inside : n + 1 < length nodes
  pub from : (node_at nodes n).children ≤ m
  pub to : m < (node_at nodes (n + 1)).children

-- A state opens the root; and of a node that it opens, the children whose facts hold.
pub data IsOpen (nodes : List Node) (state : List ℕ) : ℕ → Type 0 where
  root : IsOpen nodes state 0
  child : (n m : ℕ) → IsOpen nodes state n → IsChild nodes n m → IsTrue (holds state (node_at nodes m).fact) → IsOpen nodes state m

-- the operators that stand at a node
abbrev pub operators_of : List Node → List ℕ → ℕ → List ℕ
operators_of nodes operators n = slice_range operators (node_at nodes n).operators (node_at nodes (n + 1)).operators

-- an operator stands at a node that a state opens
pub record IsFound (nodes : List Node) (operators state : List ℕ) (op : ℕ) : Type 0 where
  pub node : ℕ
  pub inside : node + 1 < length nodes
  pub opens : IsOpen nodes state node
  pub stands : Contains (operators_of nodes operators node) op

-- The children of the nodes follow one another. Those of one node come in groups, of a variable each, with rising values.
pub record IsTree (nodes : List Node) : Type 0 where
  pub some : 1 < length nodes
  pub first : (n : ℕ) → n < length nodes → 0 < (node_at nodes n).children
  pub children : (i j : ℕ) → i ≤ j → j < length nodes → (node_at nodes i).children ≤ (node_at nodes j).children
  pub operators : (i j : ℕ) → i ≤ j → j < length nodes → (node_at nodes i).operators ≤ (node_at nodes j).operators
  pub few : (n : ℕ) → n < length nodes → (node_at nodes n).children < length nodes
  pub onwards : (m : ℕ) → 0 < m → m + 1 < length nodes → m < (node_at nodes m).group_end
  pub within : (n m : ℕ) → IsChild nodes n m → (node_at nodes m).group_end ≤ (node_at nodes (n + 1)).children
  pub same : (m q : ℕ) → 0 < m → m + 1 < length nodes → m ≤ q → q < (node_at nodes m).group_end → (node_at nodes q).fact.var ≡ (node_at nodes m).fact.var
  pub rising : (m i d : ℕ) → 0 < m → m + 1 < length nodes → m ≤ i → i + d < (node_at nodes m).group_end → (node_at nodes i).fact.val + d ≤ (node_at nodes (i + d)).fact.val

-- the facts of the nodes are of so many variables
pub record HasVariables (nodes : List Node) (variables : ℕ) : Type 0 where
  pub below : (m : ℕ) → 0 < m → m + 1 < length nodes → (node_at nodes m).fact.var < variables

-- what stands at the nodes are so many operators
pub record AreInside (nodes : List Node) (operators : ℕ) : Type 0 where
  pub inside : (n : ℕ) → n < length nodes → (node_at nodes n).operators ≤ operators

-- The tree was made for the task: each operator stands just at nodes that a state opens where it is applicable. Callers hand this on,
-- and need no more of it.
pub record IsFor (tree : Stored) (parts : Parts) : Type 0 where
  pub shape : IsTree tree.nodes
  pub variables : HasVariables tree.nodes (length parts.variables)
  pub inside : AreInside tree.nodes (length tree.operators)
  pub few : length tree.operators ≡ length parts.operators
  pub room : length tree.nodes ≤ tree.room + 1
  pub found : (state : List ℕ) (op : ℕ) → IsTrue (is_applicable parts state op) → IsFound tree.nodes tree.operators state op
  pub only : (state : List ℕ) (op : ℕ) → IsFound tree.nodes tree.operators state op → IsTrue (is_applicable parts state op)
