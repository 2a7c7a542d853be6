-- How nodes stand for branches and for operators at nodes.
use Rattle.std.specs.Prelude.{◌≡◌, ℕ, ◌+◌, ◌<◌, ◌≤◌, List, length, slice_get, Some}
use Rattle.succ_gen.specs.declared.growing.Branch.{Branch}
use Rattle.succ_gen.specs.declared.growing.Home.{Home}
use Rattle.succ_gen.specs.declared.nodes.Node.{Node}
use Rattle.succ_gen.specs.Growing.{parent_of, node_of}

-- the keys before a place are below a number
pub record IsBelow {X : Type 0} (key : X → ℕ) (xs : List X) (number place : ℕ) : Type 0 where
  pub within : place ≤ length xs
  pub before : (k : ℕ) (x : X) → slice_get xs k ≡ Some x → k < place → key x < number

-- and those from there on aren't
pub record IsCut {X : Type 0} (key : X → ℕ) (xs : List X) (number place : ℕ) : Type 0 where
  pub below : IsBelow key xs number place
  pub after : (k : ℕ) (x : X) → slice_get xs k ≡ Some x → place ≤ k → number ≤ key x

-- the nodes from one to before another are children of one node, by facts on one variable
pub record IsRun (branches : List Branch) (from to : ℕ) : Type 0 where
  pub inside : to ≤ length branches + 1
  pub same : (c d : ℕ) (a b : Branch) → from ≤ c + 1 → c ≤ d → d + 1 < to → slice_get branches c ≡ Some a → slice_get branches d ≡ Some b → (a.parent ≡ b.parent) × (a.fact.var ≡ b.fact.var)

-- what a node has by its number
pub record IsNodeAt (branches : List Branch) (homes : List Home) (n : ℕ) (node : Node) : Type 0 where
  pub fact : (c : ℕ) (b : Branch) → n ≡ c + 1 → slice_get branches c ≡ Some b → node.fact ≡ b.fact
  pub group : (c : ℕ) → n ≡ c + 1 → c < length branches → n < node.group_end
  pub run : IsRun branches n node.group_end
  pub child : ℕ
  pub children : node.children ≡ child + 1
  pub children_cut : IsCut parent_of branches n child
  pub operators_cut : IsCut node_of homes n node.operators

-- the root, a node for each branch, and one more
pub record AreNodes (branches : List Branch) (homes : List Home) (nodes : List Node) : Type 0 where
  pub long : length nodes ≡ length branches + 2
  pub each : (n : ℕ) (node : Node) → slice_get nodes n ≡ Some node → IsNodeAt branches homes n node
