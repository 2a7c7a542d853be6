-- Nodes of a graph.
use Rattle.std.specs.Prelude.{◌≡◌, ◌≢◌, ℕ, List, [], ◌∷◌, length, map, Bool, true, ◌&&◌, ◌||◌, nat_eq, nat_lt, nat_le, Option, Some, None, slice_get, slice_set}
use Rattle.sas_task.specs.declared.contents.Fact.{Fact}
use Rattle.lm_graph.specs.declared.nodes.Node.{Node}

-- facts by their variable, and then by their value
abbrev pub is_less : Fact → Fact → Bool
is_less a b = nat_lt a.var b.var || (nat_eq a.var b.var && nat_lt a.val b.val)

-- each once and in ascending order
abbrev pub is_ascending : List Fact → Bool
is_ascending [] = true
is_ascending (a ∷ []) = true
is_ascending (a ∷ b ∷ facts) = is_less a b && is_ascending (b ∷ facts)

-- 1 to 4 facts, each once and in ascending order
abbrev pub is_set : List Fact → Bool
is_set facts = (nat_le 1 (length facts) && nat_le (length facts) 4) && is_ascending facts

-- the facts of each node
abbrev pub sets_of : List Node → List (List Fact)
sets_of nodes = map (λ n. n.facts) nodes

-- no node has these facts
pub record IsAbsent (nodes : List Node) (facts : List Fact) : Type 0 where
  pub each : (place : ℕ) → slice_get (sets_of nodes) place ≢ Some facts

-- no two nodes have the same facts
pub record AreDistinct (nodes : List Node) : Type 0 where
  pub each : (i j : ℕ) (facts : List Fact) → slice_get (sets_of nodes) i ≡ Some facts → slice_get (sets_of nodes) j ≡ Some facts → i ≡ j

-- the nodes, where the one of a place is also a goal if so
abbrev pub with_goal : List Node → ℕ → Bool → List Node
with_goal nodes place goal = at (slice_get nodes place)
  where
    at : Option Node → List Node
    at None = nodes
    at (Some node) = slice_set nodes place (record node { goal = node.goal || goal })
