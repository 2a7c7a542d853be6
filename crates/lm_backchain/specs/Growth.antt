-- Graphs that grow: nodes are taken back in turn.
use Rattle.std.specs.Prelude.{◌≡◌, ℕ, ◌<◌, List, ◌++◌, map, take, length, ◌⊎◌, slice_get, Option, Some, None}
use Rattle.sas_task.specs.declared.contents.Fact.{Fact}
use Rattle.sas_task.specs.declared.contents.Parts.{Parts}
use Rattle.relaxed_task.specs.Facts.{distinct_facts}
use Rattle.lm_graph.specs.declared.orders.Order.{Order}
use Rattle.lm_graph.specs.declared.orders.Order.TheVariants.{GreedyNecessary}
use Rattle.lm_graph.specs.declared.nodes.Added.{Added}
use Rattle.lm_graph.specs.declared.nodes.Added.TheVariants.{New, Known, Full}
use Rattle.lm_graph.specs.Graphs.{Content, kind_of, most_nodes}
use Rattle.lm_graph.specs.Nodes.{sets_of}
use Rattle.lm_backchain.specs.Backchain.{Among, GivesGreedy, IsNode, node_of, singles}

-- the lists are all that a node is taken back to
pub record IsTakenBack (parts : Parts) (b : List Fact) (lists : List (List Fact)) : Type 0 where
  pub each : (a : List Fact) → Among lists a → GivesGreedy parts a b
  pub all : (a : List Fact) → GivesGreedy parts a b → Among lists a

-- of the node at a place
abbrev pub IsTakenBackAt : Parts → Content → ℕ → List (List Fact) → Type 0
IsTakenBackAt parts graph place lists = (b : List Fact) → slice_get (sets_of graph.nodes) place ≡ Some b → IsTakenBack parts b lists

-- each node stays at its place
abbrev pub StayNodes : Content → Content → Type 0
StayNodes old new = (i : ℕ) (facts : List Fact) → slice_get (sets_of old.nodes) i ≡ Some facts → slice_get (sets_of new.nodes) i ≡ Some facts

-- the number of a node that was to be added, if it is there
abbrev pub number_in : Added → Option ℕ
number_in (New number) = Some number
number_in (Known number) = Some number
number_in Full = None

-- the nodes of some goal facts, as far as there is room, without orders
pub record HasGoals (parts : Parts) (goals : List Fact) (graph : Content) : Type 0 where
  pub sets : sets_of graph.nodes ≡ take most_nodes (singles (distinct_facts goals))
  pub nodes_are : graph.nodes ≡ map (node_of parts) (sets_of graph.nodes)
  pub none : (i j : ℕ) → kind_of graph i j ≡ None

-- a node is taken back to some facts: they are a node, if there is room, and this is to hold directly before
pub record Takes (graph : Content) (after : ℕ) (a : List Fact) : Type 0 where
  pub there : length graph.nodes < most_nodes → Among (sets_of graph.nodes) a
  pub ordered : (i : ℕ) → slice_get (sets_of graph.nodes) i ≡ Some a → kind_of graph i after ≡ Some GreedyNecessary

-- a greedy-necessary order that the rules give
pub record IsGreedy (parts : Parts) (graph : Content) (i j : ℕ) : Type 0 where
  pub before : List Fact
  pub after : List Fact
  pub at_before : slice_get (sets_of graph.nodes) i ≡ Some before
  pub at_after : slice_get (sets_of graph.nodes) j ≡ Some after
  pub gives : GivesGreedy parts before after
  pub kind : kind_of graph i j ≡ Some GreedyNecessary

-- The nodes before a place were taken back, and that at the place to some facts.
pub record Works (parts : Parts) (graph : Content) (place : ℕ) (done : List (List Fact)) : Type 0 where
  pub goals : (rest : List (List Fact)) × (sets_of graph.nodes ≡ take most_nodes (singles (distinct_facts parts.goal)) ++ rest)
  pub nodes_are : graph.nodes ≡ map (node_of parts) (sets_of graph.nodes)
  pub found : (facts : List Fact) → Among (sets_of graph.nodes) facts → IsNode parts facts
  pub orders : (i j : ℕ) (kind : Order) → kind_of graph i j ≡ Some kind → IsGreedy parts graph i j
  pub taken : (j : ℕ) (a b : List Fact) → j < place → slice_get (sets_of graph.nodes) j ≡ Some b → GivesGreedy parts a b → Takes graph j a
  pub under_way : (a : List Fact) → Among done a → Takes graph place a

-- the order from a node to another is the greedy-necessary one, or none where the first two rules give none
abbrev pub IsGreedyKind : Parts → List Fact → List Fact → Option Order → Type 0
IsGreedyKind parts a b kind = ((kind ≡ Some GreedyNecessary) × GivesGreedy parts a b) ⊎ ((kind ≡ None) × (GivesGreedy parts a b → ⊥))
