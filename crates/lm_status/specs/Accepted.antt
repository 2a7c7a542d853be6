-- Which landmarks are accepted along a path.
use Rattle.std.specs.Prelude.{ℕ, List, Bool, false, ◌&&◌, ◌||◌, map}
use Rattle.std.specs.List.{list_all, list_any, fold}
use Rattle.lama_num.specs.Rows.{row_at}
use Rattle.sas_task.specs.declared.contents.Fact.{Fact}
use Rattle.sas_task.specs.States.{holds}
use Rattle.lm_graph.specs.declared.nodes.Node.{Node}
use Rattle.lm_graph.specs.declared.orders.Edge.{Edge}
use Rattle.lm_graph.specs.Nodes.{sets_of}
use Rattle.lm_graph.specs.Graphs.{Content, row_of}

-- the facts of a node; a number of no node has none
abbrev pub facts_of : List Node → ℕ → List Fact
facts_of nodes node = row_at (sets_of nodes) node

-- a node holds where one of its facts does
abbrev pub holds_at : Content → List ℕ → ℕ → Bool
holds_at graph state node = list_any (holds state) (facts_of graph.nodes node)

-- the nodes of edges
abbrev pub nodes_in : List Edge → List ℕ
nodes_in row = map (λ e. e.node) row

-- the predecessors of a node, by any order
abbrev pub before_of : Content → ℕ → List ℕ
before_of graph node = nodes_in (row_of graph.rows node)

-- it holds, and all its predecessors were accepted
abbrev pub opens : Content → (ℕ → Bool) → List ℕ → ℕ → Bool
opens graph accepted state node = holds_at graph state node && list_all accepted (before_of graph node)

-- accepted after one more state
abbrev pub accepted_next : Content → (ℕ → Bool) → List ℕ → ℕ → Bool
accepted_next graph accepted state node = accepted node || opens graph accepted state node

-- Accepted along the states of a path, the oldest first: none before the first.
abbrev pub accepted : Content → List (List ℕ) → ℕ → Bool
accepted graph states = fold (accepted_next graph) (λ node. false) states
