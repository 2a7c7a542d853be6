-- Nodes of one fact, and which facts are reached without them.
use Rattle.std.specs.Prelude.{◌≡◌, ℕ, List, [], ◌∷◌, ◌++◌, true, ◌↔◌, slice_get, Option, Some, None}
use Rattle.sas_task.specs.Runs.{start_of}
use Rattle.sas_task.specs.WellFormed.{is_fact}
use Rattle.sas_task.specs.declared.contents.Fact.{Fact}
use Rattle.sas_task.specs.declared.contents.Parts.{Parts}
use Rattle.relaxed_task.specs.Numbers.{number_of}
use Rattle.relaxed_task.specs.Reached.{IsReached}
use Rattle.bit_rows.specs.Rows.{has}
use Rattle.lm_graph.specs.Graphs.{Content}
use Rattle.lm_graph.specs.Nodes.{sets_of}
use Rattle.lm_backchain.specs.declared.singles.Single.{Single}
use Rattle.lm_backchain.specs.Backchain.{is_open}

-- one fact that isn't derived and doesn't hold in the initial state
pub record IsOpenSingle (parts : Parts) (node : List Fact) : Type 0 where
  pub fact : Fact
  pub one : node ≡ fact ∷ []
  pub are_open : is_open parts node ≡ true

-- a row of bits has the numbers of the facts that are reached without the node
pub record IsReachedRow (parts : Parts) (node : List Fact) (row : List ℕ) : Type 0 where
  pub each : (fact : Fact) → is_fact parts.variables fact ≡ true → (has row (number_of parts.variables fact) ≡ true) ↔ IsReached parts (start_of parts) node fact

-- the number of the fact of such a node, and what is reached without it
pub record IsSingle (parts : Parts) (node : List Fact) (single : Single) : Type 0 where
  pub are_one : IsOpenSingle parts node
  pub there : is_fact parts.variables are_one.fact ≡ true
  pub number : single.number ≡ number_of parts.variables are_one.fact
  pub row : IsReachedRow parts node single.reached

-- what is kept of a node: this, and nothing of another
abbrev pub IsKept : Parts → List Fact → Option Single → Type 0
IsKept parts node None = IsOpenSingle parts node → ⊥
IsKept parts node (Some single) = IsSingle parts node single

-- what is kept of a node was added
pub record Keeps (parts : Parts) (node : List Fact) (old new : List (Option Single)) : Type 0 where
  pub single : Option Single
  pub singles : new ≡ old ++ single ∷ []
  pub kept : IsKept parts node single

-- what is kept of the first nodes of a graph, by their places
pub record AreKept (parts : Parts) (graph : Content) (singles : List (Option Single)) : Type 0 where
  pub each : (place : ℕ) (node : List Fact) (single : Option Single) → slice_get (sets_of graph.nodes) place ≡ Some node → slice_get singles place ≡ Some single → IsKept parts node single

-- of the node at a place
pub record IsSingleAt (parts : Parts) (graph : Content) (place : ℕ) (single : Single) : Type 0 where
  pub node : List Fact
  pub at : slice_get (sets_of graph.nodes) place ≡ Some node
  pub is : IsSingle parts node single
