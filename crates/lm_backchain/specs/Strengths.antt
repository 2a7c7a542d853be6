-- Orders, as they become the strongest.
use Rattle.std.specs.Prelude.{◌≡◌, ℕ, ◌<◌, ◌⊎◌, List, slice_get, Some}
use Rattle.sas_task.specs.declared.contents.Fact.{Fact}
use Rattle.sas_task.specs.declared.contents.Parts.{Parts}
use Rattle.lm_graph.specs.Graphs.{Content, kind_of}
use Rattle.lm_graph.specs.Nodes.{sets_of}
use Rattle.lm_backchain.specs.Backchain.{IsStrongest}
use Rattle.lm_backchain.specs.Growth.{IsGreedyKind}

-- a pair of places stands before another, by its first and then by its second
abbrev pub IsEarlier : ℕ → ℕ → ℕ → ℕ → Type 0
IsEarlier i j before after = (i < before) ⊎ ((i ≡ before) × (j < after))

-- between the nodes of two places
pub record IsGreedyAt (parts : Parts) (graph : Content) (i j : ℕ) : Type 0 where
  pub kind : (a b : List Fact) → slice_get (sets_of graph.nodes) i ≡ Some a → slice_get (sets_of graph.nodes) j ≡ Some b → IsGreedyKind parts a b (kind_of graph i j)

pub record IsStrongestAt (parts : Parts) (graph : Content) (i j : ℕ) : Type 0 where
  pub kind : (a b : List Fact) → slice_get (sets_of graph.nodes) i ≡ Some a → slice_get (sets_of graph.nodes) j ≡ Some b → IsStrongest parts a b (kind_of graph i j)

-- The orders of the pairs before one, by their first and then by their second place, are the strongest; the third rule has still to be
-- applied to the others.
pub record IsUpTo (parts : Parts) (graph : Content) (before after : ℕ) : Type 0 where
  pub earlier : (i j : ℕ) → IsEarlier i j before after → IsStrongestAt parts graph i j
  pub others : (i j : ℕ) → (IsEarlier i j before after → ⊥) → IsGreedyAt parts graph i j
