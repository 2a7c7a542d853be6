-- Landmarks and their orders, over the runs of all plans.
use Rattle.std.specs.Prelude.{◌≡◌, ℕ, ◌<◌, ◌≤◌, List, Bool, true, false, suc, slice_get, Some}
use Rattle.std.specs.List.{list_any}
use Rattle.sas_task.specs.Runs.{start_of, states_of, IsPlan}
use Rattle.sas_task.specs.States.{holds}
use Rattle.sas_task.specs.declared.contents.Fact.{Fact}
use Rattle.sas_task.specs.declared.contents.Parts.{Parts}

-- A node, as the facts of which one is to hold, holds in a state.
abbrev pub node_holds : List ℕ → List Fact → Bool
node_holds state node = list_any (holds state) node

-- The operators are a plan, and these are the states of its run from the initial one.
pub record IsPlanRun (parts : Parts) (ops : List ℕ) (states : List (List ℕ)) : Type 0 where
  pub plan : IsPlan parts ops
  pub run : states_of parts (start_of parts) ops ≡ Some states

-- the node holds in the state at a place
pub record HoldsAt (states : List (List ℕ)) (node : List Fact) (place : ℕ) : Type 0 where
  pub state : List ℕ
  pub at : slice_get states place ≡ Some state
  pub holds : node_holds state node ≡ true

-- and in no state before
pub record HoldsFirstAt (states : List (List ℕ)) (node : List Fact) (place : ℕ) : Type 0 where
  pub here : HoldsAt states node place
  pub before : (i : ℕ) (state : List ℕ) → i < place → slice_get states i ≡ Some state → node_holds state node ≡ false

-- every plan's run has a state in which the node holds
abbrev pub Landmark : Parts → List Fact → Type 0
Landmark parts a = (ops : List ℕ) (states : List (List ℕ)) → IsPlanRun parts ops states → (i : ℕ) × HoldsAt states a i

-- In every plan's run, where b holds first at a place past the start, a holds in the state directly before.
abbrev pub GreedyNecessary : Parts → List Fact → List Fact → Type 0
GreedyNecessary parts a b = (ops : List ℕ) (states : List (List ℕ)) → IsPlanRun parts ops states →
    (i : ℕ) → HoldsFirstAt states b (suc i) → HoldsAt states a i

-- There a holds in some state before.
abbrev pub Natural : Parts → List Fact → List Fact → Type 0
Natural parts a b = (ops : List ℕ) (states : List (List ℕ)) → IsPlanRun parts ops states →
    (i : ℕ) → HoldsFirstAt states b (suc i) → (k : ℕ) × (k ≤ i) × HoldsAt states a k
