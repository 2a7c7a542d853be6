-- What a lawful past keeps. A search may rest on it, as far as its log is lawful.
use Rattle.std.specs.Prelude.{◌≡◌, ℕ, suc, ◌+◌, ◌*◌, ◌<◌, ◌≤◌, true, List, [], ◌∷◌, length, Some, slice_get, sum_by, nat_lt}
use Rattle.std.specs.List.{list_all}
use Rattle.sas_task.specs.declared.contents.CostKind.{CostKind}
use Rattle.sas_task.specs.declared.contents.CostKind.TheVariants.{Normal, One, PlusOne}
use Rattle.sas_task.specs.Runs.{start_of, end_of, states_of, cost_at, cost_of}
use Rattle.open_lists.specs.declared.entry.Entry.{Entry}
use Rattle.search_log.specs.declared.turns.Pop.{Pop}
use Rattle.search_log.specs.Phases.{Phase, adjusted_cost}
use Rattle.lama_num.specs.Bounds.{is_below}
use Rattle.search_log.specs.Places.{Place, Node, Past, latest, place_after}
use Rattle.search_log.specs.Spaces.{IsSettled}

-- the path leads to the state, and the states and the costs are those of the path
pub record OnPath (phase : Phase) (place : Place) : Type 0 where
  pub leads : end_of phase.parts (start_of phase.parts) place.path ≡ Some place.state
  pub settled : IsSettled phase.parts place.state
  pub states : states_of phase.parts (start_of phase.parts) place.path ≡ Some place.states
  pub g : place.g ≡ sum_by (adjusted_cost phase) place.path
  pub real : place.real ≡ cost_of phase.parts place.path

-- the visits are numbered from s on
abbrev pub Numbered : ℕ → List Node → Type 0
Numbered s [] = Unit {0}
Numbered s (n ∷ ns) = (n.number ≡ s) × Numbered (suc s) ns

-- the most that an operator costs by a kind of cost
abbrev pub top_cost : CostKind → ℕ
top_cost Normal = 2147483647
top_cost One = 1
top_cost PlusOne = 2147483648

-- a visit has the id of its state's latest visit, which has at most its g
pub record HasLatest (nodes : List Node) (n : Node) : Type 0 where
  pub last : Node
  pub at : slice_get (latest nodes) n.visit.id ≡ Some last
  pub state : last.place.state ≡ n.place.state
  pub g : last.place.g ≤ n.place.g

-- An entry that waits: its visit was expanded and put it below the bound, and from the latest visit of that state it leads on.
pub record LeadsOn (phase : Phase) (past : Past) (entry : Entry) : Type 0 where
  pub parent : Node
  pub at : slice_get past.nodes entry.parent ≡ Some parent
  pub below : is_below phase.setting.bound (parent.place.real + cost_at phase.parts entry.op) ≡ true
  pub from : Node
  pub at_from : slice_get (latest past.nodes) parent.visit.id ≡ Some from
  pub state : from.place.state ≡ parent.place.state
  pub to : Place
  pub there : place_after phase from.place entry.op ≡ Some to

pub record Sound (phase : Phase) (past : Past) : Type 0 where
  pub begun : 0 < length past.nodes
  pub numbered : Numbered 0 past.nodes
  -- the latest visits stand by their ids, and are visits
  pub ids : (i : ℕ) (n : Node) → slice_get (latest past.nodes) i ≡ Some n → n.visit.id ≡ i
  pub visits : (i : ℕ) (n : Node) → slice_get (latest past.nodes) i ≡ Some n → slice_get past.nodes n.number ≡ Some n
  pub have_latest : (j : ℕ) (n : Node) → slice_get past.nodes j ≡ Some n → HasLatest past.nodes n
  -- no state has two ids
  pub once : (i j : ℕ) (m n : Node) → slice_get (latest past.nodes) i ≡ Some m → slice_get (latest past.nodes) j ≡ Some n → m.place.state ≡ n.place.state → i ≡ j
  pub start : (n : Node) × (slice_get (latest past.nodes) 0 ≡ Some n) × (n.place.state ≡ start_of phase.parts) × (n.place.real ≡ 0) × (n.place.g ≡ 0)
  pub paths : (j : ℕ) (n : Node) → slice_get past.nodes j ≡ Some n → OnPath phase n.place
  pub below : (j : ℕ) (n : Node) → slice_get past.nodes j ≡ Some n → is_below phase.setting.bound n.place.real ≡ true
  -- A new state's g is at most a step's above its origin's, and a visit again has less g. So g is bounded by the number of states.
  pub small : (j : ℕ) (n : Node) → slice_get past.nodes j ≡ Some n → n.place.g ≤ length (latest past.nodes) * top_cost phase.setting.cost
  pub few : length (latest past.nodes) ≤ phase.setting.most_states
  -- a path has at most as many operators as there are visits before
  pub short : (j : ℕ) (n : Node) → slice_get past.nodes j ≡ Some n → length n.place.path ≤ j
  pub taken : list_all (λ (p : Pop). nat_lt p.parent (length past.nodes)) past.pops ≡ true
