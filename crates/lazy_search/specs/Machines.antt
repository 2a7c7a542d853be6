-- What a search keeps between its turns stands for the past that its log tells.
use Rattle.std.specs.Prelude.{◌≡◌, ℕ, ◌+◌, ◌^◌, ◌<◌, Bool, true, false, List, [], ◌∷◌, ◌++◌, length, map, slice_get, Option, Some, None}
use Rattle.sas_task.specs.declared.contents.Parts.{Parts}
use Rattle.sas_task.specs.States.{step}
use Rattle.sas_task.specs.Runs.{is_goal, cost_at}
use Rattle.packed_state.specs.Packing.{Places, packed}
use Rattle.open_lists.specs.declared.lists.OpenLists.{OpenLists}
use Rattle.open_lists.specs.declared.entry.Entry.{Entry}
use Rattle.open_lists.specs.Lists.{list_count, is_preferred, boost_of, counter as counter_now, Holds, Pops}
use Rattle.guide.specs.declared.seen.Seen.{Seen}
use Rattle.search_log.specs.Logs.{Visit}
use Rattle.search_log.specs.Phases.{Phase, lists_of, is_for_preferred, adjusted_cost}
use Rattle.search_log.specs.Places.{Place, Node, Past, latest, put_latest, id_of, place_by, past_of}
use Rattle.search_log.specs.Pending.{pending, counter}
use Rattle.search_log.specs.Lawful.{Logged, GoesOn, result_of, is_called_dead}
use Rattle.search_log.specs.Ends.{EndsInGoal, EndsExhausted, EndsFull}
use Rattle.search_log.specs.Guided.{AllFit, TellsDead}
use Rattle.search_log.specs.Counters.{LeastStand}
use Rattle.search_log.specs.declared.turns.PopResult.TheVariants.{Known as IsKnown, Full as IsFull}
use Rattle.lazy_search.specs.declared.rows.LatestVisit.{LatestVisit}
use Rattle.lazy_search.specs.declared.paths.Origin.{Origin}
use Rattle.lazy_search.specs.declared.machine.Machine.{Machine}
use Rattle.lazy_search.specs.declared.steps.Reached.{Reached}
use Rattle.lazy_search.specs.declared.steps.Decision.{Decision}
use Rattle.lazy_search.specs.declared.steps.Decision.TheVariants.{Known, Full, New, Again}
use Rattle.lazy_search.specs.declared.steps.Turned.{Turned}
use Rattle.lazy_search.specs.declared.steps.Turned.TheVariants.{Empty, Done, AtGoal, AtFull}
use Rattle.lazy_search.specs.States.{AreFor}
use Rattle.lazy_search.specs.Outcomes.{outcome_of}

-- the past that a machine's log tells
abbrev pub past_in : Phase → Machine → Past
past_in phase m = past_of phase m.log.visits m.log.pops

-- the row of a state, by its latest visit
abbrev pub row_of : Node → LatestVisit
row_of n = record { g = n.place.g; real = n.place.real; number = n.number; dead = n.visit.seen.dead }

-- the words of a visit's state
abbrev pub packed_at : Places → Node → List ℕ
packed_at layout n = packed layout n.place.state

abbrev pub visit_at : Node → Visit
visit_at n = n.visit

-- a visit came from an earlier one, by an operator
pub record ComesFrom (nodes : List Node) (origins : List Origin) (j : ℕ) (n : Node) : Type 0 where
  pub came : Origin
  pub origin : Node
  pub in_origins : slice_get origins j ≡ Some came
  pub earlier : came.origin < j
  pub at : slice_get nodes came.origin ≡ Some origin
  pub path : n.place.path ≡ origin.place.path ++ came.op ∷ []

pub record OriginsStand (nodes : List Node) (origins : List Origin) : Type 0 where
  pub count : length origins ≡ length nodes
  pub first : (n : Node) → slice_get nodes 0 ≡ Some n → n.place.path ≡ []
  pub later : (j : ℕ) (n : Node) → 0 < j → slice_get nodes j ≡ Some n → ComesFrom nodes origins j n

-- The open lists are those of a past.
pub record ListsStand (phase : Phase) (lists : OpenLists) (past : Past) : Type 0 where
  pub count : list_count lists ≡ lists_of phase
  pub sorts : (k : ℕ) → k < lists_of phase → is_preferred lists k ≡ is_for_preferred phase k
  pub boost : boost_of lists ≡ phase.setting.boost
  pub holds : (k : ℕ) → k < lists_of phase → Holds lists k (pending phase past k)
  pub counters : (k : ℕ) → k < lists_of phase → counter_now lists k ≡ counter phase past k

-- The rest of a machine stands for a past, whose states are kept in these words.
pub record Keeps (phase : Phase) (m : Machine) (words : List (List ℕ)) (past : Past) : Type 0 where
  pub logged : Logged phase m.log.visits m.log.pops past
  pub visits : m.log.visits ≡ map visit_at past.nodes
  pub pops : m.log.pops ≡ past.pops
  pub ready : AreFor m.states phase.parts
  pub most : m.states.registry.most ≡ phase.setting.most_states
  pub stored : words ≡ map (packed_at m.states.registry.layout) (latest past.nodes)
  pub rows : m.rows.items ≡ map row_of (latest past.nodes)
  pub origins : OriginsStand past.nodes m.origins.items
  pub least : LeastStand phase m.least past.nodes

pub record Rests (phase : Phase) (m : Machine) (past : Past) : Type 0 where
  pub kept : Keeps phase m m.states.registry.states past
  pub lists : ListsStand phase m.lists past

-- Where an entry goes on from, and which state it leads to.
pub record GoesFrom (phase : Phase) (past : Past) (entry : Entry) : Type 0 where
  pub parent : Node
  pub at : slice_get past.nodes entry.parent ≡ Some parent
  pub from : Node
  pub at_from : slice_get (latest past.nodes) parent.visit.id ≡ Some from
  pub next : List ℕ
  pub steps : step phase.parts from.place.state entry.op ≡ Some next

-- the place that it leads to
abbrev pub place_there : (phase : Phase) (past : Past) (entry : Entry) → GoesFrom phase past entry → Place
place_there phase past entry goes = place_by phase goes.from.place entry.op goes.next

-- An entry was taken from lists that stood for the past, and this is known of where it goes on from.
pub record Reaches (phase : Phase) (m : Machine) (words : List (List ℕ)) (past : Past) (r : Reached) : Type 0 where
  pub kept : Keeps phase m words past
  pub lists : OpenLists
  pub stood : ListsStand phase lists past
  pub pops : Pops lists r.popped m.lists
  pub goes : GoesFrom phase past r.popped.entry
  pub parent : r.parent ≡ goes.parent.visit.id
  pub origin : r.origin ≡ goes.from.number
  pub g : r.g ≡ goes.from.place.g + adjusted_cost phase r.popped.entry.op
  pub real : r.real ≡ goes.from.place.real + cost_at phase.parts r.popped.entry.op
  pub small : (r.g < 2 ^ 63) × (r.real < 2 ^ 63)

-- the state was visited before, and wasn't called dead
pub record WasVisited (past : Past) (to : Place) : Type 0 where
  pub node : Node
  pub number : ℕ
  pub at : slice_get past.nodes number ≡ Some node
  pub state_is : node.place.state ≡ to.state
  pub alive : node.visit.seen.dead ≡ false

-- A state is to be visited under a number, for the first time or again: its words are kept, and the visit decides what the pop found.
pub record IsVisited (phase : Phase) (m : Machine) (past : Past) (to : Place) (id : ℕ) (again : Bool) : Type 0 where
  pub next : m.states.next.items ≡ to.state
  pub id_is : id ≡ id_of past.nodes to.state
  pub result : (made : Option Visit) → result_of phase past to made ≡ outcome_of again (is_called_dead made) (is_goal phase.parts to.state)
  pub before : again ≡ true → WasVisited past to
  pub stored : (n : Node) → n.visit.id ≡ id → n.place.state ≡ to.state → m.states.registry.states ≡ map (packed_at m.states.registry.layout) (put_latest (latest past.nodes) n)

abbrev pub Decides : Phase → Machine → List (List ℕ) → Past → Place → Decision → Type 0
Decides phase m words past to Known = (result_of phase past to None ≡ IsKnown) × (m.states.registry.states ≡ words)
Decides phase m words past to Full = (result_of phase past to None ≡ IsFull) × (m.states.registry.states ≡ words)
Decides phase m words past to (New id) = IsVisited phase m past to id false
Decides phase m words past to (Again id) = IsVisited phase m past to id true

-- What to do with the state of an entry was decided.
pub record Arrives (phase : Phase) (m : Machine) (past : Past) (r : Reached) (d : Decision) : Type 0 where
  pub words : List (List ℕ)
  pub reaches : Reaches phase m words past r
  pub decides : Decides phase m words past (place_there phase past r.popped.entry reaches.goes) d

-- An entry leads to a state that is to be visited.
pub record ArrivesAt (phase : Phase) (m : Machine) (past : Past) (r : Reached) (id : ℕ) (again : Bool) : Type 0 where
  pub words : List (List ℕ)
  pub reaches : Reaches phase m words past r
  pub visits : IsVisited phase m past (place_there phase past r.popped.entry reaches.goes) id again

-- What the guide keeps for each state is of its latest visit, and its answers fit the visits.
pub record IsGuided (phase : Phase) (KeptFor : ℕ → List (List ℕ) → Type 0) (Fits : List (List ℕ) → Seen → Type 0) (past : Past) : Type 0 where
  pub keeps : (i : ℕ) (n : Node) → slice_get (latest past.nodes) i ≡ Some n → KeptFor i n.place.states
  pub fits : AllFit Fits past
  pub dead : TellsDead phase past

-- how the log stands after a turn
abbrev pub TurnEnds : Phase → Past → Turned → Type 0
TurnEnds phase past Empty = EndsExhausted phase past
TurnEnds phase past Done = GoesOn phase past
TurnEnds phase past AtGoal = (n : Node) × EndsInGoal phase past n
TurnEnds phase past AtFull = EndsFull past

pub record AfterTurn (phase : Phase) (KeptFor : ℕ → List (List ℕ) → Type 0) (Fits : List (List ℕ) → Seen → Type 0) (m : Machine) (turned : Turned) : Type 0 where
  pub past : Past
  pub rests : Rests phase m past
  pub guided : IsGuided phase KeptFor Fits past
  pub ends : TurnEnds phase past turned
