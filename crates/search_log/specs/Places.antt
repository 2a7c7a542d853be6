-- What follows from a log: where each visit stands, and what came before a pop.
use Rattle.std.specs.Prelude.{ℕ, ◌+◌, Bool, true, false, not, ◌&&◌, ◌||◌, nat_lt, if◌then◌else◌, List, [], ◌∷◌, ◌++◌, length, Option, Some, None, option_map, option_and_then, slice_get, slice_set, slice_index}
use Rattle.std.specs.List.{fold, list_any, list_all, range_with_len, position_or_len}
use Rattle.std.specs.Option.{option_to_list}
use Rattle.std.specs.Str.{bytes_eq}
use Rattle.sas_task.specs.States.{step}
use Rattle.sas_task.specs.Runs.{start_of, is_goal, cost_at}
use Rattle.search_log.specs.declared.turns.Pop.{Pop}
use Rattle.search_log.specs.declared.turns.PopResult.{PopResult}
use Rattle.search_log.specs.declared.turns.PopResult.TheVariants.{Known, Dead, Goal, Visited, Again, Full}
use Rattle.search_log.specs.Logs.{Visit}
use Rattle.search_log.specs.Phases.{Phase, adjusted_cost}

-- Where a path from the initial state leads.
pub record Place : Type 0 where
  pub state : List ℕ  -- the state to which it leads
  pub g : ℕ  -- its cost by the kind of cost
  pub real : ℕ  -- its real cost
  pub path : List ℕ  -- its operators
  pub states : List (List ℕ)  -- the states of its run, the last one too

abbrev pub start_place : Phase → Place
start_place phase = record { state = start_of phase.parts; g = 0; real = 0; path = []; states = start_of phase.parts ∷ [] }

-- one operator further, to a state
abbrev pub place_by : Phase → Place → ℕ → List ℕ → Place
place_by phase from op next =
    record {
      state = next;
      g = from.g + adjusted_cost phase op;
      real = from.real + cost_at phase.parts op;
      path = from.path ++ op ∷ [];
      states = from.states ++ next ∷ [];
    }

-- one operator further, where it can be taken
abbrev pub place_after : Phase → Place → ℕ → Option Place
place_after phase from op = option_map (place_by phase from op) (step phase.parts from.state op)

-- A visit with what follows from the log before it.
pub record Node : Type 0 where
  pub number : ℕ  -- its number among the visits
  pub visit : Visit  -- what the log says of it
  pub place : Place  -- where it stands
  pub progress : Bool

abbrev pub is_goal_node : Phase → Node → Bool
is_goal_node phase n = not n.visit.seen.dead && is_goal phase.parts n.place.state

-- A visit that is neither dead nor a goal is expanded.
abbrev pub is_expanded : Phase → Visit → Place → Bool
is_expanded phase visit place = not visit.seen.dead && not (is_goal phase.parts place.state)

-- What came before a pop: the visits and the pops, oldest first.
pub record Past : Type 0 where
  pub nodes : List Node
  pub pops : List Pop

-- The latest visit of each state, by the state's id.
abbrev pub put_latest : List Node → Node → List Node
put_latest table n = if nat_lt n.visit.id (length table) then slice_set table n.visit.id n else table ++ n ∷ []

abbrev pub latest : List Node → List Node
latest nodes = fold put_latest [] nodes

-- a state's id; of a new state it is the number of states so far
abbrev pub id_of : List Node → List ℕ → ℕ
id_of nodes state = position_or_len (λ (n : Node). bytes_eq n.place.state state) (latest nodes)

-- The origin of a pop: the latest visit, made before it, of the id of its parent.
abbrev pub origin : Past → Pop → Option Node
origin past pop = option_and_then (λ (parent : Node). slice_get (latest past.nodes) parent.visit.id) (slice_get past.nodes pop.parent)

-- where a pop leads, from its origin
abbrev pub reached : Phase → Past → Pop → Option Place
reached phase past pop = option_and_then (λ (from : Node). place_after phase from.place pop.op) (origin past pop)

abbrev pub estimate : Visit → ℕ → ℕ
estimate visit j = slice_index visit.seen.estimates j

-- whether guide j's estimate is less than in all earlier expanded visits
abbrev pub is_least_so_far : Phase → List Node → Visit → ℕ → Bool
is_least_so_far phase nodes visit j =
    list_all (λ (n : Node). not (is_expanded phase n.visit n.place) || nat_lt (estimate visit j) (estimate n.visit j)) nodes

-- A visit is progress where it is expanded and some guide's estimate is less than in all earlier expanded visits.
abbrev pub is_progress : Phase → List Node → Visit → Place → Bool
is_progress phase nodes visit place =
    is_expanded phase visit place && list_any (is_least_so_far phase nodes visit) (range_with_len 0 phase.guides)

-- a visit that comes after others
abbrev pub node_at : Phase → List Node → Place → Visit → Node
node_at phase nodes place visit =
    record { number = length nodes; visit = visit; place = place; progress = is_progress phase nodes visit place }

-- A pop whose result isn't Known or Full makes a visit.
abbrev pub makes_visit : PopResult → Bool
makes_visit Known = false
makes_visit Full = false
makes_visit Dead = true
makes_visit Goal = true
makes_visit Visited = true
makes_visit Again = true

-- A pop with the visit that it makes.
pub record Turn : Type 0 where
  pub pop : Pop
  pub made : Option Visit

-- Each pop with its visit: a pop that makes a visit makes the next one.
abbrev pub turns : List Pop → List Visit → List Turn
turns [] visits = []
turns (pop ∷ pops) [] = record { pop = pop; made = None } ∷ turns pops []
turns (pop ∷ pops) (v ∷ vs) =
    if makes_visit pop.result
    then record { pop = pop; made = Some v } ∷ turns pops vs
    else record { pop = pop; made = None } ∷ turns pops (v ∷ vs)

-- the visit that a turn makes, where it stands
abbrev pub made_node : Phase → Past → Turn → Option Node
made_node phase past turn = option_and_then (λ (to : Place). option_map (node_at phase past.nodes to) turn.made) (reached phase past turn.pop)

abbrev pub extend : Phase → Past → Turn → Past
extend phase past turn =
    record {
      nodes = past.nodes ++ option_to_list (made_node phase past turn);
      pops = past.pops ++ turn.pop ∷ [];
    }

-- what came before the first pop
abbrev pub start_past : Phase → Visit → Past
start_past phase visit = record { nodes = node_at phase [] (start_place phase) visit ∷ []; pops = [] }

-- what a whole log says
abbrev pub past_of : Phase → List Visit → List Pop → Past
past_of phase [] pops = record { nodes = []; pops = [] }
past_of phase (v ∷ vs) pops = fold (extend phase) (start_past phase v) (turns pops vs)
