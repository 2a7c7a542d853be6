-- Which logs are lawful.
use Rattle.std.specs.Prelude.{◌≡◌, ℕ, ◌<◌, Bool, true, false, not, ◌&&◌, nat_lt, nat_le, if◌then◌else◌, List, [], ◌∷◌, length, count_by, Option, Some, None, slice_get, IfSome}
use Rattle.std.specs.List.{list_any}
use Rattle.sas_task.specs.Runs.{is_goal}
use Rattle.open_lists.specs.Items.{Item, IsOldestLeast}
use Rattle.open_lists.specs.Lists.{TakesList}
use Rattle.open_lists.specs.Runs.{entry_of}
use Rattle.search_log.specs.declared.turns.Pop.{Pop}
use Rattle.search_log.specs.declared.turns.PopResult.{PopResult}
use Rattle.search_log.specs.declared.turns.PopResult.TheVariants.{Known, Dead, Goal, Visited, Again, Full}
use Rattle.search_log.specs.Logs.{Visit}
use Rattle.search_log.specs.Phases.{Phase, lists_of}
use Rattle.lama_num.specs.Bounds.{is_below}
use Rattle.search_log.specs.Places.{Place, Node, Past, Turn, latest, id_of, reached, is_goal_node, makes_visit, turns, extend, start_past, past_of}
use Rattle.search_log.specs.Pending.{pending, counter}

abbrev pub is_full : PopResult → Bool
is_full Full = true
is_full Known = false
is_full Dead = false
is_full Goal = false
is_full Visited = false
is_full Again = false

-- No visit so far is a goal, and no pop so far found the states full.
pub record GoesOn (phase : Phase) (past : Past) : Type 0 where
  pub no_goal : list_any (is_goal_node phase) past.nodes ≡ false
  pub not_full : list_any (λ (p : Pop). is_full p.result) past.pops ≡ false

abbrev pub is_called_dead : Option Visit → Bool
is_called_dead None = false
is_called_dead (Some v) = v.seen.dead

-- a known state is visited again where reopening is set, its latest visit isn't dead, and the g is less
abbrev pub is_reopened : Phase → Place → Node → Bool
is_reopened phase to known = phase.setting.reopen && (not known.visit.seen.dead && nat_lt to.g known.place.g)

-- What a pop finds, by the latest visit of the state that it reaches, if there is one, and by the visit that it makes.
abbrev pub result_at : Phase → Past → Place → Option Node → Option Visit → PopResult
-- a new state: Full where as many states as allowed are there; else Dead, Goal or Visited by its visit
result_at phase past to None made =
    if nat_le phase.setting.most_states (length (latest past.nodes)) then Full
    else (if is_called_dead made then Dead else (if is_goal phase.parts to.state then Goal else Visited))
-- a known state: visited again, or else Known
result_at phase past to (Some known) made =
    if is_reopened phase to known then (if is_called_dead made then Dead else Again) else Known

-- Known where the real cost isn't below the bound. This comes only where states are visited again and costs aren't
-- counted as they are: then the origin's real cost may have risen since its entry was put.
abbrev pub result_of : Phase → Past → Place → Option Visit → PopResult
result_of phase past to made =
    if is_below phase.setting.bound to.real
    then result_at phase past to (slice_get (latest past.nodes) (id_of past.nodes to.state)) made
    else Known

-- After this past, a lawful log may go on by this turn.
pub record IsNext (phase : Phase) (past : Past) (turn : Turn) : Type 0 where
  pub goes_on : GoesOn phase past
  pub allowed : length past.pops < phase.setting.most_pops
  -- the list of least counter that isn't empty, the lowest number on ties
  pub list : TakesList (lists_of phase) (λ k. length (pending phase past k)) (counter phase past) turn.pop.list
  -- from it the oldest entry of least key
  pub place : ℕ
  pub item : Item
  pub oldest : IsOldestLeast (pending phase past turn.pop.list) place item
  pub entry : item.entry ≡ entry_of turn.pop.parent turn.pop.op
  -- what it leads to decides the result
  pub to : Place
  pub leads : reached phase past turn.pop ≡ Some to
  pub result : turn.pop.result ≡ result_of phase past to turn.made
  -- the visit that it makes has the state's id, and the g
  pub id : IfSome turn.made (λ v. v.id ≡ id_of past.nodes to.state)
  pub g : IfSome turn.made (λ v. v.g ≡ to.g)

-- The turns, one after another.
abbrev pub Follow : Phase → Past → List Turn → Type 0
Follow phase past [] = Unit {0}
Follow phase past (turn ∷ rest) = IsNext phase past turn × Follow phase (extend phase past turn) rest

pub record IsStart (visit : Visit) : Type 0 where
  pub id : visit.id ≡ 0
  pub g : visit.g ≡ 0

-- A lawful log: visit 0 is the start, each pop is lawful by what came before it, and there is a visit for each pop
-- that makes one. A log without a visit has no pop.
abbrev pub Lawful : Phase → List Visit → List Pop → Type 0
Lawful phase [] pops = pops ≡ []
Lawful phase (v ∷ vs) pops =
    IsStart v × Follow phase (start_past phase v) (turns pops vs) × (length vs ≡ count_by (λ (p : Pop). makes_visit p.result) pops)

-- A lawful log that has a visit, with what it says. A search keeps this from turn to turn.
pub record Logged (phase : Phase) (visits : List Visit) (pops : List Pop) (past : Past) : Type 0 where
  pub lawful : Lawful phase visits pops
  pub past_is : past_of phase visits pops ≡ past
  pub begun : 0 < length visits
