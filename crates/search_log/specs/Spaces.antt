-- The space of a log, and spaces that are exhausted.
use Rattle.std.specs.Prelude.{◌≡◌, ℕ, ◌+◌, ◌≤◌, Bool, true, false, ◌&&◌, List, [], map, Option, Some, slice_get, ◌⊎◌}
use Rattle.sas_task.specs.declared.contents.Parts.{Parts}
use Rattle.sas_task.specs.declared.contents.CostKind.{CostKind}
use Rattle.sas_task.specs.declared.contents.CostKind.TheVariants.{Normal, One, PlusOne}
use Rattle.sas_task.specs.States.{IsState, settled, step}
use Rattle.sas_task.specs.Runs.{start_of, is_goal, cost_at}
use Rattle.relaxed_task.specs.Reached.{IsDead}
use Rattle.search_log.specs.Members.{Member}
use Rattle.search_log.specs.Phases.{Phase}
use Rattle.lama_num.specs.Bounds.{is_below}
use Rattle.search_log.specs.Places.{Node, Past, latest}
use Rattle.sas_task.specs.Costs.{is_normal}

-- The visited states by id, each with the real cost of its latest visit.
abbrev pub node_member : Node → Member
node_member n = record { state = n.place.state; cost = n.place.real }

abbrev pub space_of : Past → List Member
space_of past = map node_member (latest past.nodes)

-- A phase is exact where it reopens under real costs.
abbrev pub is_exact : Phase → Bool
is_exact phase = phase.setting.reopen && is_normal phase.setting.cost

-- one value in range for each variable, with the derived variables settled
pub record IsSettled (parts : Parts) (state : List ℕ) : Type 0 where
  pub values : IsState parts.variables state
  pub settled : settled parts state ≡ state

abbrev pub IsIn : List Member → Member → Type 0
IsIn space member = (i : ℕ) × (slice_get space i ≡ Some member)

-- A state is a member's; in an exact space that member is dead or costs at most so much.
pub record IsFound (parts : Parts) (space : List Member) (exact : Bool) (next : List ℕ) (most : ℕ) : Type 0 where
  pub member : Member
  pub is_in : IsIn space member
  pub state : member.state ≡ next
  pub cost : exact ≡ true → IsDead parts member.state ⊎ (member.cost ≤ most)

-- every operator that can be taken in a member's state and stays below the bound leads to a member
abbrev pub StaysIn : Parts → List Member → Option ℕ → Bool → Member → Type 0
StaysIn parts space bound exact m = (op : ℕ) (next : List ℕ) → step parts m.state op ≡ Some next →
    is_below bound (m.cost + cost_at parts op) ≡ true → IsFound parts space exact next (m.cost + cost_at parts op)

-- The start is a member with cost 0; the states are settled, none stands twice and none is a goal; and each member is
-- dead, or no operator leads out of the space below the bound.
pub record IsClosed (parts : Parts) (space : List Member) (bound : Option ℕ) (exact : Bool) : Type 0 where
  pub start : IsIn space (record { state = start_of parts; cost = 0 })
  pub settled : (m : Member) → IsIn space m → IsSettled parts m.state
  pub once : (i j : ℕ) (m n : Member) → slice_get space i ≡ Some m → slice_get space j ≡ Some n → m.state ≡ n.state → i ≡ j
  pub no_goal : (m : Member) → IsIn space m → is_goal parts m.state ≡ false
  pub closed : (m : Member) → IsIn space m → IsDead parts m.state ⊎ StaysIn parts space bound exact m

-- An exhausted space; below the bound 0 there is nothing, so there the empty space is exhausted as well.
abbrev pub IsExhausted : Parts → List Member → Option ℕ → Bool → Type 0
IsExhausted parts space bound exact = IsClosed parts space bound exact ⊎ ((space ≡ []) × (bound ≡ Some 0))
