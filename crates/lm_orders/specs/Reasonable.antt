-- The reasonable orders of a graph.
use Rattle.std.specs.Prelude.{◌≡◌, ◌≢◌, ℕ, List, length, Bool, true, false, ◌&&◌, ◌||◌, nat_eq, nat_lt, if◌then◌else◌, ◌⊎◌, Option, Some, None, slice_get}
use Rattle.std.specs.Option.{option_map_or}
use Rattle.sas_task.specs.declared.contents.Fact.{Fact}
use Rattle.sas_task.specs.declared.contents.Parts.{Parts}
use Rattle.lm_graph.specs.declared.nodes.Node.{Node}
use Rattle.lm_graph.specs.declared.orders.Order.{Order}
use Rattle.lm_graph.specs.declared.orders.Order.TheVariants.{Reasonable, Natural, GreedyNecessary}
use Rattle.lm_graph.specs.Graphs.{Content, kind_of}
use Rattle.lm_graph.specs.Paths.{Path}
use Rattle.lm_orders.specs.Interference.{fact_of, Interferes}

abbrev pub is_goal_at : List Node → ℕ → Bool
is_goal_at nodes node = option_map_or (λ n. n.goal) (slice_get nodes node) false

-- A node is to hold directly before some other node than a first one, to which that first one leads by natural and greedy-necessary orders.
pub record LeadsPast (kinds : ℕ → ℕ → Option Order) (first node : ℕ) : Type 0 where
  pub last : ℕ
  pub other : last ≢ first
  pub order : kinds node last ≡ Some GreedyNecessary
  pub path : Path kinds Natural first last

-- a node is a goal, or needed past a first one
abbrev pub IsWanted : List Node → (ℕ → ℕ → Option Order) → ℕ → ℕ → Type 0
IsWanted nodes kinds first node = (is_goal_at nodes node ≡ true) ⊎ LeadsPast kinds first node

-- There is reason to reach one node before another: both are one fact, the second interferes with the first, and it is a goal or needed
-- past the first. No order stands between them, and no path leads back, so that no cycle is closed.
pub record IsReasonable (parts : Parts) (nodes : List Node) (kinds : ℕ → ℕ → Option Order) (before after : ℕ) : Type 0 where
  pub different : before ≢ after
  pub first : Fact
  pub second : Fact
  pub is_first : fact_of nodes before ≡ Some first
  pub is_second : fact_of nodes after ≡ Some second
  pub interferes : Interferes parts nodes kinds second before first
  pub wanted : IsWanted nodes kinds before after
  pub no_path : Path kinds Reasonable after before → ⊥
  pub no_order : kinds before after ≡ None

-- Pairs of nodes ascend by their first and then by their second node.
abbrev pub is_earlier : ℕ → ℕ → ℕ → ℕ → Bool
is_earlier i j before after = nat_lt i before || (nat_eq i before && nat_lt j after)

-- The orders as they stand when the turn of a pair comes: between earlier pairs as they are in the end, between all others as they were.
abbrev pub standing : Content → Content → ℕ → ℕ → ℕ → ℕ → Option Order
standing old new before after i j = if is_earlier i j before after then kind_of new i j else kind_of old i j

-- At its turn a pair got a reasonable order, or there was no reason and it was left alone.
abbrev pub IsJudged : Parts → Content → Content → ℕ → ℕ → Type 0
IsJudged parts old new before after =
    (IsReasonable parts old.nodes (standing old new before after) before after × (kind_of new before after ≡ Some Reasonable))
    ⊎ ((IsReasonable parts old.nodes (standing old new before after) before after → ⊥) × (kind_of new before after ≡ kind_of old before after))

-- The pairs that are earlier than one were judged in turn, and all else is as it was.
pub record AddsBefore (parts : Parts) (old new : Content) (before after : ℕ) : Type 0 where
  pub nodes : new.nodes ≡ old.nodes
  pub judged : (i j : ℕ) → is_earlier i j before after ≡ true → IsJudged parts old new i j
  pub others : (i j : ℕ) → is_earlier i j before after ≡ false → kind_of new i j ≡ kind_of old i j

-- All pairs of nodes were judged.
abbrev pub AddsReasonable : Parts → Content → Content → Type 0
AddsReasonable parts old new = AddsBefore parts old new (length old.nodes) 0

-- Some first pairs were.
pub record AddsSome (parts : Parts) (old new : Content) : Type 0 where
  pub before : ℕ
  pub after : ℕ
  pub adds : AddsBefore parts old new before after
