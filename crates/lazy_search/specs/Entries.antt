-- The entries that a visit puts into the open lists.
use Rattle.std.specs.Prelude.{◌≡◌, ℕ, ◌+◌, ◌<◌, ◌≤◌, min, Bool, ◌&&◌, nat_lt, if◌then◌else◌, List, ◌++◌, filter, slice_index, Option, pos, ◌-ℤ◌}
use Rattle.std.specs.List.{list_any, range_with_len}
use Rattle.sas_task.specs.declared.contents.Parts.{Parts}
use Rattle.sas_task.specs.Runs.{cost_at}
use Rattle.open_lists.specs.declared.lists.OpenLists.{OpenLists}
use Rattle.open_lists.specs.Items.{Item, items_of_visit}
use Rattle.open_lists.specs.Lists.{Holds, counter, is_preferred, boost_of, SameShape}
use Rattle.guide.specs.declared.seen.Seen.{Seen}
use Rattle.search_log.specs.declared.setting.Setting.{Setting}
use Rattle.lama_num.specs.Bounds.{is_below}
use Rattle.search_log.specs.Pending.{key_by}
use Rattle.lazy_search.specs.declared.rows.LatestVisit.{LatestVisit}
use Rattle.lazy_search.specs.declared.shape.Shape.{Shape}
use Rattle.lazy_search.specs.Shapes.{lists_by, guide_by, is_preferred_by}

-- the operators by which the cost stays below the bound
abbrev pub operators_below : Parts → Option ℕ → ℕ → List ℕ → List ℕ
operators_below parts bound real operators = filter (λ op. is_below bound (real + cost_at parts op)) operators

-- what a visit puts into a list: its operators, or the preferred ones
abbrev pub puts_in : Setting → Shape → LatestVisit → List ℕ → List ℕ → List ℕ → ℕ → List Item
puts_in setting shape row estimates all preferred list =
    items_of_visit (key_by setting.weight row.g (slice_index estimates (guide_by shape list))) row.number (if is_preferred_by shape list then preferred else all)

-- The first n lists have these items more, at their ends, and nothing else changes.
pub record Puts (old : OpenLists) (n : ℕ) (more : ℕ → List Item) (new : OpenLists) : Type 0 where
  pub put : (k : ℕ) (items : List Item) → k < n → Holds old k items → Holds new k (items ++ more k)
  pub left : (k : ℕ) (items : List Item) → n ≤ k → Holds old k items → Holds new k items
  pub counters : (k : ℕ) → counter new k ≡ counter old k
  pub shape : SameShape old new

-- some guide's estimate is less than the least so far
abbrev pub is_less : ℕ → List ℕ → List ℕ → Bool
is_less guides least estimates = list_any (λ j. nat_lt (slice_index estimates j) (slice_index least j)) (range_with_len 0 guides)

-- What becomes of the lists and of the least estimates where a visit is expanded.
pub record Expands (parts : Parts) (setting : Setting) (shape : Shape) (row : LatestVisit) (seen : Seen) (applicable : List ℕ) (old : OpenLists) (least : List ℕ) (new : OpenLists) (new_least : List ℕ) : Type 0 where
  pub put : (k : ℕ) (items : List Item) → k < lists_by shape → Holds old k items → Holds new k
      (items ++ puts_in setting shape row seen.estimates (operators_below parts setting.bound row.real applicable) (operators_below parts setting.bound row.real seen.preferred) k)
  pub counters : (k : ℕ) → counter new k ≡ (if is_preferred old k && is_less shape.guides least seen.estimates then counter old k -ℤ pos (boost_of old) else counter old k)
  pub shape_is : SameShape old new
  pub kept : (j : ℕ) → j < shape.guides → slice_index new_least j ≡ min (slice_index least j) (slice_index seen.estimates j)
