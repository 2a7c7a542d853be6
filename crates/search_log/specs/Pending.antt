-- What the lists hold before a pop, by the visits and the pops so far.
use Rattle.std.specs.Prelude.{ℕ, ◌+◌, ◌*◌, Bool, not, ◌&&◌, ◌||◌, ◌==◌, if◌then◌else◌, List, [], map, filter, Option, Some, None, ℤ, pos, ◌-ℤ◌, flat_map, count_by}
use Rattle.std.specs.List.{list_any}
use Rattle.sas_task.specs.Runs.{cost_at}
use Rattle.guide.specs.Operators.{applicable_operators, is_among}
use Rattle.open_lists.specs.Items.{Item, item_of}
use Rattle.open_lists.specs.Runs.{entry_of}
use Rattle.search_log.specs.declared.turns.Pop.{Pop}
use Rattle.search_log.specs.Phases.{Phase, guide_of, is_for_preferred}
use Rattle.lama_num.specs.Bounds.{is_below}
use Rattle.search_log.specs.Places.{Node, Past, is_expanded, estimate}

-- the key of a visit's entries: the estimate, or in a weighted phase g plus weight times that
abbrev pub key_by : Option ℕ → ℕ → ℕ → ℕ
key_by None g h = h
key_by (Some weight) g h = g + weight * h

abbrev pub key_of : Phase → ℕ → Node → ℕ
key_of phase k n = key_by phase.setting.weight n.place.g (estimate n.visit (guide_of phase k))

-- An operator's entry is put where the real cost stays below the bound, into every list of its sort.
abbrev pub is_put : Phase → ℕ → Node → ℕ → Bool
is_put phase k n op =
    is_below phase.setting.bound (n.place.real + cost_at phase.parts op)
    && (not (is_for_preferred phase k) || is_among n.visit.seen.preferred op)

-- the entry of an operator in list k
abbrev pub item_for : Phase → ℕ → Node → ℕ → Item
item_for phase k n op = item_of (key_of phase k n) (entry_of n.number op)

-- what a visit puts into list k, by ascending operators
abbrev pub puts_of : Phase → ℕ → Node → List Item
puts_of phase k n =
    if is_expanded phase n.visit n.place
    then map (item_for phase k n) (filter (is_put phase k n) (applicable_operators phase.parts n.place.state))
    else []

abbrev pub is_taken : List Pop → ℕ → Item → Bool
is_taken pops k item =
    list_any (λ (p : Pop). (p.list == k) && ((p.parent == item.entry.parent) && (p.op == item.entry.op))) pops

-- What list k holds: what the visits so far put into it, in order, less what the pops so far took from it.
abbrev pub pending : Phase → Past → ℕ → List Item
pending phase past k = filter (λ item. not (is_taken past.pops k item)) (flat_map (puts_of phase k) past.nodes)

-- The counter of list k: the pops from it, less, for a list of preferred entries, the boost for each visit that was progress.
abbrev pub counter : Phase → Past → ℕ → ℤ
counter phase past k =
    pos (count_by (λ (p : Pop). p.list == k) past.pops)
    -ℤ pos (if is_for_preferred phase k then phase.setting.boost * count_by (λ (n : Node). n.progress) past.nodes else 0)
