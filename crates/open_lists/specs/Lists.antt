-- What the open lists hold, and what their calls do to that.
use Rattle.std.specs.Prelude.{◌≡◌, ◌≢◌, ℕ, ◌<◌, Bool, false, if◌then◌else◌, List, [], ◌++◌, length, get_or, Option, Some, None, slice_get, ℤ, pos, ◌-ℤ◌, ◌+ℤ◌, ◌≤ℤ◌, ◌<ℤ◌}
use Rattle.std.specs.List.{remove}
use Rattle.open_lists.specs.Queues.{queue_in}
use Rattle.open_lists.specs.Items.{Item, entries_under, popped_item, IsOldestLeast}
use Rattle.open_lists.specs.declared.lists.OpenLists.{OpenLists}
use Rattle.open_lists.specs.declared.list.OpenList.{OpenList}
use Rattle.open_lists.specs.declared.queues.Queues.{Queues}
use Rattle.open_lists.specs.declared.entry.Entry.{Entry}
use Rattle.open_lists.specs.declared.entry.Popped.{Popped}

-- the entries of a key, oldest first
abbrev pub queue_for : Queues → ℕ → List Entry
queue_for queues key = queue_in queues.least queues.first queues.others key

abbrev pub entries_in_list : Option OpenList → ℕ → List Entry
entries_in_list None key = []
entries_in_list (Some list) key = queue_for list.queues key

-- how many entries have the least key
abbrev pub least_count_in : Option OpenList → ℕ
least_count_in None = 0
least_count_in (Some list) = length list.queues.first

abbrev pub counter_in : Option OpenList → ℤ
counter_in None = pos 0
counter_in (Some list) = list.counter

abbrev pub preferred_in : Option OpenList → Bool
preferred_in None = false
preferred_in (Some list) = list.preferred_only

-- how many lists there are
abbrev pub list_count : OpenLists → ℕ
list_count lists = length lists.lists.items

-- the entries of a key in list k, oldest first
abbrev pub queue : OpenLists → ℕ → ℕ → List Entry
queue lists k key = entries_in_list (slice_get lists.lists.items k) key

abbrev pub counter : OpenLists → ℕ → ℤ
counter lists k = counter_in (slice_get lists.lists.items k)

-- whether list k is for preferred operators alone
abbrev pub is_preferred : OpenLists → ℕ → Bool
is_preferred lists k = preferred_in (slice_get lists.lists.items k)

-- by how much a boost lowers counters
abbrev pub boost_of : OpenLists → ℕ
boost_of lists = lists.boost

-- List k holds these items, in order of insertion.
pub record Holds (lists : OpenLists) (k : ℕ) (items : List Item) : Type 0 where
  pub queues : (key : ℕ) → queue lists k key ≡ entries_under items key

-- Of n lists, the one to take from is k: it isn't empty, and of those that aren't, its counter is least,
-- and it has the lowest number of those with that counter.
pub record TakesList (n : ℕ) (count_of : ℕ → ℕ) (counter_of : ℕ → ℤ) (k : ℕ) : Type 0 where
  pub exists : k < n
  pub filled : 0 < count_of k
  pub least : (m : ℕ) → m < n → 0 < count_of m → counter_of k ≤ℤ counter_of m
  pub lowest : (m : ℕ) → m < k → 0 < count_of m → counter_of k <ℤ counter_of m

-- the list to take from among the first i, if one of them has an entry
abbrev pub IsBestBefore : (ℕ → ℕ) → (ℕ → ℤ) → ℕ → Option ℕ → Type 0
IsBestBefore count_of counter_of i None = (m : ℕ) → m < i → count_of m ≡ 0
IsBestBefore count_of counter_of i (Some k) = TakesList i count_of counter_of k

-- the flag at k, or false past the end
abbrev pub is_set : List Bool → ℕ → Bool
is_set flags k = get_or flags k false

-- The number of lists, their sorts and the boost stay.
pub record SameShape (old new : OpenLists) : Type 0 where
  pub count : list_count new ≡ list_count old
  pub sorts : (k : ℕ) → is_preferred new k ≡ is_preferred old k
  pub boost : boost_of new ≡ boost_of old

-- Everything stays.
pub record SameLists (old new : OpenLists) : Type 0 where
  pub items : (k : ℕ) (items : List Item) → Holds old k items → Holds new k items
  pub counters : (k : ℕ) → counter new k ≡ counter old k
  pub shape : SameShape old new

-- List k has these items more, at its end.
pub record Inserts (old : OpenLists) (k : ℕ) (more : List Item) (new : OpenLists) : Type 0 where
  pub put : (items : List Item) → Holds old k items → Holds new k (items ++ more)
  pub others : (m : ℕ) → m ≢ k → (items : List Item) → Holds old m items → Holds new m items
  pub counters : (m : ℕ) → counter new m ≡ counter old m
  pub shape : SameShape old new

-- the list gives the oldest entry of least key
abbrev pub TakesOldestLeast : OpenLists → Popped → OpenLists → Type 0
TakesOldestLeast old popped new = (items : List Item) → Holds old popped.list items →
    (place : ℕ) × IsOldestLeast items place (popped_item popped) × Holds new popped.list (remove items place)

-- A pop takes this entry: no list that has one has a smaller counter, and none before it the same; it is
-- the oldest of least key. The counter of its list goes up by one, and the rest stays.
pub record Pops (old : OpenLists) (popped : Popped) (new : OpenLists) : Type 0 where
  pub exists : popped.list < list_count old
  pub taken : TakesOldestLeast old popped new
  pub least : (m : ℕ) (items : List Item) → Holds old m items → items ≢ [] → counter old popped.list ≤ℤ counter old m
  pub lowest : (m : ℕ) (items : List Item) → m < popped.list → Holds old m items → items ≢ [] → counter old popped.list <ℤ counter old m
  pub counted : counter new popped.list ≡ counter old popped.list +ℤ pos 1
  pub others : (k : ℕ) → k ≢ popped.list → (items : List Item) → Holds old k items → Holds new k items
  pub other_counters : (k : ℕ) → k ≢ popped.list → counter new k ≡ counter old k
  pub shape : SameShape old new

-- The counters of the lists for preferred operators fall by the boost.
pub record Boosts (old new : OpenLists) : Type 0 where
  pub items : (k : ℕ) (items : List Item) → Holds old k items → Holds new k items
  pub counters : (k : ℕ) → counter new k ≡ (if is_preferred old k then counter old k -ℤ pos (boost_of old) else counter old k)
  pub shape : SameShape old new
