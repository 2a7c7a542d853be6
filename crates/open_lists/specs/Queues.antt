-- Queues of entries by key.
use Rattle.std.specs.Prelude.{◌≡◌, ◌≢◌, ℕ, ◌≤◌, List, [], Option, Some, None, nat_eq, if◌then◌else◌}
use Rattle.std.specs.Ordering.{nat_cmp}
use Rattle.std.specs.BTreeMap as tree
use Rattle.std.specs.BTreeMap.{BTreeMap}
use Rattle.open_lists.specs.declared.entry.Entry.{Entry}

abbrev pub queue_of : Option (List Entry) → List Entry
queue_of None = []
queue_of (Some queue) = queue

-- the entries of a key in a map, oldest first
abbrev pub queue_at : BTreeMap ℕ (List Entry) → ℕ → List Entry
queue_at map key = queue_of (tree.get nat_cmp map key)

-- The queue of the least key stands apart from the map of the others, which are not empty. It is empty only where there are no others.
pub record IsApart (least : ℕ) (first : List Entry) (others : BTreeMap ℕ (List Entry)) : Type 0 where
  pub filled : (key : ℕ) → tree.get nat_cmp others key ≢ Some []
  pub ahead : (key : ℕ) → key ≤ least → tree.get nat_cmp others key ≡ None
  pub alone : first ≡ [] → others.entries ≡ []

-- the entries of a key, oldest first
abbrev pub queue_in : ℕ → List Entry → BTreeMap ℕ (List Entry) → ℕ → List Entry
queue_in least first others key = if nat_eq key least then first else queue_at others key
