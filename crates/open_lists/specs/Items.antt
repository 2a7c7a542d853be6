-- What a list holds: entries with their keys, in order of insertion.
use Rattle.std.specs.Prelude.{◌≡◌, ℕ, ◌<◌, ◌≤◌, Bool, List, map, filter, nat_eq, slice_get, Some}
use Rattle.open_lists.specs.declared.entry.Entry.{Entry}
use Rattle.open_lists.specs.declared.entry.Popped.{Popped}
use Rattle.open_lists.specs.Runs.{entry_of}

-- an entry with its key
pub record Item : Type 0 where
  pub key : ℕ
  pub entry : Entry

abbrev pub item_of : ℕ → Entry → Item
item_of key entry = record { key = key; entry = entry }

-- operators of one visit, in order and under one key
abbrev pub items_of_visit : ℕ → ℕ → List ℕ → List Item
items_of_visit key parent operators = map (λ op. item_of key (entry_of parent op)) operators

abbrev pub has_key : ℕ → Item → Bool
has_key key item = nat_eq item.key key

-- the entries of a key, in order of insertion
abbrev pub entries_under : List Item → ℕ → List Entry
entries_under items key = map (λ (i : Item). i.entry) (filter (has_key key) items)

-- the item that was taken
abbrev pub popped_item : Popped → Item
popped_item popped = item_of popped.key popped.entry

-- The item stands at this place; no key is less than its, and it is the oldest of its key.
pub record IsOldestLeast (items : List Item) (place : ℕ) (item : Item) : Type 0 where
  pub here : slice_get items place ≡ Some item
  pub least : (i : ℕ) (other : Item) → slice_get items i ≡ Some other → item.key ≤ other.key
  pub oldest : (i : ℕ) (other : Item) → i < place → slice_get items i ≡ Some other → item.key < other.key
