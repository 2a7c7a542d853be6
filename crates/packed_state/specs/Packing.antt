-- What a state packed into words is.
use Rattle.std.specs.Prelude.{◌≡◌, ℕ, ◌+◌, ◌*◌, ◌/◌, ◌%◌, ◌^◌, ◌<◌, ◌≤◌, List, [], ◌∷◌, length, slice_get, slice_index, slice_set, Some, replicate}
use Rattle.sas_task.specs.States.{IsState}
use Rattle.sas_task.specs.declared.contents.Parts.{Parts}
use Rattle.packed_state.specs.declared.fields.Field.{Field}

-- a layout: how many words a packed state has, and in which field the value of each variable lies
pub record Places : Type 0 where
  pub words : ℕ
  pub fields : List Field

-- Each field lies within one of so many words, and of two fields in one word the later begins where the earlier has ended.
pub record IsLaid (words : ℕ) (fields : List Field) : Type 0 where
  pub within : (var : ℕ) (field : Field) → slice_get fields var ≡ Some field → (field.word < words) × (field.shift < 64) × (field.shift + field.bits ≤ 64) × (field.bits ≤ 20)
  pub apart : (var later : ℕ) (field other : Field) → var < later → slice_get fields var ≡ Some field → slice_get fields later ≡ Some other → field.word ≡ other.word → field.shift + field.bits ≤ other.shift

-- a value for each field, for which it has room
pub record CanHold (layout : Places) (state : List ℕ) : Type 0 where
  pub long : length state ≡ length layout.fields
  pub room : (var : ℕ) (field : Field) → slice_get layout.fields var ≡ Some field → slice_index state var < 2 ^ field.bits

-- the value that lies in a field
abbrev pub value_in : List ℕ → Field → ℕ
value_in words field = slice_index words field.word / 2 ^ field.shift % 2 ^ field.bits

-- words with values put into fields that were free
abbrev pub with_values : List Field → List ℕ → List ℕ → List ℕ
with_values [] values words = words
with_values (field ∷ fields) [] words = words
with_values (field ∷ fields) (value ∷ values) words = with_values fields values (slice_set words field.word (slice_index words field.word + value * 2 ^ field.shift))

-- the words of a state: its values in their fields, and 0 elsewhere
abbrev pub packed : Places → List ℕ → List ℕ
packed layout state = with_values layout.fields state (replicate layout.words 0)

-- The layout was made for the task: each variable has a field; all states of the task can be held, in so many words; and two states have
-- equal words only where they are equal.
pub record IsFor (layout : Places) (parts : Parts) : Type 0 where
  pub laid : IsLaid layout.words layout.fields
  pub long : length layout.fields ≡ length parts.variables
  pub holds : (state : List ℕ) → IsState parts.variables state → CanHold layout state
  pub wide : (state : List ℕ) → length (packed layout state) ≡ layout.words
  pub apart : (state other : List ℕ) → CanHold layout state → CanHold layout other → packed layout state ≡ packed layout other → state ≡ other
