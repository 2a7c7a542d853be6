-- What a change says of a name.
use Rattle.std.specs.Prelude.{ℕ, List, Bool, false, ◌||◌, if◌then◌else◌, Option, Some, None, reverse, find, is_some}
use Rattle.std.specs.Prelude.{[]}
use Rattle.std.specs.Str.{bytes_eq}
use Rattle.host_mem.specs.declared.journal.Change.{Change}
use Rattle.host_mem.specs.declared.journal.Change.TheVariants.{Made, Grew, Moved, Gone, Began, Ended}
use Rattle.host_mem.specs.Journal.{Write}

-- the last write of a name
abbrev pub last_write : List Write → List ℕ → Option Write
last_write writes name = find (λ write. bytes_eq write.0 name) (reverse writes)

abbrev pub bytes_after : Option Write → Option (List ℕ)
bytes_after None = None
bytes_after (Some write) = write.1

-- whether it is of this name
abbrev pub is_of : Change → List ℕ → Bool
is_of (Made held) name = bytes_eq held name
is_of (Grew held piece count bytes) name = bytes_eq held name
is_of (Moved old new bytes) name = bytes_eq new name || bytes_eq old name
is_of (Gone held) name = bytes_eq held name
is_of (Began number idle) name = false
is_of (Ended writes end) name = is_some (last_write writes name)

-- what the name holds after it
abbrev pub held_after : Change → List ℕ → Option (List ℕ)
held_after (Made held) name = Some []
held_after (Grew held piece count bytes) name = Some bytes
held_after (Moved old new bytes) name = if bytes_eq new name then Some bytes else None
held_after (Gone held) name = None
held_after (Began number idle) name = None
held_after (Ended writes end) name = bytes_after (last_write writes name)
