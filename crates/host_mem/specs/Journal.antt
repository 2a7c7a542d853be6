-- A folder as what it held at first and the changes since, the newest first.
use Rattle.std.specs.Prelude.{ℕ, ◌+◌, List, [], ◌∷◌, ◌++◌, Bool, false, Option, Some, None, nat_eq, if◌then◌else◌}
use Rattle.std.specs.FinMap.{insert, remove, from_entries}
use Rattle.lama_host.specs.declared.children.ChildEnd.{ChildEnd}
use Rattle.lama_host.specs.Folder.{Files, Told, Left, Started, growth}
use Rattle.host_mem.specs.declared.children.Start.{Start}
use Rattle.host_mem.specs.declared.journal.Change.{Change}
use Rattle.host_mem.specs.declared.journal.Change.TheVariants.{Made, Grew, Moved, Gone, Began, Ended}

-- bytes for a name, or the name is taken away
abbrev pub Write : Type 0
Write = List ℕ × Option (List ℕ)

abbrev pub put_by : Write → Files → Files
put_by write files = put write.1
  where
    put : Option (List ℕ) → Files
    put (Some bytes) = insert files write.0 bytes
    put None = remove files write.0

-- what stands after some writes in their order
abbrev pub written_by : List Write → Files → Files
written_by [] files = files
written_by (write ∷ more) files = written_by more (put_by write files)

-- what stands after each of some writes
abbrev pub writing : List Write → Files → List Files
writing [] files = []
writing (write ∷ more) files = put_by write files ∷ writing more (put_by write files)

-- what stands after each step of a change
abbrev pub steps_of : Change → Files → List Files
steps_of (Made name) files = insert files name [] ∷ []
steps_of (Grew name piece count bytes) files = growth files name piece count
steps_of (Moved old new bytes) files = insert (remove files old) new bytes ∷ []
steps_of (Gone name) files = remove files name ∷ []
steps_of (Began number idle) files = []
steps_of (Ended writes end) files = writing writes files

-- what stands after a change
abbrev pub after : Change → Files → Files
after (Made name) files = insert files name []
after (Grew name piece count bytes) files = insert files name bytes
after (Moved old new bytes) files = insert (remove files old) new bytes
after (Gone name) files = remove files name
after (Began number idle) files = files
after (Ended writes end) files = written_by writes files

-- what the names held at first: the last of several counts
abbrev pub first_held : List (List ℕ × List ℕ) → Files
first_held [] = from_entries []
first_held (file ∷ earlier) = insert (first_held earlier) file.0 file.1

abbrev pub holds : Files → List Change → Files
holds first [] = first
holds first (change ∷ older) = after change (holds first older)

abbrev pub moments_of : Files → List Change → List Files
moments_of first [] = []
moments_of first (change ∷ older) = moments_of first older ++ steps_of change (holds first older)

-- the waits that answered, with one more where the change is one
abbrev pub left_after : Change → List Left → Files → List Left
left_after (Made name) left files = left
left_after (Grew name piece count bytes) left files = left
left_after (Moved old new bytes) left files = left
left_after (Gone name) left files = left
left_after (Began number idle) left files = left
left_after (Ended writes answer) left files = answered answer
  where
    answered : Option ChildEnd → List Left
    answered (Some end) = left ++ record { end = end; held = written_by writes files } ∷ []
    answered None = left

abbrev pub left_of : Files → List Change → List Left
left_of first [] = []
left_of first (change ∷ older) = left_after change (left_of first older) (holds first older)

-- whether a change is the start after so many others
abbrev pub is_start : Change → ℕ → Bool
is_start (Made name) n = false
is_start (Grew name piece count bytes) n = false
is_start (Moved old new bytes) n = false
is_start (Gone name) n = false
is_start (Began number idle) n = nat_eq number n
is_start (Ended writes end) n = false

-- the files at a start, where no child ran
abbrev pub seen_at : Change → Files → Option Files
seen_at (Made name) files = None
seen_at (Grew name piece count bytes) files = None
seen_at (Moved old new bytes) files = None
seen_at (Gone name) files = None
seen_at (Began number idle) files = if idle then Some files else None
seen_at (Ended writes end) files = None

-- what was held at the start after so many others, where no child ran
abbrev pub seen_by : Files → List Change → ℕ → Option Files
seen_by first [] n = None
seen_by first (change ∷ older) n = if is_start change n then seen_at change (holds first older) else seen_by first older n

-- the starts from the one after so many others on
abbrev pub started_from : ℕ → (ℕ → Option Files) → List Start → List Started
started_from n seen [] = []
started_from n seen (start ∷ more) =
    record { words = start.words; input = start.input; limits = start.limits; held = seen n } ∷ started_from (n + 1) seen more

-- what a journal and the rest of a host tell
abbrev pub told_by : Files → List Change → ℕ → List ℕ → List Start → Told
told_by first newest faults busy starts = record {
  content = Some (holds first newest);
  moments = Some (moments_of first newest);
  faults = faults;
  busy = busy;
  left = Some (left_of first newest);
  started = Some (started_from 0 (seen_by first newest) starts);
}
