-- What a folder tells, and how its calls change that.
use Rattle.std.specs.Prelude.{◌≡◌, ℕ, ◌+◌, ◌-◌, ◌^◌, ◌≤◌, min, List, [], ◌∷◌, ◌++◌, length, take, Option, Some, None, Result, is_some, OnOk, OnErr, ◌⊎◌, unwrap_or, zero, suc}
use Rattle.std.specs.FinMap.{FinMap, get, insert, remove}
use Rattle.std.specs.Cmp.Lexicographic.{slice_cmp}
use Rattle.std.specs.Ordering.{nat_cmp}
use Rattle.lama_host.specs.declared.children.ChildEnd.{ChildEnd}
use Rattle.lama_host.specs.declared.children.Limits.{Limits}

-- a finite map from names to bytes
abbrev pub Files : Type 0
Files = FinMap (slice_cmp nat_cmp) (List ℕ)

-- what a wait answered, and what the folder held as it returned
pub record Left : Type 0 where
  pub end : ChildEnd
  pub held : Files

-- a successful start: its words, input and limits, and what the folder held where no child ran
pub record Started : Type 0 where
  pub words : List (List ℕ)
  pub input : List ℕ
  pub limits : Limits
  pub held : Option Files

-- what a folder or host tells
pub record Told : Type 0 where
  -- what it holds, where it tells it
  pub content : Option Files
  -- what stood after each change so far
  pub moments : Option (List Files)
  -- how often a call has failed
  pub faults : ℕ
  -- the slots with a running child
  pub busy : List ℕ
  -- the waits that answered
  pub left : Option (List Left)
  -- the starts that succeeded
  pub started : Option (List Started)

-- a count that rose, or stands at its end
abbrev pub Rose : ℕ → ℕ → Type 0
Rose before now = min (before + 1) (2 ^ 64 - 1) ≤ now

-- the last of some maps, or the map before them
abbrev pub last_of : Files → List Files → Files
last_of files [] = files
last_of files (next ∷ more) = last_of next more

-- moments are added at the end, and where they aren't told they never will be
pub record Lengthens (before now : Option (List Files)) : Type 0 where
  pub tells : is_some now ≡ is_some before
  pub grows : (past : List Files) → before ≡ Some past → (more : List Files) × (now ≡ Some (past ++ more))

-- What each call keeps: a failure is counted, what is told stays told, and no child starts or ends.
pub record Keeps {T E : Type 0} (before now : Told) (result : Result T E) : Type 0 where
  pub later : before.faults ≤ now.faults
  pub failed : OnErr result (Rose before.faults now.faults)
  pub content : is_some now.content ≡ is_some before.content
  pub moments : Lengthens before.moments now.moments
  pub busy : now.busy ≡ before.busy
  pub left : now.left ≡ before.left
  pub started : now.started ≡ before.started

-- nothing changed but the count of faults
abbrev pub IsUntouched : Told → Told → Type 0
IsUntouched before now = now ≡ record before { faults = now.faults }

-- The folder went through these steps: the last is what it holds now, and each is a moment.
pub record Passes (before now : Told) (files : Files) (steps : List Files) : Type 0 where
  pub content : now.content ≡ Some (last_of files steps)
  pub moments : (past : List Files) → before.moments ≡ Some past → now.moments ≡ Some (past ++ steps)

-- a fact on what is held, where that is told and no child runs
abbrev pub WhereTold : Told → (Files → Type 0) → Type 0
WhereTold told P = (files : Files) → told.busy ≡ [] → told.content ≡ Some files → P files

-- where that is told, the folder passed steps that are allowed
abbrev pub Changes : Told → Told → (Files → List Files → Type 0) → Type 0
Changes before now allowed = WhereTold before (λ files. (steps : List Files) × allowed files steps × Passes before now files steps)

-- no step, or the one
abbrev pub Perhaps : Files → List Files → Type 0
Perhaps after steps = (steps ≡ []) ⊎ (steps ≡ after ∷ [])

-- one step to the map, which a failed call may have left out
abbrev pub Once : {T E : Type 0} → Result T E → (Files → Files) → Files → List Files → Type 0
Once result after files steps = OnOk result (steps ≡ after files ∷ []) × OnErr result (Perhaps (after files) steps)

-- the bytes of a name that is there move to another
abbrev pub renamed : List ℕ → List ℕ → Files → Files
renamed old new files = moved (get files old)
  where
    moved : Option (List ℕ) → Files
    moved (Some bytes) = insert (remove files old) new bytes
    moved None = files

abbrev pub bytes_at : Files → List ℕ → List ℕ
bytes_at files name = unwrap_or (get files name) []

-- the file with its old bytes and so many bytes of the piece
abbrev pub grown : Files → List ℕ → List ℕ → ℕ → Files
grown files name piece n = insert files name (bytes_at files name ++ take n piece)

-- what stands as the piece goes to the file's end byte by byte, up to n bytes of it
abbrev pub growth : Files → List ℕ → List ℕ → ℕ → List Files
growth files name piece zero = grown files name piece 0 ∷ []
growth files name piece (suc n) = growth files name piece n ++ grown files name piece (suc n) ∷ []

-- all of the piece was added; or, where the call failed, some of it, or the file wasn't made
abbrev pub Appends : {T E : Type 0} → Result T E → List ℕ → List ℕ → Files → List Files → Type 0
Appends result name piece files steps =
    OnOk result (steps ≡ growth files name piece (length piece))
    × OnErr result ((steps ≡ []) ⊎ ((n : ℕ) × (n ≤ length piece) × (steps ≡ growth files name piece n)))
