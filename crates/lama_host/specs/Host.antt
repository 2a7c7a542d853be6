-- How starting a child and waiting for it change what a host tells.
use Rattle.std.specs.Prelude.{◌≡◌, ℕ, ◌≤◌, List, [], ◌∷◌, ◌++◌, not, nat_eq, filter, Option, Some, None, Result, is_some, IfOk, OnOk, OnErr}
use Rattle.lama_host.specs.declared.children.ChildEnd.{ChildEnd}
use Rattle.lama_host.specs.declared.children.Limits.{Limits}
use Rattle.lama_host.specs.Folder.{Told, Left, Started, Files, Rose, Lengthens}

-- the files where no child runs, else nothing
abbrev pub held_at_start : List ℕ → Option Files → Option Files
held_at_start [] files = files
held_at_start (slot ∷ slots) files = None

-- A start of a child in a slot: it adds no moment, and where it fails it leaves everything but the count.
pub record Starts {T E : Type 0} (before now : Told) (slot : ℕ) (words : List (List ℕ)) (input : List ℕ) (limits : Limits) (result : Result T E) : Type 0 where
  pub later : before.faults ≤ now.faults
  pub failed : OnErr result (Rose before.faults now.faults)
  pub tells : is_some now.content ≡ is_some before.content
  pub moments : now.moments ≡ before.moments
  pub left : now.left ≡ before.left
  pub busy : OnOk result (now.busy ≡ before.busy ++ slot ∷ [])
  pub started : (past : List Started) → before.started ≡ Some past → OnOk result (now.started ≡
      Some (past ++ record { words = words; input = input; limits = limits; held = held_at_start before.busy before.content } ∷ []))
  pub tells_started : is_some now.started ≡ is_some before.started
  pub nothing : OnErr result (now ≡ record before { faults = now.faults })

-- A wait for the child of a slot, which frees the slot and may change every file.
pub record Waits {E : Type 0} (before now : Told) (slot : ℕ) (result : Result ChildEnd E) : Type 0 where
  pub later : before.faults ≤ now.faults
  pub failed : OnErr result (Rose before.faults now.faults)
  pub tells : is_some now.content ≡ is_some before.content
  pub moments : Lengthens before.moments now.moments
  pub busy : now.busy ≡ filter (λ s. not (nat_eq s slot)) before.busy
  pub started : now.started ≡ before.started
  pub tells_left : is_some now.left ≡ is_some before.left
  -- what it held is told even where the content isn't, and where that is it is the same
  pub left : (past : List Left) → before.left ≡ Some past → IfOk result (λ end.
      (held : Files) × (now.left ≡ Some (past ++ record { end = end; held = held } ∷ [])) × ((files : Files) → now.content ≡ Some files → files ≡ held))
  pub none : OnErr result (now.left ≡ before.left)
