-- Writing a plan's text to base.part, and moving it to its name.
use Rattle.std.specs.Prelude.{◌≡◌, ◌≢◌, ℕ, List, [], ◌∷◌, ◌++◌, Bool, if◌then◌else◌, Option, Some, None, Result, OnOk, OnErr, ◌⊎◌}
use Rattle.std.specs.FinMap.{get}
use Rattle.lama_host.specs.Folder.{Files, last_of}
use Rattle.lama_host.specs.Steps.{Each}
use Rattle.lama_num.specs.Names.{part_name}
use Rattle.plan_manager.specs.Family.{family_name}

-- no file, or a front of the text
abbrev pub IsFront : Option (List ℕ) → List ℕ → Type 0
IsFront None text = Unit {0}
IsFront (Some bytes) text = (rest : List ℕ) × (bytes ++ rest ≡ text)

-- The file of one name changes, and nothing else: it isn't there, or has a front of the text.
pub record IsDraft (name text : List ℕ) (before after : Files) : Type 0 where
  pub front : IsFront (get after name) text
  pub others : (other : List ℕ) → other ≢ name → get after other ≡ get before other

-- One draft follows the other; where no call failed, the last has the whole text.
abbrev pub Drafts : {T E : Type 0} → Result T E → List ℕ → List ℕ → Files → List Files → Type 0
Drafts result name text files steps = Each (IsDraft name text) files steps × OnOk result (get (last_of files steps) name ≡ Some text)

-- The target holds the whole text, the draft is gone, and nothing else changes.
pub record IsPlaced (draft target text : List ℕ) (before after : Files) : Type 0 where
  pub holds : get after target ≡ Some text
  pub gone : get after draft ≡ None
  pub others : (other : List ℕ) → other ≢ draft → other ≢ target → get after other ≡ get before other

-- after the drafts, one last step in which the text is placed
abbrev pub IsPlacedLast : List ℕ → List ℕ → List ℕ → Files → List Files → List Files → Type 0
IsPlacedLast draft target text files drafts steps = (placed : Files) × (steps ≡ drafts ++ placed ∷ []) × IsPlaced draft target text (last_of files drafts) placed

-- Drafts, and then the text is placed, which is the last step; where a call failed, it may not have been made.
abbrev pub Places : {T E : Type 0} → Result T E → List ℕ → List ℕ → List ℕ → Files → List Files → Type 0
Places result draft target text files steps =
    (drafts : List Files) × Each (IsDraft draft text) files drafts
    × OnOk result (IsPlacedLast draft target text files drafts steps)
    × OnErr result ((steps ≡ drafts) ⊎ IsPlacedLast draft target text files drafts steps)

-- the number, in the family, of the plan with a number from 1: without many it is the base itself
abbrev pub plan_number : Bool → ℕ → ℕ
plan_number many number = if many then number else 0

-- the name of its file
abbrev pub plan_file : List ℕ → Bool → ℕ → List ℕ
plan_file base many number = family_name base (plan_number many number)

-- Its text goes to base.part, and from there to its file.
abbrev pub PlacesPlan : {T E : Type 0} → Result T E → List ℕ → Bool → ℕ → List ℕ → Files → List Files → Type 0
PlacesPlan result base many number text = Places result (part_name base) (plan_file base many number) text
