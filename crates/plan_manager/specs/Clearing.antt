-- Taking the plan files of a base away.
use Rattle.std.specs.Prelude.{◌≡◌, ℕ, ◌≤◌, ◌<◌, List, Result, OnOk, None, ◌⊎◌}
use Rattle.std.specs.FinMap.{get, remove}
use Rattle.lama_host.specs.Folder.{Files, last_of}
use Rattle.lama_num.specs.Names.{part_name}
use Rattle.plan_manager.specs.Family.{family_name}
use Rattle.lama_host.specs.Steps.{Each}
use Rattle.lama_num.specs.declared.names.TheConstants.{MOST_PLANS}

-- one name of the family is taken away
abbrev pub TakesPlan : List ℕ → Files → Files → Type 0
TakesPlan base before after = (k : ℕ) × (k ≤ MOST_PLANS) × (after ≡ remove before (family_name base k))

-- one name of the family, or base.part, is taken away
abbrev pub TakesOne : List ℕ → Files → Files → Type 0
TakesOne base before after = TakesPlan base before after ⊎ (after ≡ remove before (part_name base))

-- no name of the family is there
abbrev pub HasNoPlan : List ℕ → Files → Type 0
HasNoPlan base files = (k : ℕ) → k ≤ MOST_PLANS → get files (family_name base k) ≡ None

-- nor is base.part
pub record IsCleared (base : List ℕ) (files : Files) : Type 0 where
  pub family : HasNoPlan base files
  pub part : get files (part_name base) ≡ None

-- One name of the family after another is taken away; where no call failed, all are gone.
abbrev pub ClearsFamily : {T E : Type 0} → Result T E → List ℕ → Files → List Files → Type 0
ClearsFamily result base files steps = Each (TakesPlan base) files steps × OnOk result (HasNoPlan base (last_of files steps))

-- The same of the family and base.part.
abbrev pub Clears : {T E : Type 0} → Result T E → List ℕ → Files → List Files → Type 0
Clears result base files steps = Each (TakesOne base) files steps × OnOk result (IsCleared base (last_of files steps))

-- one of the names from one number up to another is taken away
abbrev pub TakesBetween : List ℕ → ℕ → ℕ → Files → Files → Type 0
TakesBetween base from end before after = (k : ℕ) × (from ≤ k) × (k < end) × (after ≡ remove before (family_name base k))

-- none of them is there
abbrev pub HasNoneBetween : List ℕ → ℕ → ℕ → Files → Type 0
HasNoneBetween base from end files = (k : ℕ) → from ≤ k → k < end → get files (family_name base k) ≡ None

abbrev pub ClearsBetween : {T E : Type 0} → Result T E → List ℕ → ℕ → ℕ → Files → List Files → Type 0
ClearsBetween result base from end files steps = Each (TakesBetween base from end) files steps × OnOk result (HasNoneBetween base from end (last_of files steps))
