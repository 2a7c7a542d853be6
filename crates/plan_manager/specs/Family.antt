-- The plan files of a base, and all other names.
use Rattle.std.specs.Prelude.{◌≡◌, ◌≢◌, ℕ, zero, suc, ◌≤◌, List}
use Rattle.std.specs.FinMap.{get}
use Rattle.lama_host.specs.Folder.{Files}
use Rattle.lama_num.specs.Names.{part_name, numbered_name}
use Rattle.plan_manager.specs.declared.families.FamilyFile.{FamilyFile}
use Rattle.plan_manager.specs.declared.families.FamilyFile.TheVariants.{Base, Numbered}
use Rattle.lama_num.specs.declared.names.TheConstants.{MOST_PLANS}

-- the names of the family: number 0 is the base itself, and number n is base.n, up to 9,999
unfoldable pub family_name : List ℕ → ℕ → List ℕ
family_name base zero = base
family_name base (suc n) = numbered_name base (suc n)

-- the name of a file of the family
abbrev pub file_name : FamilyFile → List ℕ
file_name (Base name) = name.now
file_name (Numbered name) = name

-- a name that isn't in the family
abbrev pub IsNoPlan : List ℕ → List ℕ → Type 0
IsNoPlan base name = (k : ℕ) → k ≤ MOST_PLANS → name ≢ family_name base k

-- all names but those of the family and base.part hold what they held
abbrev pub SameOutside : List ℕ → Files → Files → Type 0
SameOutside base before after = (name : List ℕ) → IsNoPlan base name → name ≢ part_name base → get after name ≡ get before name
