-- Names of plan files.
use Rattle.std.specs.Prelude.{◌≡◌, ℕ, ◌<◌, ◌≤◌, ◌^◌, ◌++◌, List, length, codes, decimal, Bool, ◌&&◌, Option, Some, None, nat_eq, nat_lt, nat_le, not, if◌then◌else◌}
use Rattle.std.specs.List.{list_all}
use Rattle.lama_num.specs.declared.names.TheConstants.{MOST_PLANS}

-- a base is neither empty nor longer than 200 bytes, and has no NUL byte
abbrev pub is_base : List ℕ → Bool
is_base text = nat_lt 0 (length text) && nat_le (length text) 200 && list_all (λ b. not (nat_eq b 0)) text

-- the base that a text gives, if it can be one
abbrev pub base_of : List ℕ → Option (List ℕ)
base_of text = if is_base text then Some text else None

-- base.n
abbrev pub numbered_name : List ℕ → ℕ → List ℕ
numbered_name base n = base ++ codes "." ++ decimal n

-- base.part
abbrev pub part_name : List ℕ → List ℕ
part_name base = base ++ codes ".part"

-- base.cE
abbrev pub child_name : List ℕ → ℕ → List ℕ
child_name base entry = base ++ codes ".c" ++ decimal entry

-- numbers of plans and of portfolio entries
pub record IsPlanNumber (n : ℕ) : Type 0 where
  pub low : 1 ≤ n
  pub high : n ≤ MOST_PLANS

pub record IsEntryNumber (entry : ℕ) : Type 0 where
  pub low : 1 ≤ entry
  pub high : entry ≤ 1000

-- a file that a run with a base may write: a single plan, the plan that is being written, numbered plans, and those of a child
pub data RunFile : Type 0 where
  Single : RunFile
  Part : RunFile
  Numbered : ℕ → RunFile
  ChildSingle : ℕ → RunFile
  ChildNumbered : ℕ → ℕ → RunFile

-- its name: base, base.part, base.n, base.cE and base.cE.n
abbrev pub name_of : List ℕ → RunFile → List ℕ
name_of base Single = base
name_of base Part = part_name base
name_of base (Numbered n) = numbered_name base n
name_of base (ChildSingle entry) = child_name base entry
name_of base (ChildNumbered entry n) = numbered_name (child_name base entry) n

-- its numbers have 64 bits
abbrev pub HasSmallNumbers : RunFile → Type 0
HasSmallNumbers Single = Unit {0}
HasSmallNumbers Part = Unit {0}
HasSmallNumbers (Numbered n) = n < 2 ^ 64
HasSmallNumbers (ChildSingle entry) = entry < 2 ^ 64
HasSmallNumbers (ChildNumbered entry n) = (entry < 2 ^ 64) × (n < 2 ^ 64)

-- a name is that of no other file of a run with this base
pub record NamesOnly (base name : List ℕ) (file : RunFile) : Type 0 where
  pub only : (other : RunFile) → HasSmallNumbers other → name ≡ name_of base other → other ≡ file
