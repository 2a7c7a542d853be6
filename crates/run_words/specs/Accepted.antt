-- What holds of every request.
use Rattle.std.specs.Prelude.{◌≡◌, ℕ, ◌<◌, ◌≤◌, length, true, false, not, Option, is_some, IfSome}
use Rattle.run_words.specs.Grammar.{Text}
use Rattle.run_words.specs.OwnNames.{is_own_name}
use Rattle.run_words.specs.declared.request.Chosen.{Chosen}
use Rattle.run_words.specs.declared.request.Chosen.TheVariants.{Alias, Search, Portfolio}
use Rattle.run_words.specs.declared.request.Request.{Request}
use Rattle.run_words.specs.declared.values.Values.{Values}

-- the base of the plan files
abbrev pub IsBase : Text → Type 0
IsBase base = (0 < length base) × (length base ≤ 200)

-- milliseconds of 1 to 1,000,000 seconds
abbrev pub IsLimit : ℕ → Type 0
IsLimit n = (1000 ≤ n) × (n ≤ 1000000000)

-- KiB of 1 to 1,048,576 MiB
abbrev pub IsMemory : ℕ → Type 0
IsMemory n = (1024 ≤ n) × (n ≤ 1073741824)

abbrev pub IsMade : ℕ → Type 0
IsMade n = (1 ≤ n) × (n ≤ 100)

pub record AreWithin (values : Values) : Type 0 where
  pub base : IsBase values.base
  pub limit : IfSome values.limit IsLimit
  pub child_kib : IfSome values.child_kib IsMemory
  pub made : IfSome values.made IsMade

-- a portfolio has a limit of time, and its file is none of the run's own
abbrev pub FitsWork : Text → Option ℕ → Chosen → Type 0
FitsWork base limit (Alias alias) = Unit {0}
FitsWork base limit (Search text) = Unit {0}
FitsWork base limit (Portfolio name) = (is_some limit ≡ true) × (is_own_name base name ≡ false)

-- a request that is accepted: a task's file or a task to be made, values within their ranges, and inputs that are none of the run's own files
pub record IsAccepted (request : Request) : Type 0 where
  pub task : is_some request.task ≡ not (is_some request.made)
  pub base : IsBase request.base
  pub limit : IfSome request.limit IsLimit
  pub child_kib : IfSome request.child_kib IsMemory
  pub made : IfSome request.made IsMade
  pub apart : IfSome request.task (λ name. is_own_name request.base name ≡ false)
  pub work : FitsWork request.base request.limit request.work
