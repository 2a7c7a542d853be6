-- Entries that are kept as a row of operators, with runs beside it.
use Rattle.std.specs.Prelude.{◌≡◌, ℕ, ◌+◌, ◌-◌, true, List, [], ◌∷◌, ◌++◌, length, map, take, drop, nat_lt, if◌then◌else◌}
use Rattle.std.specs.List.{list_all}
use Rattle.open_lists.specs.declared.entry.Entry.{Entry}
use Rattle.open_lists.specs.declared.runs.Run.{Run}

-- an operator in the state of a visit
abbrev pub entry_of : ℕ → ℕ → Entry
entry_of parent op = record { parent = parent; op = op }

-- operators of one visit, in order
abbrev pub entries_of_visit : ℕ → List ℕ → List Entry
entries_of_visit parent operators = map (entry_of parent) operators

-- each run has the next operators of the row
abbrev pub entries_in : List Run → List ℕ → List Entry
entries_in [] operators = []
entries_in (run ∷ runs) operators = entries_of_visit run.parent (take run.count operators) ++ entries_in runs (drop run.count operators)

abbrev pub total : List Run → ℕ
total [] = 0
total (run ∷ runs) = run.count + total runs

-- each run has operators, and all of them have the whole row
pub record AreRunsOf (runs : List Run) (operators : List ℕ) : Type 0 where
  pub all : total runs ≡ length operators
  pub filled : list_all (λ (run : Run). nat_lt 0 run.count) runs ≡ true

abbrev pub parent_of : List Run → ℕ
parent_of [] = 0
parent_of (run ∷ runs) = run.parent

-- the first run has one operator fewer
abbrev pub less_one : List Run → List Run
less_one [] = []
less_one (run ∷ runs) = if nat_lt 1 run.count then record { parent = run.parent; count = run.count - 1 } ∷ runs else runs
