-- What columns that stand side by side stand for.
use Rattle.std.specs.Prelude.{ℕ, List, [], ◌∷◌}
use Rattle.search_log.specs.declared.columns.VisitRow.{VisitRow}
use Rattle.search_log.specs.declared.columns.PopRow.{PopRow}
use Rattle.search_log.specs.declared.turns.Pop.{Pop}
use Rattle.search_log.specs.Logs.{Visit}
use Rattle.search_log.specs.Members.{Member}

-- what each of two that stand side by side make
abbrev pub beside : {A B C : Type 0} → (A → B → C) → List A → List B → List C
beside f [] ys = []
beside f (x ∷ xs) [] = []
beside f (x ∷ xs) (y ∷ ys) = f x y ∷ beside f xs ys

-- a visit with its preferred operators
abbrev pub visit_of : VisitRow → List ℕ → Visit
visit_of row preferred = record { id = row.id; g = row.g; seen = record { dead = row.dead; estimates = row.estimates; preferred = preferred } }

abbrev pub pop_of : PopRow → Pop
pop_of row = record { list = row.list; parent = row.parent; op = row.op; result = row.result }

-- a state with its cost
abbrev pub member_of : List ℕ → ℕ → Member
member_of state cost = record { state = state; cost = cost }
