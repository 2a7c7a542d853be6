-- The branches of a tree, and the ways to its nodes.
use Rattle.std.specs.Prelude.{◌≡◌, ◌⊎◌, ℕ, ◌-◌, ◌<◌, List, [], ◌∷◌, ◌++◌, length, slice_get, Option, Some, None}
use Rattle.lama_num.specs.Rows.{row_at}
use Rattle.sas_task.specs.declared.contents.Fact.{Fact}
use Rattle.succ_gen.specs.declared.growing.Branch.{Branch}
use Rattle.succ_gen.specs.declared.growing.Home.{Home}
use Rattle.succ_gen.specs.declared.growing.Step.{Step}

-- the ways to the nodes that branches add to those with these ways
abbrev pub ways_from : List (List Fact) → List Branch → List (List Fact)
ways_from ways [] = ways
ways_from ways (b ∷ bs) = ways_from (ways ++ (row_at ways b.parent ++ b.fact ∷ []) ∷ []) bs

-- the facts on the way from the root to each node; none lead to the root, which is the first
abbrev pub ways : List Branch → List (List Fact)
ways branches = ways_from ([] ∷ []) branches

-- the branch by which a step goes
abbrev pub branch_of : Step → Branch
branch_of step = record { parent = step.node; fact = step.fact }

-- a branch is the last
pub record EndsIn (branches : List Branch) (branch : Branch) : Type 0 where
  pub last : slice_get branches (length branches - 1) ≡ Some branch

-- A step goes by the last branch. It is new, unless it was the last before. There is a number for the node behind it.
pub record AddsBranch (step : Step) (old new : List Branch) : Type 0 where
  pub few : length new < 4294967294
  pub ends : EndsIn new (branch_of step)
  pub cases : (new ≡ old) ⊎ ((EndsIn old (branch_of step) → ⊥) × (new ≡ old ++ branch_of step ∷ []))

-- An operator stands at a node where no more of its conditions is left, and goes on by the next one else.
abbrev pub IsPlaced : List (List Fact) → ℕ → ℕ → ℕ → List Home → List Home → List Step → List Step → Type 0
IsPlaced conditions depth node operator homes new_homes steps new_steps = placed (slice_get (row_at conditions operator) depth)
  where
    placed : Option Fact → Type 0
    placed None = (new_homes ≡ homes ++ record { node = node; operator = operator } ∷ []) × (new_steps ≡ steps)
    placed (Some fact) = (new_homes ≡ homes) × (new_steps ≡ steps ++ record { node = node; fact = fact; operator = operator } ∷ [])
