-- What branches, operators at nodes and steps are, level by level.
use Rattle.std.specs.Prelude.{◌≡◌, ℕ, ◌+◌, ◌<◌, ◌≤◌, List, ◌++◌, length, map, take, slice_get, Some}
use Rattle.std.specs.List.{range_with_len}
use Rattle.std.specs.List.Sorted.{IsNonDecreasingBy, IsPermutation}
use Rattle.lama_num.specs.Rows.{row_at}
use Rattle.sas_task.specs.declared.contents.Fact.{Fact}
use Rattle.succ_gen.specs.declared.growing.Branch.{Branch}
use Rattle.succ_gen.specs.declared.growing.Home.{Home}
use Rattle.succ_gen.specs.declared.growing.Step.{Step}
use Rattle.succ_gen.specs.Branches.{ways}
use Rattle.succ_gen.specs.Conditions.{IsCondition}

abbrev pub parent_of : Branch → ℕ
parent_of branch = branch.parent

abbrev pub node_of : Home → ℕ
node_of home = home.node

abbrev pub operators_at : List Home → List ℕ
operators_at homes = map (λ h. h.operator) homes

abbrev pub operators_going : List Step → List ℕ
operators_going steps = map (λ s. s.operator) steps

-- the way to the node has all conditions of the operator
pub record IsHome (conditions : List (List Fact)) (branches : List Branch) (home : Home) : Type 0 where
  pub operator : home.operator < length conditions
  pub node : home.node ≤ length branches
  pub way : row_at (ways branches) home.node ≡ row_at conditions home.operator

-- The parents don't fall, each comes before its children, and of neighbours with the same parent and variable the later has the higher
-- value. The operators stand where their conditions lead, in the order of the nodes.
pub record IsGrown (conditions : List (List Fact)) (branches : List Branch) (homes : List Home) : Type 0 where
  pub few : length branches < 4294967294
  pub parents : IsNonDecreasingBy parent_of branches
  pub earlier : (c : ℕ) (b : Branch) → slice_get branches c ≡ Some b → b.parent ≤ c
  pub rising : (c : ℕ) (a b : Branch) → slice_get branches c ≡ Some a → slice_get branches (c + 1) ≡ Some b → a.parent ≡ b.parent → a.fact.var ≡ b.fact.var → a.fact.val < b.fact.val
  pub known : (c : ℕ) (b : Branch) → slice_get branches c ≡ Some b → IsCondition conditions b.fact
  pub stands : (k : ℕ) (h : Home) → slice_get homes k ≡ Some h → IsHome conditions branches h
  pub nodes : IsNonDecreasingBy node_of homes

-- a tree at which each operator stands once
pub record IsWhole (conditions : List (List Fact)) (branches : List Branch) (homes : List Home) : Type 0 where
  pub grown : IsGrown conditions branches homes
  pub all : IsPermutation (range_with_len 0 (length conditions)) (operators_at homes)

-- the way to the node has so many conditions of the operator, and the fact is the next
pub record IsStepAt (conditions : List (List Fact)) (depth : ℕ) (branches : List Branch) (step : Step) : Type 0 where
  pub operator : step.operator < length conditions
  pub node : step.node ≤ length branches
  pub way : row_at (ways branches) step.node ≡ take depth (row_at conditions step.operator)
  pub next : slice_get (row_at conditions step.operator) depth ≡ Some step.fact

-- A level of the tree is to come, by steps from nodes that have no children yet. Each operator stands at a node or goes on.
pub record IsLevel (conditions : List (List Fact)) (depth : ℕ) (branches : List Branch) (homes : List Home) (steps : List Step) : Type 0 where
  pub grown : IsGrown conditions branches homes
  pub comes : (k : ℕ) (s : Step) → slice_get steps k ≡ Some s → IsStepAt conditions depth branches s
  pub all : IsPermutation (range_with_len 0 (length conditions)) (operators_at homes ++ operators_going steps)
  pub fresh : (c k : ℕ) (b : Branch) (s : Step) → slice_get branches c ≡ Some b → slice_get steps k ≡ Some s → b.parent < s.node

-- the nodes of steps don't fall, and neither do values of one variable at one node
pub record AreInOrder (steps : List Step) : Type 0 where
  pub nodes : (k : ℕ) (a b : Step) → slice_get steps k ≡ Some a → slice_get steps (k + 1) ≡ Some b → a.node ≤ b.node
  pub values : (k : ℕ) (a b : Step) → slice_get steps k ≡ Some a → slice_get steps (k + 1) ≡ Some b → a.node ≡ b.node → a.fact.var ≡ b.fact.var → a.fact.val ≤ b.fact.val
