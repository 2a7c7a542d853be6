-- What unary operators need and give.
use Rattle.std.specs.Prelude.{◌≡◌, ℕ, ◌+◌, ◌-◌, List, [], ◌∷◌, length, min, max, Bool, nat_eq, map, slice_get, slice_index_or, Some, IsTrue, if◌then◌else◌}
use Rattle.std.specs.List.{list_all}
use Rattle.cost_queue.specs.Occurrences.{occurrences}
use Rattle.lama_num.specs.Rows.{row_at}
use Rattle.relaxed_task.specs.declared.unary.Unary.{Unary}
use Rattle.relaxed_task.specs.Numbers.{is_below, is_unary_below}
use Rattle.relaxed_task.specs.declared.relaxation.Lists.{Lists}
use Rattle.h_add.specs.declared.network.Open.{Open}
use Rattle.lama_num.specs.declared.estimates.TheConstants.{LARGEST_ESTIMATE}

abbrev pub are_below : ℕ → List ℕ → Bool
are_below n facts = list_all (is_below n) facts

-- the conditions, or a fact that is always there where there are none
abbrev pub needed : ℕ → List ℕ → List ℕ
needed always [] = always ∷ []
needed always (c ∷ conds) = c ∷ conds

-- a unary operator stands in the row of a fact as often as it needs the fact, and nothing else does
abbrev pub IsNeededBy : List Unary → ℕ → ℕ → List ℕ → Type 0
IsNeededBy unaries always fact row = (i : ℕ) → occurrences i row ≡ slice_index_or (map (λ u. occurrences fact (needed always u.conds)) unaries) i 0

abbrev pub IsNeeds : List Unary → ℕ → List (List ℕ) → Type 0
IsNeeds unaries always needs = (fact : ℕ) → IsNeededBy unaries always fact (row_at needs fact)

-- those that have no conditions stand in a row once, and no others
abbrev pub AreFree : List Unary → List ℕ → Type 0
AreFree unaries row = (i : ℕ) (u : Unary) → slice_get unaries i ≡ Some u → occurrences i row ≡ 1 - length u.conds

-- all that is needed, and the cost, at most 1,000,000,000
abbrev pub open_at_start : Unary → Open
open_at_start u = record { count = max (length u.conds) 1; sum = min u.cost LARGEST_ESTIMATE }

-- a place was added to the lists of some facts, as often as they stand there
pub record Listed (old new : List (List ℕ)) (facts : List ℕ) (place : ℕ) : Type 0 where
  pub long : length new ≡ length old
  pub counts : (fact i : ℕ) → occurrences i (row_at new fact) ≡ occurrences i (row_at old fact) + (if nat_eq i place then occurrences fact facts else 0)

-- what the unary operators give, what they have open at the start, and who needs each fact
pub record AreTables (relaxed : Lists) (gives : List ℕ) (opens : List Open) (needs : List (List ℕ)) : Type 0 where
  pub unaries_below : IsTrue (list_all (is_unary_below relaxed.facts) relaxed.unaries)
  pub gives_are : gives ≡ map (λ u. u.gives) relaxed.unaries
  pub gives_below : IsTrue (are_below relaxed.facts gives)
  pub opens_are : opens ≡ map open_at_start relaxed.unaries
  pub needs_are : IsNeeds relaxed.unaries relaxed.facts needs
  pub needs_long : length needs ≡ relaxed.facts + 1
