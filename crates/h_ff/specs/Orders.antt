-- Which best supporters of an order are needed.
use Rattle.std.specs.Prelude.{◌≡◌, ℕ, List, reverse, Bool, false, slice_index_or}
use Rattle.std.specs.List.{filter_map}
use Rattle.relaxed_task.specs.declared.unary.Unary.{Unary}
use Rattle.relaxed_task.specs.Numbers.{is_among, over_numbers}
use Rattle.relaxed_task.specs.Relaxing.{asked, kept}

-- a flag for each fact
abbrev pub is_given : List Bool → ℕ → Bool
is_given flags fact = slice_index_or flags fact false

-- their operators, one after the other; a rule has none
abbrev pub ops_of : List Unary → List ℕ
ops_of list = filter_map (λ u. u.op) list

-- after some of an order, the last first: the goal facts and the conditions of what is kept are marked, and the operators of what is kept are there
pub record IsPlanned (goals : List ℕ) (list : List Unary) (marks : List Bool) (ops : List ℕ) : Type 0 where
  pub marked : (fact : ℕ) → is_given marks fact ≡ is_among (asked over_numbers goals (kept over_numbers goals list)) fact
  pub operators : ops ≡ reverse (ops_of (kept over_numbers goals list))
