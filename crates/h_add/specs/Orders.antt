-- Best supporters one after another.
use Rattle.std.specs.Prelude.{◌≡◌, ℕ, List, ◌++◌, map, Bool, true, length, nat_lt, slice_get}
use Rattle.std.specs.List.{list_all, filter_map}
use Rattle.lama_num.specs.declared.estimates.Estimate.{Estimate}
use Rattle.relaxed_task.specs.declared.unary.Unary.{Unary}
use Rattle.relaxed_task.specs.Estimates.{is_finite}
use Rattle.relaxed_task.specs.Numbers.{is_among, over_numbers}
use Rattle.relaxed_task.specs.Relaxing.{IsInOrder, AreBest}

-- the unary operators at some places
abbrev pub chosen : List Unary → List ℕ → List Unary
chosen unaries order = filter_map (λ i. slice_get unaries i) order

abbrev pub given_by : List Unary → List ℕ
given_by list = map (λ u. u.gives) list

abbrev pub are_places : ℕ → List ℕ → Bool
are_places n order = list_all (λ i. nat_lt i n) order

-- Best supporters in an order in which they can be applied from the start: they give all that is reached.
pub record IsOrder (unaries : List Unary) (start : List ℕ) (costs : ℕ → Estimate) (order : List ℕ) : Type 0 where
  pub places : are_places (length unaries) order ≡ true
  pub best : AreBest over_numbers unaries costs (chosen unaries order)
  pub in_order : IsInOrder over_numbers start (chosen unaries order)
  pub given : (fact : ℕ) → is_finite (costs fact) ≡ true → is_among (start ++ given_by (chosen unaries order)) fact ≡ true
