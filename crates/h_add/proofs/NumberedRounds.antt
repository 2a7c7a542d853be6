-- Laws of ByNumber.
use Rattle.std.specs.Prelude.{ℕ, List, Bool, ◌&&◌, not}
use Rattle.lama_num.specs.declared.estimates.Estimate.{Estimate}
use Rattle.relaxed_task.specs.declared.unary.Unary.{Unary}
use Rattle.relaxed_task.specs.Numbers.{over_numbers, is_among}
use Rattle.relaxed_task.specs.Relaxing.{price_of, cost_in}

-- there at the start, and not left out
abbrev pub is_started : List ℕ → List ℕ → ℕ → Bool
is_started start without fact = is_among start fact && not (is_among without fact)

abbrev pub price : (ℕ → Estimate) → Unary → Estimate
price value u = price_of over_numbers value u

abbrev pub add_round : List Unary → List ℕ → List ℕ → ℕ → ℕ → Estimate
add_round unaries start without n fact = cost_in over_numbers unaries start without n fact
