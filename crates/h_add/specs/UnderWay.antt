-- An evaluation under way: what facts cost so far, which of them are settled, and what is true of that.
use Rattle.std.specs.Prelude.{◌≡◌, ℕ, ◌+◌, ◌-◌, ◌≤◌, List, [], ◌∷◌, ◌++◌, length, min, Bool, true, false, not, ◌&&◌, nat_lt, nat_le, Option, Some, slice_index, slice_index_or, slice_set, if◌then◌else◌, IsTrue, ◌*◌, ◌<◌, map, ◌||◌, ◌⊎◌, slice_get}
use Rattle.std.specs.List.{count_by, list_all}
use Rattle.relaxed_task.specs.declared.relaxation.Lists.{Lists}
use Rattle.h_add.specs.declared.network.Open.{Open}
use Rattle.h_add.specs.Orders.{are_places, chosen, given_by}
use Rattle.cost_queue.specs.Occurrences.{one_if, occurrences}
use Rattle.cost_queue.specs.Queues.{price_of, waiting_count, IsIdle}
use Rattle.relaxed_task.specs.declared.unary.Unary.{Unary}
use Rattle.relaxed_task.specs.Numbers.{is_among, is_below, over_numbers}
use Rattle.relaxed_task.specs.Relaxing.{IsInOrder}
use Rattle.h_add.specs.Networks.{open_at_start}
use Rattle.lama_num.specs.declared.estimates.TheConstants.{LARGEST_ESTIMATE}

-- For each fact what it costs so far and whether that is settled; for each unary operator what it has open, and the price
-- under which it waits, if it does; and the unary operators that settled a fact, in order.
pub record Settlement : Type 0 where
  pub costs : List ℕ
  pub settled : List Bool
  pub opens : List Open
  pub waiting : List (Option ℕ)
  pub order : List ℕ

abbrev pub unsettled : List Bool → ℕ
unsettled flags = count_by not flags

-- all speak of the same facts and unary operators, and the order has room for all facts
pub record AreLevel (costs : List ℕ) (settled : List Bool) (opens : List Open) (waiting : List (Option ℕ)) (order : List ℕ) (room : ℕ) : Type 0 where
  pub settled_long : length settled ≡ length costs
  pub waiting_long : length waiting ≡ length opens
  pub order_count : length order + unsettled settled ≤ length costs
  pub order_fits : length costs ≤ room

abbrev pub cost_at : Settlement → ℕ → ℕ
cost_at t fact = slice_index_or t.costs fact 4294967295

abbrev pub is_settled : Settlement → ℕ → Bool
is_settled t fact = slice_index_or t.settled fact false

-- settled at a cost
abbrev pub is_reached : Settlement → ℕ → Bool
is_reached t fact = is_settled t fact && nat_le (cost_at t fact) LARGEST_ESTIMATE

-- settled with nothing given
abbrev pub is_left_out : Settlement → ℕ → Bool
is_left_out t fact = is_settled t fact && not (nat_le (cost_at t fact) LARGEST_ESTIMATE)

abbrev pub open_at : Settlement → ℕ → Open
open_at t place = slice_index_or t.opens place (record { count = 0; sum = 0 })

-- a unary operator offers what it gives: where that is less than what the fact costs, the fact costs it, and the unary operator waits
abbrev pub offered : Settlement → ℕ → ℕ → ℕ → Settlement
offered t fact place price =
    if nat_lt price (slice_index t.costs fact) && not (is_settled t fact)
    then (record t { costs = slice_set t.costs fact price; waiting = slice_set t.waiting place (Some price) })
    else t

-- one condition less is open
abbrev pub less_open : Open → ℕ → Open
less_open counts value = record { count = counts.count - 1; sum = min (counts.sum + value) LARGEST_ESTIMATE }

abbrev pub counted : Settlement → ℕ → ℕ → Settlement
counted t place value = record t { opens = slice_set t.opens place (less_open (open_at t place) value) }

-- a fact that is there at first is settled at no cost
abbrev pub there_at : Settlement → ℕ → Settlement
there_at t fact = record t { costs = slice_set t.costs fact 0; settled = slice_set t.settled fact true }

-- a unary operator settles the fact that it gives, which costs its price already
abbrev pub given_at : Settlement → ℕ → ℕ → Settlement
given_at t fact place = record t { settled = slice_set t.settled fact true; order = t.order ++ place ∷ [] }

-- what an evaluator keeps between evaluations: a cost for each fact of the relaxation, and a count for each unary operator
pub record IsReady (relaxed : Lists) (settling : Settlement) : Type 0 where
  pub facts : relaxed.facts ≡ length settling.costs
  pub unaries : length settling.opens ≡ length relaxed.unaries
  pub places : IsTrue (are_places (length relaxed.unaries) settling.order)

-- a condition that isn't reached is open
abbrev pub one_open : Settlement → ℕ → ℕ
one_open t fact = one_if (not (is_reached t fact))

-- what is paid for a fact that is reached
abbrev pub share : Settlement → ℕ → ℕ
share t fact = if is_reached t fact then cost_at t fact else 0

abbrev pub summed : (ℕ → ℕ) → List ℕ → ℕ
summed f [] = 0
summed f (c ∷ conds) = f c + summed f conds

-- A unary operator has counted the conditions that are reached, but for those that are owed at a cost. One that has none open has offered
-- what it gives.
pub record IsCounted (t : Settlement) (level : ℕ) (owed : List ℕ) (place : ℕ) (u : Unary) : Type 0 where
  pub count : (open_at t place).count ≡ summed (one_open t) u.conds + occurrences place owed
  pub sum : min ((open_at t place).sum + occurrences place owed * level) LARGEST_ESTIMATE ≡ min (u.cost + summed (share t) u.conds) LARGEST_ESTIMATE
  pub small : (open_at t place).sum ≤ LARGEST_ESTIMATE
  pub offered : (open_at t place).count ≡ 0 → is_left_out t u.gives ≡ false → cost_at t u.gives ≤ (open_at t place).sum

-- who waits has no open condition, and waits for its price
pub record IsWaiting (t : Settlement) (level place price : ℕ) : Type 0 where
  pub none_open : (open_at t place).count ≡ 0
  pub price_is : price ≡ (open_at t place).sum
  pub above : level ≤ price

-- a unary operator waits that gives a fact for what it costs
pub record IsWanted (unaries : List Unary) (t : Settlement) (fact : ℕ) : Type 0 where
  pub place : ℕ
  pub unary : Unary
  pub at : slice_get unaries place ≡ Some unary
  pub gives : unary.gives ≡ fact
  pub waits : price_of t.waiting place ≡ Some (cost_at t fact)

-- a unary operator that settled a fact gives it for what it costs
pub record HasSettled (unaries : List Unary) (t : Settlement) (place : ℕ) : Type 0 where
  pub unary : Unary
  pub at : slice_get unaries place ≡ Some unary
  pub none_open : (open_at t place).count ≡ 0
  pub reached : is_reached t unary.gives ≡ true
  pub pays : cost_at t unary.gives ≡ (open_at t place).sum

-- Facts that are settled cost at most so much, and those that wait at least. Some unary operators have still to count a fact of that cost.
pub record IsUnderWay (unaries : List Unary) (level : ℕ) (owed : List ℕ) (t : Settlement) : Type 0 where
  pub level_small : level ≤ LARGEST_ESTIMATE
  pub opens_long : length t.opens ≡ length unaries
  pub each : (place : ℕ) (u : Unary) → slice_get unaries place ≡ Some u → IsCounted t level owed place u
  pub waits : (place price : ℕ) → price_of t.waiting place ≡ Some price → IsWaiting t level place price
  pub wanted : (fact : ℕ) → is_settled t fact ≡ false → cost_at t fact ≤ LARGEST_ESTIMATE → IsWanted unaries t fact
  pub low : (fact : ℕ) → is_reached t fact ≡ true → cost_at t fact ≤ level
  pub settled_by : (place : ℕ) → is_among t.order place ≡ true → HasSettled unaries t place

-- some have still to count a fact, among them that at a place
pub record Owes (unaries : List Unary) (level place : ℕ) (t : Settlement) : Type 0 where
  pub owed : List ℕ
  pub way : IsUnderWay unaries level (place ∷ owed) t

-- with nothing owed
pub record IsSettling (unaries : List Unary) (t : Settlement) : Type 0 where
  pub level : ℕ
  pub way : IsUnderWay unaries level [] t

-- No fact is reached: those that are settled are left out.
pub record IsFresh (unaries : List Unary) (t : Settlement) : Type 0 where
  pub costs : (fact : ℕ) → LARGEST_ESTIMATE < cost_at t fact
  pub opens : t.opens ≡ map open_at_start unaries
  pub idle : IsIdle t.waiting
  pub order : t.order ≡ []

-- from the facts that were there at first, and those that the order gave
pub record IsFrom (unaries : List Unary) (without had : List ℕ) (t : Settlement) : Type 0 where
  pub out : (fact : ℕ) → is_left_out t fact ≡ is_among without fact
  pub settled : (fact : ℕ) → is_settled t fact ≡ (is_among without fact || is_among (had ++ given_by (chosen unaries t.order)) fact)
  pub first : (fact : ℕ) → is_among had fact ≡ true → is_among without fact ≡ false → cost_at t fact ≡ 0
  pub in_order : IsInOrder over_numbers had (chosen unaries t.order)

-- some unary operators counted a fact
pub record HasCounted (old new : Settlement) : Type 0 where
  pub settled : new.settled ≡ old.settled
  pub order : new.order ≡ old.order
  pub costs_long : length new.costs ≡ length old.costs
  pub waiting_long : length new.waiting ≡ length old.waiting
  pub kept : (fact : ℕ) → is_settled old fact ≡ true → cost_at new fact ≡ cost_at old fact

-- before any unary operator settled a fact, some facts more are there at first
pub record HasMarked (unaries : List Unary) (facts : List ℕ) (old new : Settlement) : Type 0 where
  pub way : IsUnderWay unaries 0 [] new
  pub settled : (fact : ℕ) → is_settled new fact ≡ (is_settled old fact || (is_among facts fact && is_below (length old.costs) fact))
  pub out : (fact : ℕ) → is_left_out new fact ≡ is_left_out old fact
  pub order : new.order ≡ old.order
  pub long : length new.costs ≡ length old.costs

-- some facts more are settled by unary operators
pub record IsLater (unaries : List Unary) (old new : Settlement) : Type 0 where
  pub way : IsSettling unaries new
  pub from : (without had : List ℕ) → IsFrom unaries without had old → IsFrom unaries without had new
  pub long : length new.costs ≡ length old.costs
  pub stays : (fact : ℕ) → is_settled old fact ≡ true → is_settled new fact ≡ true

-- what is left to do: it falls with each unary operator that is taken
abbrev pub left_to_do : Settlement → ℕ
left_to_do t = unsettled t.settled * (length t.waiting + 1) + waiting_count t.waiting

-- some facts are settled, or none waits
abbrev pub AreSettled : List ℕ → Settlement → Type 0
AreSettled facts t = (list_all (is_settled t) facts ≡ true) ⊎ IsIdle t.waiting
