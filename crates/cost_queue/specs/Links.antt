-- How the numbers that wait are kept: in a chain for each low price, and in a heap.
use Rattle.std.specs.Prelude.{◌≡◌, ℕ, ◌+◌, ◌<◌, ◌≤◌, List, [], ◌∷◌, length, Bool, false, nat_eq, nat_le, Option, Some, None, slice_index_or, sum_by, if◌then◌else◌}
use Rattle.std.specs.List.{count_by}
use Rattle.std.specs.BinaryHeap.{IsHeap}
use Rattle.std.specs.Ordering.{nat_cmp, ordering_then}
use Rattle.std.specs.declared.cmp.Ordering.{Ordering}
use Rattle.std.specs.declared.cmp.Reverse.{Reverse}
use Rattle.cost_queue.specs.Occurrences.{one_if, occurrences}
use Rattle.cost_queue.specs.Queues.{price_of}

abbrev pub is_price : Option ℕ → ℕ → Bool
is_price None price = false
is_price (Some other) price = nat_eq price other

-- how often a number waits under a price: once or never
abbrev pub waits : List (Option ℕ) → ℕ → ℕ → ℕ
waits waiting number price = one_if (is_price (price_of waiting number) price)

-- a list of numbers, each of which leads to the next
abbrev pub IsChain : List (Option ℕ) → Option ℕ → List ℕ → Type 0
IsChain next head [] = head ≡ None
IsChain next head (number ∷ numbers) = (head ≡ Some number) × IsChain next (slice_index_or next number None) numbers

-- entries of the heap: the lesser price comes first
abbrev pub Item : Type 0
Item = Reverse (ℕ × ℕ)

abbrev pub order : Item → Item → Ordering
order x y = ordering_then (nat_cmp y.0.0 x.0.0) (nat_cmp y.0.1 x.0.1)

-- one for a number that has a price
abbrev pub one_of : ℕ → Option ℕ → ℕ → ℕ → ℕ
one_of other o number price = if nat_eq number other then one_if (is_price o price) else 0

-- how often a number stands in a heap with a price
abbrev pub times : ℕ → ℕ → List Item → ℕ
times number price heap = sum_by (λ x. one_of x.0.1 (Some x.0.0) number price) heap

abbrev pub is_high : Option ℕ → Bool
is_high None = false
is_high (Some price) = nat_le 16384 price

-- what is kept for a queue: the numbers that wait under a price are in its chain, or in the heap, which has room for all
pub record IsQueue (next heads : List (Option ℕ)) (start end : ℕ) (heap : List Item) (len capacity : ℕ) (waiting : List (Option ℕ)) (chain : ℕ → List ℕ) : Type 0 where
  pub few : length next ≤ 4294967295
  pub next_long : length waiting ≡ length next
  pub heads_long : length heads ≡ 16384
  pub end_within : end ≤ 16384
  pub idle : (price : ℕ) → (start ≤ price → price < end → slice_index_or heads price None ≡ None) → slice_index_or heads price None ≡ None
  pub chains : (price : ℕ) → IsChain next (slice_index_or heads price None) (chain price)
  pub those : (number price : ℕ) → occurrences number (chain price) + times number price heap ≡ waits waiting number price
  pub high : (number price : ℕ) → price < 16384 → times number price heap ≡ 0
  pub ordered : IsHeap order heap
  pub count : len ≡ count_by is_high waiting
  pub room : length next ≤ capacity

-- the prices of the numbers for which a queue is kept
abbrev pub Waiting : List (Option ℕ) → List (Option ℕ) → ℕ → ℕ → List Item → ℕ → ℕ → Type 0
Waiting next heads start end heap len capacity = (waiting : List (Option ℕ)) × ((chain : ℕ → List ℕ) × IsQueue next heads start end heap len capacity waiting chain)
