-- Laws of numbers that wait.
use Rattle.std.specs.Prelude.{◌≡◌, ℕ, ◌<◌, ◌≤◌, List, length, Option, Some, None, if◌then◌else◌}
use Rattle.std.specs.Option.{is_some}
use Rattle.std.proofs.Common.{◌∙◌, inl, inr, sym, ap, arith, get_or}
use Rattle.std.proofs.lemmas.Bool.{cases_lt}
use Rattle.std.proofs.lemmas.List.{get_or_past}
use Rattle.std.proofs.lemmas.List.Sums.{count_by-le-length, sum_by-set}
use Rattle.cost_queue.specs.declared.entry.Entry.{Entry}
use Rattle.cost_queue.specs.Queues.{price_of, waiting_count, IsTaken}

-- a number that waits is there
pub there : (waiting : List (Option ℕ)) (number price : ℕ) → price_of waiting number ≡ Some price → number < length waiting
there waiting number price at = elim (cases_lt number (length waiting)) [
  | inl lt ↦ lt
  | inr past ↦ let k : None ≡ Some price = sym (get_or_past waiting number None past) ∙ at in absurd cc
]

abbrev one_waits : Option ℕ → ℕ
one_waits x = if is_some x then 1 else 0

-- fewer wait than before
pub taken_fewer : (old new : List (Option ℕ)) (entry : Entry) → IsTaken old new entry → waiting_count new < waiting_count old
taken_fewer old new entry taken =
    let less = sum_by-set one_waits old entry.number None None (there old entry.number entry.price taken.waited) in
    let one : one_waits (get_or old entry.number None) ≡ 1 = ap one_waits taken.waited in
    let rest = ap waiting_count taken.rest in
    omega (arith, less, one, rest)

-- no more wait than there are
pub waiting_within : (waiting : List (Option ℕ)) → waiting_count waiting ≤ length waiting
waiting_within waiting = count_by-le-length is_some waiting
