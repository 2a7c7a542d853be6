-- Pairs that were read, before those to come.
use Rattle.std.proofs.Common.{◌≡◌, refl, ℕ, suc, ◌+◌, ◌-◌, ◌<◌, ◌≤◌, ◌++◌, ◌∷◌, [], List, Option, Some, None, append_assoc, arith}
use Rattle.std.specs.Prelude.{option_map}
use Rattle.std.proofs.lemmas.List.{append-nil}
use Rattle.sas_reader.specs.Reading.{pair_at, pairs_at}
use Rattle.sas_reader.specs.declared.numbers.Pair.{Pair}

-- pairs in front of those that are still to be read
abbrev pub before : List Pair → Option (List Pair × List (List ℕ)) → Option (List Pair × List (List ℕ))
before front read = option_map (λ r. (front ++ r.0, r.1)) read

-- one more pair
pub pairs_more : (front : List Pair) (n i : ℕ) (words rest : List (List ℕ)) (pair : Pair) → i < n → pair_at words ≡ Some (pair, rest) →
    before (front ++ pair ∷ []) (pairs_at (n - (i + 1)) rest) ≡ before front (pairs_at (n - i) words)
unfolding pairs_at
pairs_more front n i words rest pair lt is = let one : n - i ≡ suc (n - (i + 1)) = omega arith in rw (one, is) (next_one (pairs_at (n - (i + 1)) rest))
  where
    next_one : (r : Option (List Pair × List (List ℕ))) → before (front ++ pair ∷ []) r ≡ before front (option_map (λ pairs. (pair ∷ pairs.0, pairs.1)) r)
    next_one None = refl
    next_one (Some r) = simp append_assoc

-- no pair
pub pairs_stop : (front : List Pair) (n i : ℕ) (words : List (List ℕ)) → i < n → pair_at words ≡ None → before front (pairs_at (n - i) words) ≡ None
unfolding pairs_at
pairs_stop front n i words lt is = let one : n - i ≡ suc (n - (i + 1)) = omega arith in rw (one, is) refl

-- none is left
pub pairs_none : (front : List Pair) (n i : ℕ) (words : List (List ℕ)) → n ≤ i → before front (pairs_at (n - i) words) ≡ Some (front, words)
unfolding pairs_at
pairs_none front n i words le = let none : n - i ≡ 0 = omega arith in rw (none, append-nil front) refl

pub ruleset pairs_loop = (pairs_more, pairs_stop, pairs_none)
