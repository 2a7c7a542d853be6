-- Loops over the members of a list, from one turn to the next.
use Rattle.std.proofs.Common.{◌≡◌, sym, ℕ, suc, ◌+◌, ◌-◌, ◌<◌, ◌≤◌, true, false, List, Result, Ok, arith}
use Rattle.lama_num.specs.Gives.{Fails}
use Rattle.conf_text.specs.Tokens.{Spot}
use Rattle.conf_text.specs.Rules.{Rule, member_and_more, members, refusal}
use Rattle.conf_text.specs.declared.faults.ConfBad.{ConfBad}
use Rattle.conf_text.specs.declared.faults.ConfError.{ConfError}
use Rattle.conf_text.specs.declared.faults.ConfError.TheVariants.{Bad, NoMemory}

-- another member follows
pub goes_on : {A : Type 0} (close : List ℕ) (member : A → Rule A) (n i : ℕ) (x y : A) (s t : Spot) (all : Result (A × Spot) ConfBad) →
    i < n → members close member (n - i) x s ≡ all → member_and_more close member x s ≡ Ok ((y, true), t) → members close member (n - (i + 1)) y t ≡ all
unfolding members
goes_on close member n i x y s t all lt kept is = let one : n - i ≡ suc (n - (i + 1)) = omega arith in rw (one, is) at kept

-- the list is closed
pub ends : {A : Type 0} (close : List ℕ) (member : A → Rule A) (n i : ℕ) (x y : A) (s t : Spot) (all : Result (A × Spot) ConfBad) →
    i < n → members close member (n - i) x s ≡ all → member_and_more close member x s ≡ Ok ((y, false), t) → all ≡ Ok (y, t)
unfolding members
ends close member n i x y s t all lt kept is = let one : n - i ≡ suc (n - (i + 1)) = omega arith in sym (rw (one, is) at kept)

-- a member is refused, or memory is wanting
pub stops : {A : Type 0} (close : List ℕ) (member : A → Rule A) (n i : ℕ) (x : A) (s : Spot) (all : Result (A × Spot) ConfBad) (e : ConfError) →
    i < n → members close member (n - i) x s ≡ all → Fails (refusal e) (member_and_more close member x s) → Fails (refusal e) all
unfolding members
stops close member n i x s all (Bad bad) lt kept is = let one : n - i ≡ suc (n - (i + 1)) = omega arith in sym (rw (one, is) at kept)
stops close member n i x s all NoMemory lt kept is = tt

-- no turn is left
pub no_turn : {A : Type 0} (close : List ℕ) (member : A → Rule A) (n i : ℕ) (x : A) (s : Spot) (all : Result (A × Spot) ConfBad) →
    n ≤ i → members close member (n - i) x s ≡ all → all ≡ Ok (x, s)
unfolding members
no_turn close member n i x s all le kept = let none : n - i ≡ 0 = omega arith in sym (rw none at kept)

pub ruleset turns = (goes_on, ends, stops, no_turn)
