-- What one more effect writes.
use Rattle.std.proofs.Common.{◌≡◌, ◌≢◌, ◌∙◌, sym, ap, refl, ℕ, zero, suc, ◌+◌, ◌<◌, List, [], ◌∷◌, ◌++◌, length, map, Bool, true, false, cond, nat_eq, ◌&&◌, arith, slice_set, get_or, take}
use Rattle.std.specs.List.{enumerate_from}
use Rattle.std.proofs.lemmas.Bool.Decides.{nat_tests}
use Rattle.std.proofs.lemmas.List.{take_more, append-nil, map-append}
use Rattle.std.proofs.lemmas.List.Elements.{filter-append}
use Rattle.sas_task.specs.declared.contents.Effect.{Effect}
use Rattle.sas_task.specs.States.{given, last_or, fires, written}

last_or-append : (value : ℕ) (xs : List ℕ) (x : ℕ) → last_or value (xs ++ x ∷ []) ≡ x
last_or-append value [] x = refl
last_or-append value (y ∷ ys) x = last_or-append y ys x

-- what effects give, with one more at the end
given-append : (state : List ℕ) (effects : List Effect) (e : Effect) (var : ℕ) →
    given state (effects ++ e ∷ []) var ≡ given state effects var ++ given state (e ∷ []) var
given-append state effects e var = simp (filter-append, map-append)

one : (state : List ℕ) (e : Effect) (var : ℕ) (b : Bool) → (fires state e && nat_eq e.fact.var var) ≡ b → given state (e ∷ []) var ≡ cond b (e.fact.val ∷ []) []
one state e var true is = rw is refl
one state e var false is = rw is refl

abbrev from : List ℕ → List Effect → ℕ → List ℕ → List ℕ
from state effects k xs = map (λ p. last_or p.1 (given state effects p.0)) (enumerate_from k xs)

-- at a variable that the effect doesn't change
other : (state : List ℕ) (effects : List Effect) (e : Effect) (var value : ℕ) → (fires state e && nat_eq e.fact.var var) ≡ false →
    last_or value (given state (effects ++ e ∷ []) var) ≡ last_or value (given state effects var)
other state effects e var value is = rw (given-append state effects e var, one state e var false is, append-nil (given state effects var)) refl

-- at the one that it changes
changed : (state : List ℕ) (effects : List Effect) (e : Effect) (var value : ℕ) → (fires state e && nat_eq e.fact.var var) ≡ true →
    last_or value (given state (effects ++ e ∷ []) var) ≡ e.fact.val
changed state effects e var value is = rw (given-append state effects e var, one state e var true is, last_or-append value (given state effects var) e.fact.val) refl

off : (a : Bool) (m n : ℕ) → m ≢ n → (a && nat_eq m n) ≡ false
off true m n ne = grind (arith, nat_tests, ne)
off false m n ne = refl

on : (a : Bool) (m n : ℕ) → a ≡ true → m ≡ n → (a && nat_eq m n) ≡ true
on a m n is e = rw (is, e) (grind (arith, nat_tests))

-- an effect that doesn't fire changes nothing
from_still : (state : List ℕ) (effects : List Effect) (e : Effect) (k : ℕ) (xs : List ℕ) → fires state e ≡ false → from state (effects ++ e ∷ []) k xs ≡ from state effects k xs
from_still state effects e k [] is = refl
from_still state effects e k (x ∷ xs) is =
    let no : (fires state e && nat_eq e.fact.var k) ≡ false = rw is refl in
    let h = other state effects e k x no in
    let t = from_still state effects e (k + 1) xs is in
    cc

-- nor does one on an earlier variable
from_before : (state : List ℕ) (effects : List Effect) (e : Effect) (k : ℕ) (xs : List ℕ) → e.fact.var < k → from state (effects ++ e ∷ []) k xs ≡ from state effects k xs
from_before state effects e k [] lt = refl
from_before state effects e k (x ∷ xs) lt =
    let h = other state effects e k x (off (fires state e) e.fact.var k (λ s. omega arith)) in
    let t = from_before state effects e (k + 1) xs (omega arith) in
    cc

from_at : (state : List ℕ) (effects : List Effect) (e : Effect) (k j : ℕ) (xs : List ℕ) → fires state e ≡ true → e.fact.var ≡ k + j →
    from state (effects ++ e ∷ []) k xs ≡ slice_set (from state effects k xs) j e.fact.val
from_at state effects e k j [] is at = refl
from_at state effects e k zero (x ∷ xs) is at =
    let h = changed state effects e k x (on (fires state e) e.fact.var k is (omega arith)) in
    let t = from_before state effects e (k + 1) xs (omega arith) in
    cc
from_at state effects e k (suc j) (x ∷ xs) is at =
    let h = other state effects e k x (off (fires state e) e.fact.var k (λ s. omega arith)) in
    let t = from_at state effects e (k + 1) j xs is (omega arith) in
    cc

-- nothing is written by no effect
from_none : (state : List ℕ) (k : ℕ) (xs : List ℕ) → from state [] k xs ≡ xs
from_none state k [] = refl
from_none state k (x ∷ xs) = ap (λ ys. x ∷ ys) (from_none state (k + 1) xs)

pub written_none : (state : List ℕ) → state ≡ written state []
written_none state = sym (from_none state 0 state)

-- one more of some effects
pub written_fires : (state out : List ℕ) (effects : List Effect) (i : ℕ) (e : Effect) → i < length effects → e ≡ get_or effects i e → out ≡ written state (take i effects) →
    fires state e ≡ true → slice_set out e.fact.var e.fact.val ≡ written state (take (i + 1) effects)
written_fires state out effects i e lt is so fire =
    rw (take_more effects i e lt, ← is, so) (sym (from_at state (take i effects) e 0 e.fact.var state fire (omega arith)))

pub written_still : (state out : List ℕ) (effects : List Effect) (i : ℕ) (e : Effect) → i < length effects → e ≡ get_or effects i e → out ≡ written state (take i effects) →
    fires state e ≡ false → out ≡ written state (take (i + 1) effects)
written_still state out effects i e lt is so still =
    rw (take_more effects i e lt, ← is) (so ∙ sym (from_still state (take i effects) e 0 state still))
