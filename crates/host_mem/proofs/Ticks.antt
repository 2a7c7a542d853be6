-- The answers of a clock in memory.
use Rattle.std.proofs.Common.{◌≡◌, ◌∙◌, sym, ap, refl, ℕ, zero, suc, max, min, List, [], ◌∷◌, ◌++◌, take, length, ◌<◌, ◌≤◌, ◌+◌, ◌-◌, ◌^◌, get_or, arith, Some, None, true, false, Bool, nat_lt, add-one}
use Rattle.std.proofs.lemmas.List.{take_more, take_all}
use Rattle.std.proofs.lemmas.Bool.{ltb-true, lt-ltb}
use Rattle.lama_host.specs.Streams.{Answers}
use Rattle.host_mem.specs.Times.{greatest, answers_of, told_answers, last_answer, Ticking}

greatest-append : (times : List ℕ) (time : ℕ) → greatest (times ++ time ∷ []) ≡ max (greatest times) time
greatest-append [] time = omega arith
greatest-append (first ∷ more) time = omega (arith, greatest-append more time)

-- the next time in the list
pub next_within : (times : List ℕ) (asked last time : ℕ) → asked < length times → time ≡ get_or times asked 0 → last ≡ greatest (take asked times) → max last time ≡ greatest (take (asked + 1) times)
next_within times asked last time lt is held =
    ap (λ l. max l time) held ∙ ap (max (greatest (take asked times))) is ∙ sym (greatest-append (take asked times) (get_or times asked 0)) ∙ ap greatest (sym (take_more times asked 0 lt))

-- past the end
pub next_past : (times : List ℕ) (asked n last : ℕ) → length times ≤ asked → length times ≤ n → last ≡ greatest (take asked times) → last ≡ greatest (take n times)
next_past times asked n last past past' held = held ∙ ap greatest (take_all asked times past ∙ sym (take_all n times past'))

take_le : (times : List ℕ) (n : ℕ) → greatest (take n times) ≤ greatest (take (suc n) times)
take_le [] zero = omega arith
take_le [] (suc n) = omega arith
take_le (time ∷ more) zero = omega arith
take_le (time ∷ more) (suc n) = omega (arith, take_le more n)

-- an answer isn't below the last one
pub later : (clock : Ticking) (times : List ℕ) (asked answer : ℕ) → record { times = times; asked = asked } ≡ clock → answer ≡ greatest (take (asked + 1) times) → last_answer clock ≤ answer
later clock times asked answer is answers =
    let e : last_answer clock ≡ greatest (take asked times) = sym (ap last_answer is) in
    let f : answer ≡ greatest (take (suc asked) times) = answers ∙ ap (λ n. greatest (take n times)) (add-one asked) in
    omega (arith, take_le times asked)

-- the answers so far, where they are told
pub ticked : (clock : Ticking) (times : List ℕ) (asked next answer : ℕ) → record { times = times; asked = asked } ≡ clock → next ≡ min (asked + 1) (2 ^ 64 - 1) →
    answer ≡ greatest (take (asked + 1) times) → Answers (told_answers clock) (told_answers (record { times = times; asked = next })) answer
ticked clock times asked next answer is counts answers = rw (← is) (split (nat_lt next (2 ^ 64 - 1)) refl)
  where
    split : (b : Bool) → nat_lt next (2 ^ 64 - 1) ≡ b → Answers (told_answers (record { times = times; asked = asked })) (told_answers (record { times = times; asked = next })) answer
    split true small = λ all told.
        let low : next < 2 ^ 64 - 1 = ltb-true next (2 ^ 64 - 1) small in
        let e : next ≡ suc asked = omega arith in
        let before : nat_lt asked (2 ^ 64 - 1) ≡ true = lt-ltb asked (2 ^ 64 - 1) (omega arith) in
        let now : Some (answers_of times next) ≡ Some all = rw small at told in
        let one : answers_of times next ≡ answers_of times asked ++ greatest (take (suc asked) times) ∷ [] = rw e refl in
        let f : answer ≡ greatest (take (suc asked) times) = answers ∙ ap (λ n. greatest (take n times)) (add-one asked) in
        (answers_of times asked, rw before refl, (let same : answers_of times next ≡ all = cc in sym same ∙ one ∙ ap (λ a. answers_of times asked ++ a ∷ []) (sym f)))
    split false large = λ all told. let k : None ≡ Some all = rw large at told in cc
