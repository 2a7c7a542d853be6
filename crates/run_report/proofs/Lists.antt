-- What the lists of a run are, one turn more and one offer more.
use Rattle.std.proofs.Common.{◌≡◌, ◌∙◌, sym, ap, refl, ℕ, ◌+◌, List, [], ◌∷◌, ◌++◌, length, append_assoc, arith}
use Rattle.std.proofs.lemmas.List.{append-nil, length-append}
use Rattle.std.proofs.lemmas.List.Elements.{filter_map-append}
use Rattle.std.specs.List.{filter_map}
use Rattle.std.proofs.lemmas.Grind.{flat_map-append}
use Rattle.sas_task.specs.declared.plans.Kept.{Kept}
use Rattle.driver_core.specs.Turns.{Turn}
use Rattle.run_report.specs.Turns.{Offered, BegunTurn, plans_of, plans_in, candidates_of, candidates_in, plan_of, candidate_of, candidates_among, offered_more}

-- the numbers of plans before, put together
sum_of : (before a b c : ℕ) → c ≡ a + b → before + a + b ≡ before + c
sum_of before a b c e = omega (arith, e)

none_more : (before : ℕ) → before ≡ before + 0
none_more before = omega arith

from_none : (n : ℕ) → 0 + n ≡ n
from_none n = omega arith

among-append : (turn : Turn) (before : ℕ) (offered more : List Offered) →
    candidates_among turn before (offered ++ more) ≡ candidates_among turn before offered ++ candidates_among turn (before + length (filter_map (plan_of turn.entry) offered)) more
unfolding candidates_among
among-append turn before [] more = ap (λ n. candidates_among turn n more) (none_more before)
among-append turn before (offer ∷ offered) more =
    let plans : List Offered → List Kept = filter_map (plan_of turn.entry) in
    let one = length (plans (offer ∷ [])) in
    let counted : before + one + length (plans offered) ≡ before + length (plans (offer ∷ offered)) =
    sum_of before one (length (plans offered)) (length (plans (offer ∷ offered)))
    (ap length (filter_map-append (plan_of turn.entry) (offer ∷ []) offered) ∙ length-append (plans (offer ∷ [])) (plans offered)) in
    ap (λ rest. candidate_of turn before offer ∷ rest)
    (among-append turn (before + one) offered more
    ∙ ap (λ n. candidates_among turn (before + one) offered ++ candidates_among turn n more) counted)

candidates-append : (before : ℕ) (turns more : List BegunTurn) →
    candidates_of before (turns ++ more) ≡ candidates_of before turns ++ candidates_of (before + length (plans_of turns)) more
unfolding candidates_of
candidates-append before [] more = ap (λ n. candidates_of n more) (none_more before)
candidates-append before (turn ∷ turns) more =
    let one = length (plans_in turn) in
    let counted : before + one + length (plans_of turns) ≡ before + length (plans_of (turn ∷ turns)) =
    sum_of before one (length (plans_of turns)) (length (plans_of (turn ∷ turns))) (length-append (plans_in turn) (plans_of turns)) in
    ap (λ rest. candidates_in before turn ++ rest)
    (candidates-append (before + one) turns more
    ∙ ap (λ n. candidates_of (before + one) turns ++ candidates_of n more) counted)
    ∙ sym (append_assoc (candidates_in before turn) (candidates_of (before + one) turns) (candidates_of (before + length (plans_of (turn ∷ turns))) more))

candidates-one : (before : ℕ) (turn : BegunTurn) → candidates_of before (turn ∷ []) ≡ candidates_in before turn
unfolding candidates_of
candidates-one before turn = append-nil (candidates_in before turn)

among-one : (turn : Turn) (before : ℕ) (offer : Offered) → candidates_among turn before (offer ∷ []) ≡ candidate_of turn before offer ∷ []
unfolding candidates_among
among-one turn before offer = refl

pub among-none : (turn : Turn) (before : ℕ) → candidates_among turn before [] ≡ []
unfolding candidates_among
among-none turn before = refl

-- of turns with one behind them
pub plans-last : (turns : List BegunTurn) (turn : BegunTurn) → plans_of (turns ++ turn ∷ []) ≡ plans_of turns ++ plans_in turn
plans-last turns turn = flat_map-append plans_in turns (turn ∷ []) ∙ ap (λ end. plans_of turns ++ end) (append-nil (plans_in turn))

pub candidates-last : (turns : List BegunTurn) (turn : BegunTurn) → candidates_of 0 (turns ++ turn ∷ []) ≡ candidates_of 0 turns ++ candidates_in (length (plans_of turns)) turn
candidates-last turns turn =
    candidates-append 0 turns (turn ∷ [])
    ∙ (ap (λ n. candidates_of 0 turns ++ candidates_of n (turn ∷ [])) (from_none (length (plans_of turns)))
    ∙ ap (λ end. candidates_of 0 turns ++ end) (candidates-one (length (plans_of turns)) turn))

-- of a turn with one offer more
pub plans-offered : (turns : List BegunTurn) (turn : BegunTurn) (offer : Offered) →
    plans_of (turns ++ offered_more turn offer ∷ []) ≡ plans_of (turns ++ turn ∷ []) ++ filter_map (plan_of turn.turn.entry) (offer ∷ [])
plans-offered turns turn offer =
    let plans : List Offered → List Kept = filter_map (plan_of turn.turn.entry) in
    plans-last turns (offered_more turn offer)
    ∙ (ap (λ end. plans_of turns ++ end) (filter_map-append (plan_of turn.turn.entry) turn.offered (offer ∷ []))
    ∙ (sym (append_assoc (plans_of turns) (plans turn.offered) (plans (offer ∷ [])))
    ∙ ap (λ front. front ++ plans (offer ∷ [])) (sym (plans-last turns turn))))

pub candidates-offered : (turns : List BegunTurn) (turn : BegunTurn) (offer : Offered) →
    candidates_of 0 (turns ++ offered_more turn offer ∷ []) ≡ candidates_of 0 (turns ++ turn ∷ []) ++ candidate_of turn.turn (length (plans_of (turns ++ turn ∷ []))) offer ∷ []
candidates-offered turns turn offer =
    let n = length (plans_of turns) in
    let m = length (plans_in turn) in
    let counted : n + m ≡ length (plans_of (turns ++ turn ∷ [])) = sym (ap length (plans-last turns turn) ∙ length-append (plans_of turns) (plans_in turn)) in
    candidates-last turns (offered_more turn offer)
    ∙ (ap (λ end. candidates_of 0 turns ++ end)
    (among-append turn.turn n turn.offered (offer ∷ [])
    ∙ (ap (λ end. candidates_among turn.turn n turn.offered ++ end) (among-one turn.turn (n + m) offer)
    ∙ ap (λ k. candidates_among turn.turn n turn.offered ++ candidate_of turn.turn k offer ∷ []) counted))
    ∙ (sym (append_assoc (candidates_of 0 turns) (candidates_among turn.turn n turn.offered) (candidate_of turn.turn (length (plans_of (turns ++ turn ∷ []))) offer ∷ []))
    ∙ ap (λ front. front ++ candidate_of turn.turn (length (plans_of (turns ++ turn ∷ []))) offer ∷ []) (sym (candidates-last turns turn))))
