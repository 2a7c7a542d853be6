-- The one turn of a run: it begins, offers, and ends.
use Rattle.std.proofs.Common.{◌≡◌, ◌∙◌, sym, ap, subst, refl, ℕ, ◌+◌, ◌<◌, ◌≤◌, zero, suc, List, [], ◌∷◌, ◌++◌, length, map, take, Bool, true, false, ◌||◌, nat_le, Option, Some, None, arith, append-nil, length-append}
use Rattle.std.specs.List.{filter_map, list_any, flat_map}
use Rattle.std.proofs.lemmas.List.{map-append, length-map}
use Rattle.std.proofs.lemmas.List.Elements.{filter_map-append, All-cons, All-nil}
use Rattle.std.proofs.lemmas.List.Folds.{list_any-append}
use Rattle.std.proofs.Math.Bool.{or-false}
use Rattle.std.proofs.lemmas.Bool.Decides.{nat_tests}
use Rattle.sas_task.specs.declared.contents.Parts.{Parts}
use Rattle.sas_task.specs.declared.plans.Kept.{Kept}
use Rattle.plan_check.specs.declared.verdicts.Verdict.TheVariants.{Good}
use Rattle.candidates.specs.declared.offers.Candidate.{Candidate}
use Rattle.driver_core.specs.declared.events.Event.{Event}
use Rattle.driver_core.specs.declared.settings.Setting.{Setting}
use Rattle.driver_core.specs.Keeping.{kept_costs}
use Rattle.driver_core.proofs.OneMoreEvent.{kept_costs-few}
use Rattle.driver_core.specs.Rounds.{round_in, is_last_round, has_last_round}
use Rattle.driver_core.specs.Running.{is_out_of_time, is_last_end, is_over_after}
use Rattle.driver_core.specs.Settings.{most_plans}
use Rattle.driver_core.specs.Turns.{Turn, turn_of, begins_at, is_end_of, IsOn}
use Rattle.run_report.specs.Turns.{Offered, BegunTurn, offer_of, plan_of, plans_in, plans_of, candidate_of, candidates_among, candidates_in, candidates_of, events_in}
use Rattle.run_report.specs.Tells.{events_of, all_begun, AreOfTurns}
use Rattle.driver_run.specs.Searching.{turns_on, begun_with}

-- a plan of this process's search, as it is offered
abbrev pub own_offer : List ℕ → ℕ → Offered
own_offer ops cost = record { file = None; verdict = Good ops cost }

abbrev pub the_turn : Turn
the_turn = turn_of 1 1

-- one offer more in the lists of a turn

pub plans_more : (began : ℕ) (offered : List Offered) (ops : List ℕ) (cost : ℕ) → plans_in (begun_with began (offered ++ own_offer ops cost ∷ [])) ≡ plans_in (begun_with began offered) ++ record { entry = 1; ops = ops; cost = cost } ∷ []
plans_more began offered ops cost = filter_map-append (plan_of 1) offered (own_offer ops cost ∷ [])

among_more : (turn : Turn) (before : ℕ) (offered : List Offered) (offer : Offered) →
    candidates_among turn before (offered ++ offer ∷ []) ≡ candidates_among turn before offered ++ candidate_of turn (before + length (filter_map (plan_of turn.entry) offered)) offer ∷ []
unfolding candidates_among
among_more turn before [] offer = ap (λ n. candidate_of turn n offer ∷ []) (none before)
  where
    none : (n : ℕ) → n ≡ n + 0
    none n = omega arith
among_more turn before (first ∷ offered) offer =
    let p = plan_of turn.entry in
    let one = length (filter_map p (first ∷ [])) in
    let rest = among_more turn (before + one) offered offer in
    let count : before + one + length (filter_map p offered) ≡ before + length (filter_map p (first ∷ offered)) =
    together before one (length (filter_map p offered)) (length (filter_map p (first ∷ offered))) (ap length (filter_map-append p (first ∷ []) offered) ∙ length-append (filter_map p (first ∷ [])) (filter_map p offered)) in
    ap (λ more. candidate_of turn before first ∷ more) (rest ∙ ap (λ n. candidates_among turn (before + one) offered ++ candidate_of turn n offer ∷ []) count)
  where
    together : (a b c d : ℕ) → d ≡ b + c → a + b + c ≡ a + d
    together a b c d is = omega (arith, is)

one_turn : (turn : BegunTurn) → candidates_of 0 (turn ∷ []) ≡ candidates_among turn.turn 0 turn.offered
unfolding candidates_of
one_turn turn = append-nil (candidates_among turn.turn 0 turn.offered)

from_none : (n : ℕ) → n ≡ 0 + n
from_none n = omega arith

pub none_offered : (began : ℕ) → candidates_of 0 (all_begun (turns_on began [])) ≡ []
unfolding candidates_of candidates_among
none_offered began = refl

-- the lists while the turn is on
pub kept_in : (began : ℕ) (offered : List Offered) → plans_of (all_begun (turns_on began offered)) ≡ plans_in (begun_with began offered)
kept_in began offered = append-nil (plans_in (begun_with began offered))

pub offered_more : (began : ℕ) (offered : List Offered) (kept : List Kept) (candidates : List Candidate) (ops : List ℕ) (cost : ℕ) → AreOfTurns (turns_on began offered) kept candidates [] →
    AreOfTurns (turns_on began (offered ++ own_offer ops cost ∷ [])) (kept ++ record { entry = 1; ops = ops; cost = cost } ∷ [])
    (candidates ++ candidate_of the_turn (length kept) (own_offer ops cost) ∷ []) []
offered_more began offered kept candidates ops cost are =
    let more = offered ++ own_offer ops cost ∷ [] in
    let plan : Kept = record { entry = 1; ops = ops; cost = cost } in
    let kept_is = are.plans_are ∙ kept_in began offered in
    record {
      plans_are = ap (λ plans. plans ++ plan ∷ []) kept_is ∙ sym (plans_more began offered ops cost) ∙ sym (kept_in began more);
      candidates_are =
          ap (λ n. candidates ++ candidate_of the_turn n (own_offer ops cost) ∷ []) (ap length kept_is)
          ∙ ap (λ front. front ++ candidate_of the_turn (length (plans_in (begun_with began offered))) (own_offer ops cost) ∷ []) (are.candidates_are ∙ one_turn (begun_with began offered))
          ∙ ap (λ n. candidates_among the_turn 0 offered ++ candidate_of the_turn n (own_offer ops cost) ∷ []) (from_none (length (plans_in (begun_with began offered))))
          ∙ sym (among_more the_turn 0 offered (own_offer ops cost))
          ∙ sym (one_turn (begun_with began more));
      ends_are = are.ends_are;
    }

-- its events
pub events_more : (began : ℕ) (offered : List Offered) (offer : Offered) → events_of (turns_on began (offered ++ offer ∷ [])) ≡ events_of (turns_on began offered) ++ offer_of the_turn offer ∷ []
events_more began offered offer = ap (λ more. begins_at the_turn began ∷ more) (map-append (offer_of the_turn) offered (offer ∷ []))

no_end : (offered : List Offered) → list_any (is_end_of the_turn) (map (offer_of the_turn) offered) ≡ false
no_end [] = refl
no_end (offer ∷ offered) = no_end offered

-- the turn is on
pub is_on : (began : ℕ) (offered : List Offered) → IsOn (events_of (turns_on began offered)) the_turn
is_on began offered = record { begun = refl; unended = no_end offered }

no_time : (offered : List Offered) → list_any is_out_of_time (map (offer_of the_turn) offered) ≡ false
no_time [] = refl
no_time (offer ∷ offered) = no_time offered

no_last : (offered : List Offered) → list_any is_last_end (map (offer_of the_turn) offered) ≡ false
no_last [] = refl
no_last (offer ∷ offered) = no_last offered

no_round : (offered : List Offered) → filter_map round_in (map (offer_of the_turn) offered) ≡ []
no_round [] = refl
no_round (offer ∷ offered) = no_round offered

-- while the turn is on the run is over where as many plans are kept as a run keeps
pub over_full : (setting : Setting) (began : ℕ) (offered : List Offered) → setting.single ≡ false → is_over_after setting (events_of (turns_on began offered)) ≡ true →
    length (kept_costs setting (events_of (turns_on began offered))) ≡ 9999
over_full setting began offered many over =
    let n = length (kept_costs setting (events_of (turns_on began offered))) in
    let last : has_last_round setting (events_of (turns_on began offered)) ≡ false = ap (list_any (is_last_round setting (events_of (turns_on began offered)))) (no_round offered) in
    let full : (nat_le (most_plans setting.single) n || false) ≡ true = rw (no_time offered, no_last offered, last) at over in
    both setting.single n many full (kept_costs-few setting (events_of (turns_on began offered)))
  where
    both : (single : Bool) (n : ℕ) → single ≡ false → (nat_le (most_plans single) n || false) ≡ true → n ≤ most_plans single → n ≡ 9999
    both true n many full most = let k : true ≡ false = many in cc
    both false n many full most = let least : nat_le 9999 n ≡ true = sym (or-false (nat_le 9999 n)) ∙ full in grind (arith, nat_tests, least, most)
