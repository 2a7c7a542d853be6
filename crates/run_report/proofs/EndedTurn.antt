-- A run of one entry is over once its turn has ended.
use Rattle.std.proofs.Common.{◌≡◌, ◌∙◌, ap, subst, refl, ℕ, Bool, true, false, ◌&&◌, ◌||◌, nat_le, List, [], ◌∷◌, ◌++◌, length, map, take, Option, arith}
use Rattle.std.specs.List.{list_any, filter_map, range_with_len}
use Rattle.std.proofs.lemmas.List.{append-nil}
use Rattle.sas_task.specs.declared.plans.Kept.{Kept}
use Rattle.candidates.specs.declared.offers.Candidate.{Candidate}
use Rattle.driver_core.specs.declared.events.Event.{Event}
use Rattle.driver_core.specs.declared.settings.Setting.{Setting}
use Rattle.driver_core.specs.Settings.{most_plans}
use Rattle.driver_core.specs.Keeping.{kept_costs}
use Rattle.driver_core.specs.Rounds.{is_last_round, has_last_round, round_in}
use Rattle.driver_core.specs.Running.{is_over_after, is_out_of_time, is_last_end}
use Rattle.driver_core.specs.States.{CoreState}
use Rattle.driver_core.specs.Turns.{Turn, turn_of, ends_as, has_ended, is_end_of}
use Rattle.exit_codes.specs.declared.parts.Part.{Part}
use Rattle.run_report.specs.declared.report.EntryEnd.{EntryEnd}
use Rattle.run_report.specs.Turns.{Offered, ToldTurn, offer_of, begun_of, turn_events, part_of, is_last}
use Rattle.run_report.specs.Tells.{between, events_of}
use Rattle.run_report.specs.Searches.{Run}
use Rattle.run_report.specs.Runs.{IsUnderWay}
use Rattle.run_report.proofs.TurnEvents.{events_between}
use Rattle.run_report.proofs.CompleteRuns.{taken}
use Rattle.lama_num.proofs.BoolLaws.{or-true as or_true}

rounds_told : (turn : Turn) (offered : List Offered) (round entry : ℕ) (how : Part) (last : Bool) → filter_map round_in (map (offer_of turn) offered ++ ends_as (turn_of round entry) how last ∷ []) ≡ round ∷ []
rounds_told turn [] round entry how last = refl
rounds_told turn (offer ∷ offered) round entry how last = rounds_told turn offered round entry how last

end_told : (turn : Turn) (offered : List Offered) (how : Part) (last : Bool) → list_any (is_end_of (turn_of 1 1)) (map (offer_of turn) offered ++ ends_as (turn_of 1 1) how last ∷ []) ≡ true
end_told turn [] how last = refl
end_told turn (offer ∷ offered) how last = end_told turn offered how last

over_by : (share start : ℕ) (limit bound : Option ℕ) (single : Bool) (events : List Event) → has_ended events (turn_of 1 1) ≡ true → filter_map round_in events ≡ 1 ∷ [] →
    is_over_after (record { shares = share ∷ []; start = start; limit = limit; bound = bound; single = single; rounds = false }) events ≡ true
over_by share start limit bound single events ended rounds =
    let s : Setting = record { shares = share ∷ []; start = start; limit = limit; bound = bound; single = single; rounds = false } in
    let last : is_last_round s events 1 ≡ true = ap (λ (b : Bool). (b && true) && true) ended in
    let all : has_last_round s events ≡ true = ap (λ (rs : List ℕ). list_any (is_last_round s events) rs) rounds ∙ ap (λ (b : Bool). b || false) last in
    let full : Bool = nat_le (most_plans single) (length (kept_costs s events)) in
    ap (λ (b : Bool). list_any is_out_of_time events || (list_any is_last_end events || (full || b))) all
    ∙ (ap (λ (b : Bool). list_any is_out_of_time events || (list_any is_last_end events || b)) (or_true full)
    ∙ (ap (λ (b : Bool). list_any is_out_of_time events || b) (or_true (list_any is_last_end events)) ∙ or_true (list_any is_out_of_time events)))

over_of : (setting : Setting) (shares : List ℕ) (rounds : Bool) (events : List Event) → setting.shares ≡ shares → length shares ≡ 1 → setting.rounds ≡ rounds → rounds ≡ false →
    has_ended events (turn_of 1 1) ≡ true → filter_map round_in events ≡ 1 ∷ [] → is_over_after setting events ≡ true
over_of setting [] rounds events is one by none ended told = let k : ◌≡◌ {A = ℕ} 0 1 = one in cc
over_of setting (share ∷ (other ∷ more)) rounds events is one by none ended told = let k : ◌≡◌ {A = ℕ} (length (share ∷ (other ∷ more))) 1 = one in absurd (omega (arith, k))
over_of setting (share ∷ []) rounds events is one by none ended told =
    ap (λ (shares : List ℕ). is_over_after (record { shares = shares; start = setting.start; limit = setting.limit; bound = setting.bound; single = setting.single; rounds = setting.rounds }) events) is
    ∙ (ap (λ (r : Bool). is_over_after (record { shares = share ∷ []; start = setting.start; limit = setting.limit; bound = setting.bound; single = setting.single; rounds = r }) events) (by ∙ none)
    ∙ over_by share setting.start setting.limit setting.bound setting.single events ended told)

one_of_one : (x y : ℕ) → x ∷ [] ≡ y ∷ [] → x ≡ y
one_of_one x y is = cc

pub over_once : (run : Run) (core : CoreState) (turn : ToldTurn) (kept : List Kept) (candidates : List Candidate) (ends : List EntryEnd) → IsUnderWay run core (between (turn ∷ [])) kept candidates ends →
    length run.setting.shares ≡ 1 → run.setting.rounds ≡ false → is_over_after run.setting (events_of (between (turn ∷ []))) ≡ true
over_once run core turn kept candidates ends going one no_rounds =
    let entry : turn.end.entry ≡ 1 = taken 1 turn.end.entry (subst (λ n. turn.end.entry ∷ [] ≡ take 1 (range_with_len 1 n)) one going.order.0) in
    let round : turn.end.round ≡ 1 = one_of_one turn.end.round 1 going.order.1 in
    let events : events_of (between (turn ∷ [])) ≡ turn_events turn = events_between (turn ∷ []) ∙ append-nil (turn_events turn) in
    let begun = (begun_of turn).turn in
    let how = part_of turn.end.outcome in
    let last = is_last turn.end.outcome in
    let ended : has_ended (turn_events turn) (turn_of 1 1) ≡ true =
    ap (λ (r : ℕ). list_any (is_end_of (turn_of 1 1)) (map (offer_of begun) turn.offered ++ ends_as (turn_of r turn.end.entry) how last ∷ [])) round
    ∙ (ap (λ (e : ℕ). list_any (is_end_of (turn_of 1 1)) (map (offer_of begun) turn.offered ++ ends_as (turn_of 1 e) how last ∷ [])) entry
    ∙ end_told begun turn.offered how last) in
    let told : filter_map round_in (turn_events turn) ≡ 1 ∷ [] = rounds_told begun turn.offered turn.end.round turn.end.entry how last ∙ ap (λ (r : ℕ). r ∷ []) round in
    ap (is_over_after run.setting) events ∙ over_of run.setting run.setting.shares run.setting.rounds (turn_events turn) refl one refl no_rounds ended told
