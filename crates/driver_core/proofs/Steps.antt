-- One step of the core: what it holds and answers is what the definitions say of one more event.
use Rattle.std.proofs.Common.{◌≡◌, ℕ, ◌+◌, ◌-◌, ◌<◌, ◌≤◌, Bool, true, false, not, cond, ◌&&◌, ◌||◌, ◌==◌, nat_lt, nat_le, List, [], ◌∷◌, ◌++◌, length, map, replicate, take, Option, Some, None, zero, suc, refl, sym, ap, ◌∙◌, subst, arith, inl, inr}
use Rattle.std.proofs.lemmas.Bool.{cases_Bool, cases_lt, le-ltb, lt-ltb, ltb-true, ltb-false, lt-leb, leb-true, cond-true, cond-false, and_parts, and_right, and_from, or_cases, or_left, or_right, eqb-true, eq-eqb, ne_eqb, le-leb, false≢true}
use Rattle.std.proofs.lemmas.List.{append-nil, length-append}
use Rattle.std.proofs.lemmas.List.Elements.{filter_map-append}
use Rattle.std.proofs.lemmas.List.Folds.{list_any-append}
use Rattle.std.proofs.lemmas.List.FromFn.{length-range_with_len}
use Rattle.std.proofs.Math.Bool.{or-false, or-true}
use Rattle.std.specs.List.{list_any, count_by, last_or}
use Rattle.std.specs.FinSet as set
use Rattle.exit_codes.specs.Sets.{CodeSet}
use Rattle.exit_codes.specs.Combined.{combine_of}
use Rattle.exit_codes.specs.Parts.{codes_of, norm_of}
use Rattle.exit_codes.proofs.PartLaws.{codes_of-push}
use Rattle.exit_codes.specs.declared.parts.Part.{Part}
use Rattle.exit_codes.specs.declared.parts.Part.TheVariants.{OutOfTime as RanOut, PlanLimit}
use Rattle.driver_core.specs.declared.events.Event.{Event}
use Rattle.driver_core.specs.declared.events.Event.TheVariants.{Began, Candidate, Ended, OutOfTime}
use Rattle.driver_core.specs.declared.events.Action.{Action}
use Rattle.driver_core.specs.declared.events.Action.TheVariants.{Go, Keep, Drop}
use Rattle.driver_core.specs.declared.settings.Setting.{Setting}
use Rattle.driver_core.specs.Settings.{most_plans, entries}
use Rattle.driver_core.specs.Turns.{Turn, turn_of, is_beginning_of, is_end_of, has_begun, has_ended, IsOn}
use Rattle.driver_core.specs.Keeping.{cost_in, plan_costs, improves, kept_costs, is_kept, bound_of}
use Rattle.lama_num.specs.Bounds.{is_below}
use Rattle.driver_core.specs.Rounds.{keeps_for, has_kept, runs_in, has_entries, is_ended}
use Rattle.driver_core.specs.Running.{is_out_of_time, is_last_end, is_over_after, stop_or, is_stop, action_of, actions_of, has_stopped}
use Rattle.driver_core.specs.Legal.{IsAllowed, IsLegal}
use Rattle.driver_core.specs.Ends.{part_in, parts_in, limit_parts, code_of}
use Rattle.driver_core.specs.States.{CoreState, all_codes, is_done, is_at_end, has_next, accepts, next_round, with_plan, after_plan, state_after, answer_of}
use Rattle.driver_core.specs.Standing.{StandsFor, Holds, HoldsRound, is_after, is_unended, is_keeper}
use Rattle.driver_core.proofs.OneMoreEvent.{kept_costs-push_plan, kept_costs-push_other, actions_of-push, none_before_first, IsLegal-push, IsLegal-front, IsLegal-last}
use Rattle.driver_core.proofs.Bounds.{is_below-bound_of}
use Rattle.driver_core.proofs.Tests.{count_by-all, count_by-some, any_of_range, all_marked}
use Rattle.driver_core.proofs.Present.{runs_entry, on_present, round_stays, round_keeps, round_ends, round_moves, is_next, at_end-holds, next-holds}

list_any-push : (p : Event → Bool) (events : List Event) (event : Event) → list_any p (events ++ event ∷ []) ≡ (list_any p events || p event)
list_any-push p events event = list_any-append p events (event ∷ []) ∙ ap (λ b. list_any p events || b) (or-false (p event))

list_any-push_no : (p : Event → Bool) (events : List Event) (event : Event) → p event ≡ false → list_any p events ≡ list_any p (events ++ event ∷ [])
list_any-push_no p events event no' = sym (list_any-push p events event ∙ ap (λ b. list_any p events || b) no' ∙ or-false (list_any p events))

parts_in-push_none : (events : List Event) (event : Event) → part_in event ≡ None → parts_in events ≡ parts_in (events ++ event ∷ [])
parts_in-push_none events event none = sym (filter_map-append part_in events (event ∷ []) ∙ (rw none (append-nil (parts_in events))))

codes_after : (events : List Event) (event : Event) (part : Part) → part_in event ≡ Some part → set.union (codes_of (parts_in events)) (norm_of part) ≡ codes_of (parts_in (events ++ event ∷ []))
codes_after events event part is =
    sym (ap codes_of (filter_map-append part_in events (event ∷ []) ∙ (rw is refl)) ∙ codes_of-push (parts_in events) part)

-- The core is done where the run is over.
pub is_done-holds : (core : CoreState) (events : List Event) → Holds core events → is_done core ≡ is_over_after core.setting events
is_done-holds core events holds =
    let time = holds.out_of_time in
    let last = holds.last in
    let kept = holds.kept in
    let end = at_end-holds core events holds.rounds in
    λ i. time i || (last i || (nat_le (most_plans core.setting.single) (kept i) || end i))

-- The core accepts what is kept.
pub accepts-holds : (core : CoreState) (events : List Event) (cost : ℕ) → Holds core events → accepts core cost ≡ is_kept core.setting events cost
accepts-holds core events cost holds =
    let most = most_plans core.setting.single in
    ap (λ b. is_below b cost && nat_lt core.kept most) holds.bound
    ∙ ap (λ n. is_below (bound_of core.setting events) cost && nat_lt n most) holds.kept
    ∙ (elim (cases_lt (length (kept_costs core.setting events)) most) [
      | inl few ↦ ap (λ b. b && nat_lt (length (kept_costs core.setting events)) most) (is_below-bound_of core.setting events few cost)
      | inr full ↦
          let no' = le-ltb (length (kept_costs core.setting events)) most full in
          and_right (is_below (bound_of core.setting events) cost) _ no' ∙ sym (and_right (improves core.setting.bound (plan_costs events) cost) _ no')
    ])

-- an event that is no plan and no end
quiet : (core : CoreState) (events : List Event) (event : Event) → Holds core events → HoldsRound core (events ++ event ∷ []) → cost_in event ≡ None → is_last_end event ≡ false → is_out_of_time event ≡ false → part_in event ≡ None → Holds core (events ++ event ∷ [])
quiet core events event holds rounds no_plan not_last in_time no_part =
    let same = sym (kept_costs-push_other core.setting events event no_plan) in
    record {
      rounds = rounds;
      bound = holds.bound ∙ ap (last_or core.setting.bound) same;
      kept = holds.kept ∙ ap length same;
      last = holds.last ∙ list_any-push_no is_last_end events event not_last;
      out_of_time = holds.out_of_time ∙ list_any-push_no is_out_of_time events event in_time;
      codes = holds.codes ∙ ap codes_of (parts_in-push_none events event no_part);
    }

begun_here : (core : CoreState) (events : List Event) (round entry moment : ℕ) → Holds core events → IsAllowed core.setting events (Began round entry moment) → nat_lt core.round round ≡ false → Holds core (events ++ Began round entry moment ∷ [])
begun_here core events round entry moment holds allowed here =
    let event : Event = Began round entry moment in
    let begins : (turn : Turn) → is_beginning_of turn event ≡ true → runs_in core.setting events turn.round turn.entry ≡ true =
    λ turn is.
    let parts = and_parts (round == turn.round) (entry == turn.entry) is in
    let same_round = eqb-true round turn.round parts.0 in
    let same_entry = eqb-true entry turn.entry parts.1 in
    sym (λ i. runs_in core.setting events (same_round i) (same_entry i)) ∙ allowed.runs in
    quiet core events event holds (round_stays core events event holds.rounds here begins (λ _. refl) (λ _. refl)) refl refl refl refl

begun_later : (core : CoreState) (events : List Event) (round entry moment : ℕ) → Holds core events → IsAllowed core.setting events (Began round entry moment) → nat_lt core.round round ≡ true → Holds (next_round core round) (events ++ Began round entry moment ∷ [])
begun_later core events round entry moment holds allowed later =
    let next = is_next core.setting events core.round round entry holds.rounds.present (ltb-true core.round round later) allowed.runs in
    let P : ℕ → Type 0 = λ r. Holds (next_round core r) (events ++ Began r entry moment ∷ []) in
    let event : Event = Began (suc core.round) entry moment in
    let runs_here = subst (λ r. runs_in core.setting events r entry ≡ true) next.0 allowed.runs in
    let earlier : (before : ℕ) → before < suc core.round → is_ended core.setting events before ≡ true = λ before below. allowed.earlier before (omega (arith, next.0)) in
    let rounds = round_moves core events entry moment holds.rounds next.1 runs_here earlier in
    let same = sym (kept_costs-push_other core.setting events event refl) in
    let stood : P (suc core.round) = record {
      rounds = rounds;
      bound = holds.bound ∙ ap (last_or core.setting.bound) same;
      kept = holds.kept ∙ ap length same;
      last = holds.last ∙ list_any-push_no is_last_end events event refl;
      out_of_time = holds.out_of_time ∙ list_any-push_no is_out_of_time events event refl;
      codes = holds.codes ∙ ap codes_of (parts_in-push_none events event refl);
    } in
    subst P (sym next.0) stood

begun : (core : CoreState) (events : List Event) (round entry moment : ℕ) → Holds core events → IsAllowed core.setting events (Began round entry moment) → Holds (state_after core (Began round entry moment)) (events ++ Began round entry moment ∷ [])
begun core events round entry moment holds allowed =
    let P : CoreState → Type 0 = λ s. Holds s (events ++ Began round entry moment ∷ []) in
    elim (cases_Bool (nat_lt core.round round)) [
      | inl later ↦ subst P (sym (cond-true _ (next_round core round) core later)) (begun_later core events round entry moment holds allowed later)
      | inr here ↦ subst P (sym (cond-false _ (next_round core round) core here)) (begun_here core events round entry moment holds allowed here)
    ]

last_or-push : (o : Option ℕ) (xs : List ℕ) (x : ℕ) → last_or o (xs ++ x ∷ []) ≡ Some x
last_or-push o [] x = refl
last_or-push o (y ∷ ys) x = last_or-push (Some y) ys x

-- a candidate of a turn that is on is of the present round
offers_here : (core : CoreState) (events : List Event) (round entry : ℕ) → Holds core events → IsOn events (turn_of round entry) → round ≡ core.round
offers_here core events round entry holds on = on_present core.setting events core.round (turn_of round entry) holds.rounds.present on

-- a candidate that isn't kept
unkept : (core : CoreState) (events : List Event) (round entry : ℕ) (cost : Option ℕ) → Holds core events → IsOn events (turn_of round entry)
    → ((turn : Turn) → keeps_for core.setting turn events (Candidate round entry cost) ≡ false) → kept_costs core.setting (events ++ Candidate round entry cost ∷ []) ≡ kept_costs core.setting events
    → Holds core (events ++ Candidate round entry cost ∷ [])
unkept core events round entry cost holds on keeps_none stay =
    let event : Event = Candidate round entry cost in
    let same = sym stay in
    let here = offers_here core events round entry holds on in
    record {
      rounds = round_stays core events event holds.rounds (le-ltb core.round round (omega (arith, here))) (λ turn is. absurd (false≢true is)) keeps_none (λ _. refl);
      bound = holds.bound ∙ ap (last_or core.setting.bound) same;
      kept = holds.kept ∙ ap length same;
      last = holds.last ∙ list_any-push_no is_last_end events event refl;
      out_of_time = holds.out_of_time ∙ list_any-push_no is_out_of_time events event refl;
      codes = holds.codes ∙ ap codes_of (parts_in-push_none events event refl);
    }

kept_plan : (core : CoreState) (events : List Event) (entry cost : ℕ) → Holds core events → IsOn events (turn_of core.round entry) → is_kept core.setting events cost ≡ true
    → Holds (with_plan core entry cost) (events ++ Candidate core.round entry (Some cost) ∷ [])
kept_plan core events entry cost holds on takes =
    let event : Event = Candidate core.round entry (Some cost) in
    let before = kept_costs core.setting events in
    let more = kept_costs-push_plan core.setting events (turn_of core.round entry) cost ∙ ap (λ end. before ++ end) (cond-true _ (cost ∷ []) [] takes) in
    record {
      rounds = round_keeps core events entry cost holds.rounds on takes;
      bound = sym (ap (last_or core.setting.bound) more ∙ last_or-push core.setting.bound before cost);
      kept = omega (arith, holds.kept, ap length more, length-append before (cost ∷ []));
      last = holds.last ∙ list_any-push_no is_last_end events event refl;
      out_of_time = holds.out_of_time ∙ list_any-push_no is_out_of_time events event refl;
      codes = holds.codes ∙ ap codes_of (parts_in-push_none events event refl);
    }

offered : (core : CoreState) (events : List Event) (round entry cost : ℕ) → Holds core events → IsOn events (turn_of round entry) → Holds (after_plan core entry cost) (events ++ Candidate round entry (Some cost) ∷ [])
offered core events round entry cost holds on =
    let before = kept_costs core.setting events in
    let accepted = accepts-holds core events cost holds in
    let here = offers_here core events round entry holds on in
    let P : CoreState → Type 0 = λ s. Holds s (events ++ Candidate round entry (Some cost) ∷ []) in
    elim (cases_Bool (accepts core cost)) [
      | inl takes ↦
          let Q : ℕ → Type 0 = λ r. Holds (with_plan core entry cost) (events ++ Candidate r entry (Some cost) ∷ []) in
          let on_here = subst (λ r. IsOn events (turn_of r entry)) here on in
          subst P (sym (cond-true _ (with_plan core entry cost) core takes))
          (subst Q (sym here) (kept_plan core events entry cost holds on_here (sym accepted ∙ takes)))
      | inr drops ↦
          let lost = sym accepted ∙ drops in
          let stay = kept_costs-push_plan core.setting events (turn_of round entry) cost ∙ ap (λ end. before ++ end) (cond-false _ (cost ∷ []) [] lost) ∙ append-nil before in
          subst P (sym (cond-false _ (with_plan core entry cost) core drops))
          (unkept core events round entry (Some cost) holds on (λ turn. and_right ((round == turn.round) && (entry == turn.entry)) _ lost) stay)
    ]

ended_here : (core : CoreState) (events : List Event) (entry : ℕ) (part : Part) (last : Bool) → Holds core events → IsOn events (turn_of core.round entry)
    → Holds (state_after core (Ended core.round entry part last)) (events ++ Ended core.round entry part last ∷ [])
ended_here core events entry part last holds on =
    let event : Event = Ended core.round entry part last in
    let same = sym (kept_costs-push_other core.setting events event refl) in
    let rounds = round_ends core events entry part last holds.rounds on in
    record {
      rounds = record { present = rounds.present; running = rounds.running; keepers = rounds.keepers; unended = rounds.unended };
      bound = holds.bound ∙ ap (last_or core.setting.bound) same;
      kept = holds.kept ∙ ap length same;
      last = ap (λ b. b || last) holds.last ∙ sym (list_any-push is_last_end events event);
      out_of_time = holds.out_of_time ∙ list_any-push_no is_out_of_time events event refl;
      codes = ap (λ s. set.union s (norm_of part)) holds.codes ∙ codes_after events event part refl;
    }

-- A core that holds what the events say does so after a step for one event more.
pub holds_after : (core : CoreState) (events : List Event) (event : Event) → Holds core events → IsAllowed core.setting events event → Holds (state_after core event) (events ++ event ∷ [])
holds_after core events (Began round entry moment) holds allowed = begun core events round entry moment holds allowed
holds_after core events (Candidate round entry None) holds allowed =
    unkept core events round entry None holds allowed.on (λ _. refl) (kept_costs-push_other core.setting events (Candidate round entry None) refl)
holds_after core events (Candidate round entry (Some cost)) holds allowed = offered core events round entry cost holds allowed.on
holds_after core events (Ended round entry part last) holds allowed =
    let here = offers_here core events round entry holds allowed in
    let Q : ℕ → Type 0 = λ r. Holds (state_after core (Ended r entry part last)) (events ++ Ended r entry part last ∷ []) in
    subst Q (sym here) (ended_here core events entry part last holds (subst (λ r. IsOn events (turn_of r entry)) here allowed))
holds_after core events (OutOfTime moment) holds allowed =
    let event : Event = OutOfTime moment in
    let same = sym (kept_costs-push_other core.setting events event refl) in
    let rounds = round_stays core events event holds.rounds refl (λ turn is. absurd (false≢true is)) (λ _. refl) (λ _. refl) in
    record {
      rounds = record { present = rounds.present; running = rounds.running; keepers = rounds.keepers; unended = rounds.unended };
      bound = holds.bound ∙ ap (last_or core.setting.bound) same;
      kept = holds.kept ∙ ap length same;
      last = holds.last ∙ list_any-push_no is_last_end events event refl;
      out_of_time = sym (list_any-append is_out_of_time events (event ∷ []) ∙ or-true (list_any is_out_of_time events));
      codes = ap (λ s. set.union s (norm_of RanOut)) holds.codes ∙ codes_after events event RanOut refl;
    }

-- a core at its end has no turn that is on
ends_nothing : (core : CoreState) (events : List Event) (round entry : ℕ) → Holds core events → IsOn events (turn_of round entry) → is_at_end core ≡ true → ⊥
ends_nothing core events round entry holds on at_end =
    let here = offers_here core events round entry holds on in
    let now : IsOn events (turn_of core.round entry) = subst (λ r. IsOn events (turn_of r entry)) here on in
    let runs = holds.rounds.present.begun (turn_of core.round entry) now.begun in
    let is_entry = runs_entry core.setting events core.round entry runs in
    let some = count_by-some (is_unended core.setting events core.round) entry 1 (length core.setting.shares) (and_from _ _ runs (ap not now.unended)) is_entry.0 (omega (arith, is_entry.1)) in
    let none = eqb-true core.unended 0 (and_parts (core.unended == 0) _ at_end).0 in
    absurd (omega (arith, some, none, holds.rounds.unended))

-- nor does a turn begin then in a later round
begins_nothing : (core : CoreState) (events : List Event) (round entry moment : ℕ) → Holds core events → IsAllowed core.setting events (Began round entry moment) → nat_lt core.round round ≡ true → is_at_end core ≡ true → ⊥
begins_nothing core events round entry moment holds allowed later at_end =
    let next = is_next core.setting events core.round round entry holds.rounds.present (ltb-true core.round round later) allowed.runs in
    let runs_here = subst (λ r. runs_in core.setting events r entry ≡ true) next.0 allowed.runs in
    let is_entry = runs_entry core.setting events (suc core.round) entry runs_here in
    let some = any_of_range (runs_in core.setting events (suc core.round)) entry 1 (length core.setting.shares) runs_here is_entry.0 (omega (arith, is_entry.1)) in
    let none = (and_parts (core.unended == 0) (not (has_next core)) at_end).1 in
    false≢true (sym (ap not (next-holds core events holds.rounds ∙ some)) ∙ none)

-- a done core stays so, where it has no turns at its end
done_by : (time time' last last' full full' end end' : Bool) → (time ≡ true → time' ≡ true) → (last ≡ true → last' ≡ true) → (full ≡ true → full' ≡ true) → (end ≡ true → end' ≡ true) → (time || (last || (full || end))) ≡ true → (time' || (last' || (full' || end'))) ≡ true
done_by time time' last last' full full' end end' a b c d done =
    elim (or_cases time (last || (full || end)) done) [
      | inl is ↦ or_left time' _ (a is)
      | inr rest ↦ or_right time' _ (elim (or_cases last (full || end) rest) [
        | inl is ↦ or_left last' _ (b is)
        | inr rest ↦ or_right last' _ (elim (or_cases full end rest) [
          | inl is ↦ or_left full' _ (c is)
          | inr is ↦ or_right full' _ (d is)
        ])
      ])
    ]

full_stays : (most kept more : ℕ) → kept ≤ more → nat_le most kept ≡ true → nat_le most more ≡ true
full_stays most kept more fewer full = le-leb most more (omega (arith, leb-true most kept full))

-- A core that is done is so after one event more.
pub done_stays : (core : CoreState) (events : List Event) (event : Event) → Holds core events → IsAllowed core.setting events event → is_done core ≡ true → is_done (state_after core event) ≡ true
done_stays core events (Began round entry moment) holds allowed done =
    let P : CoreState → Type 0 = λ s. is_done s ≡ true in
    elim (cases_Bool (nat_lt core.round round)) [
      | inl later ↦
          subst P (sym (cond-true _ (next_round core round) core later))
          (done_by core.out_of_time core.out_of_time core.last core.last (nat_le (most_plans core.setting.single) core.kept) (nat_le (most_plans core.setting.single) core.kept) (is_at_end core) (is_at_end (next_round core round))
          (λ is. is) (λ is. is) (λ is. is) (λ is. absurd (begins_nothing core events round entry moment holds allowed later is)) done)
      | inr here ↦ subst P (sym (cond-false _ (next_round core round) core here)) done
    ]
done_stays core events (Candidate round entry None) holds allowed done = done
done_stays core events (Candidate round entry (Some cost)) holds allowed done =
    let P : CoreState → Type 0 = λ s. is_done s ≡ true in
    elim (cases_Bool (accepts core cost)) [
      | inl takes ↦
          subst P (sym (cond-true _ (with_plan core entry cost) core takes))
          (done_by core.out_of_time core.out_of_time core.last core.last (nat_le (most_plans core.setting.single) core.kept) (nat_le (most_plans core.setting.single) (core.kept + 1)) (is_at_end core) (is_at_end (with_plan core entry cost))
          (λ is. is) (λ is. is) (full_stays (most_plans core.setting.single) core.kept (core.kept + 1) (omega arith)) (λ is. absurd (ends_nothing core events round entry holds allowed.on is)) done)
      | inr drops ↦ subst P (sym (cond-false _ (with_plan core entry cost) core drops)) done
    ]
done_stays core events (Ended round entry part last) holds allowed done =
    let after = state_after core (Ended round entry part last) in
    done_by core.out_of_time core.out_of_time core.last (core.last || last) (nat_le (most_plans core.setting.single) core.kept) (nat_le (most_plans core.setting.single) core.kept) (is_at_end core) (is_at_end after)
    (λ is. is) (or_left core.last last) (λ is. is) (λ is. absurd (ends_nothing core events round entry holds allowed is)) done
done_stays core events (OutOfTime moment) holds allowed done = refl

stop_by : (other : Action) (over : Bool) → is_stop other ≡ false → is_stop (stop_or other over) ≡ true → over ≡ true
stop_by other true plain stops = refl
stop_by other false plain stops = sym plain ∙ stops

-- a core that answers Stop is done
stop_is_done : (core : CoreState) (events : List Event) (event : Event) → Holds core events → IsAllowed core.setting events event → is_stop (answer_of core event) ≡ true → is_done (state_after core event) ≡ true
stop_is_done core events (Began round entry moment) holds allowed stops = done_stays core events (Began round entry moment) holds allowed (stop_by Go _ refl stops)
stop_is_done core events (Candidate round entry None) holds allowed stops = done_stays core events (Candidate round entry None) holds allowed (stop_by Drop _ refl stops)
stop_is_done core events (Candidate round entry (Some cost)) holds allowed stops =
    elim (cases_Bool (accepts core cost)) [
      | inl takes ↦ absurd (false≢true (ap is_stop (sym (cond-true _ (Keep core.kept) (stop_or Drop (is_done core)) takes)) ∙ stops))
      | inr drops ↦
          done_stays core events (Candidate round entry (Some cost)) holds allowed
          (stop_by Drop _ refl (ap is_stop (sym (cond-false _ (Keep core.kept) (stop_or Drop (is_done core)) drops)) ∙ stops))
    ]
stop_is_done core events (Ended round entry part last) holds allowed stops = stop_by Go _ refl stops
stop_is_done core events (OutOfTime moment) holds allowed stops = refl

-- What a core answers is what is answered to that event.
pub answers : (core : CoreState) (events : List Event) (event : Event) → Holds core events → IsAllowed core.setting events event → answer_of core event ≡ action_of core.setting events event
answers core events (Began round entry moment) holds allowed = ap (stop_or Go) (is_done-holds core events holds)
answers core events (Candidate round entry None) holds allowed = ap (stop_or Drop) (is_done-holds core events holds)
answers core events (Candidate round entry (Some cost)) holds allowed =
    let accepted = accepts-holds core events cost holds in
    let kept = holds.kept in
    let over = is_done-holds core events holds in
    λ i. cond (accepted i) (Keep (kept i)) (stop_or Drop (over i))
answers core events (Ended round entry part last) holds allowed =
    ap (stop_or Go) (is_done-holds _ _ (holds_after core events (Ended round entry part last) holds allowed))
answers core events (OutOfTime moment) holds allowed = refl

setting_of : (b : Bool) (next core : CoreState) → next.setting ≡ core.setting → (cond b next core).setting ≡ core.setting
setting_of true next core same = same
setting_of false next core same = refl

same_setting : (core : CoreState) (event : Event) → (state_after core event).setting ≡ core.setting
same_setting core (Began round entry moment) = setting_of (nat_lt core.round round) (next_round core round) core refl
same_setting core (Candidate round entry None) = refl
same_setting core (Candidate round entry (Some cost)) = setting_of (accepts core cost) (with_plan core entry cost) core refl
same_setting core (Ended round entry part last) = refl
same_setting core (OutOfTime moment) = refl

stopped-push : (setting : Setting) (events : List Event) (event : Event) → has_stopped setting (events ++ event ∷ []) ≡ (has_stopped setting events || is_stop (action_of setting events event))
stopped-push setting events event =
    ap (list_any is_stop) (actions_of-push setting events event)
    ∙ list_any-append is_stop (actions_of setting events) (action_of setting events event ∷ [])
    ∙ ap (λ b. has_stopped setting events || b) (or-false _)

-- A core that stands for events stands after a step for one event more.
pub stands_after : (core : CoreState) (events : List Event) (event : Event) → StandsFor core events → IsAllowed core.setting events event → StandsFor (state_after core event) (events ++ event ∷ [])
stands_after core events event stands allowed =
    let after = state_after core event in
    let more : List Event = events ++ event ∷ [] in
    let holds = holds_after core events event stands.holds allowed in
    let Legal : Setting → Type 0 = λ s. IsLegal s more in
    let Over : Setting → Type 0 = λ s. has_stopped s more ≡ true → is_over_after s more ≡ true in
    let same = sym (same_setting core event) in
    let over : is_done after ≡ true → is_over_after core.setting more ≡ true = λ done. (λ i. is_over_after (same i) more) ∙ sym (is_done-holds after more holds) ∙ done in
    record {
      legal = subst Legal same (IsLegal-push core.setting events event stands.legal allowed);
      holds = holds;
      stopped = subst Over same (λ stopped.
          elim (or_cases (has_stopped core.setting events) (is_stop (action_of core.setting events event)) (sym (stopped-push core.setting events event) ∙ stopped)) [
            | inl before ↦ over (done_stays core events event stands.holds allowed (is_done-holds core events stands.holds ∙ stands.stopped before))
            | inr now ↦ over (stop_is_done core events event stands.holds allowed (ap is_stop (answers core events event stands.holds allowed) ∙ now))
          ]);
    }

take-none : (m : ℕ) → take m (let none : List ℕ = [] in none) ≡ []
take-none zero = refl
take-none (suc m) = refl

-- A core that holds what it holds at first stands for no events.
pub stands_first : (core : CoreState) → core.bound ≡ core.setting.bound → core.kept ≡ 0 → core.round ≡ 1 → 0 < length core.setting.shares
    → core.running ≡ replicate (length core.setting.shares) true → core.keepers ≡ replicate (length core.setting.shares) false
    → core.unended ≡ length core.setting.shares → core.last ≡ false → core.out_of_time ≡ false → core.codes ≡ set.empty → StandsFor core []
stands_first core bound kept round some running keepers unended last out_of_time codes =
    let setting = core.setting in
    let none = take-none (most_plans setting.single) in
    let runs : (x : ℕ) → 1 ≤ x → x < 1 + length setting.shares → runs_in setting [] 1 x ≡ true = λ x from below. and_from (nat_le 1 x) (nat_le x (length setting.shares)) (le-leb 1 x from) (le-leb x (length setting.shares) (omega arith)) in
    let P : ℕ → Type 0 = λ r. HoldsRound (record core { round = r }) [] in
    let rounds : P 1 = record {
      present = record {
        some = any_of_range (runs_in setting [] 1) 1 1 (length setting.shares) (runs 1 (omega arith) (omega arith)) (omega arith) (omega arith);
        latest = refl;
        reached = λ before one below. absurd (omega arith);
        earlier = none_before_first setting [];
        begun = λ turn begun. absurd (false≢true begun);
      };
      running = running ∙ all_marked (runs_in setting [] 1) true 1 (length setting.shares) runs;
      keepers = keepers ∙ all_marked (is_keeper setting [] 1) false 1 (length setting.shares) (λ x from below. and_right (runs_in setting [] 1 x) false refl);
      unended = unended ∙ sym (count_by-all (is_unended setting [] 1) 1 (length setting.shares) (λ x from below. and_from (runs_in setting [] 1 x) true (runs x from below) refl));
    } in
    record {
      legal = tt;
      holds = record {
        rounds = subst P (sym round) rounds;
        bound = bound ∙ ap (last_or setting.bound) (sym none);
        kept = kept ∙ ap length (sym none);
        last = last;
        out_of_time = out_of_time;
        codes = codes;
      };
      stopped = λ stopped. absurd (false≢true stopped);
    }

codes_with_limit : (reached : Bool) (codes : CodeSet) (parts : List Part) → codes ≡ codes_of parts → cond reached (set.union codes (norm_of PlanLimit)) codes ≡ codes_of (parts ++ cond reached (PlanLimit ∷ []) [])
codes_with_limit true codes parts same = ap (λ s. set.union s (norm_of PlanLimit)) same ∙ sym (codes_of-push parts PlanLimit)
codes_with_limit false codes parts same = same ∙ ap codes_of (sym (append-nil parts))

-- The code of what a core holds is that of the events.
pub code-stands : (core : CoreState) (events : List Event) → StandsFor core events → combine_of (all_codes core) (nat_lt 0 core.kept) ≡ code_of core.setting events
code-stands core events stands =
    ap (λ codes. combine_of codes (nat_lt 0 core.kept)) (codes_with_limit (core.kept == 9999) core.codes (parts_in events) stands.holds.codes)
    ∙ ap (λ kept. combine_of (codes_of (parts_in events ++ limit_parts kept)) (nat_lt 0 kept)) stands.holds.kept

-- What a core and its answers so far are to the events so far, where these are legal.
pub record Follows (setting : Setting) (core : CoreState) (done : List Action) (past : List Event) : Type 0 where
  pub stands : IsLegal setting past → StandsFor core past
  pub answered : IsLegal setting past → done ≡ actions_of setting past

pub follows_step : (setting : Setting) (core next : CoreState) (done done' : List Action) (past past' : List Event) (event : Event) (answer : Action) → core.setting ≡ setting → Follows setting core done past
    → ((events : List Event) → StandsFor core events → IsAllowed core.setting events event → StandsFor next (events ++ event ∷ []))
    → ((events : List Event) → StandsFor core events → IsAllowed core.setting events event → answer ≡ action_of core.setting events event)
    → done' ≡ done ++ answer ∷ [] → past' ≡ past ++ event ∷ []
    → Follows setting next done' past'
follows_step setting core next done done' past past' event answer same follows stood told more longer =
    let P : List Event → Type 0 = λ events. Follows setting next done' events in
    let Allowed : Setting → Type 0 = λ s. IsAllowed s past event in
    let allowed : IsLegal setting (past ++ event ∷ []) → IsAllowed core.setting past event = λ legal. subst Allowed (sym same) (IsLegal-last setting past event legal) in
    let before : IsLegal setting (past ++ event ∷ []) → StandsFor core past = λ legal. follows.stands (IsLegal-front setting past event legal) in
    subst P (sym longer) (record {
      stands = λ legal. stood past (before legal) (allowed legal);
      answered = λ legal.
          more
          ∙ ap (λ all. all ++ answer ∷ []) (follows.answered (IsLegal-front setting past event legal))
          ∙ ap (λ last. actions_of setting past ++ last ∷ []) (told past (before legal) (allowed legal) ∙ ap (λ s. action_of s past event) same)
          ∙ sym (actions_of-push setting past event);
    })
