-- The present round, and what one more event makes of it.
use Rattle.std.proofs.Common.{◌≡◌, ◌≢◌, ℕ, ◌+◌, ◌-◌, ◌<◌, ◌≤◌, Bool, true, false, not, cond, ◌&&◌, ◌||◌, ◌==◌, nat_lt, nat_le, List, [], ◌∷◌, ◌++◌, length, map, filter, set, replicate, Option, Some, None, zero, suc, refl, sym, ap, ◌∙◌, subst, arith, inl, inr}
use Rattle.std.proofs.lemmas.Bool.{cases_Bool, cases_eq, cases_lt, and_parts, and_from, and_left, and_right, or_cases, or_from, or_parts, or_left, or_right, not_from_true, false_from_ne_true, false≢true, eqb-true, ne_eqb, eq-eqb, leb-true, lt-ltb, le-ltb, ltb-true, ltb-false}
use Rattle.std.proofs.lemmas.List.Folds.{list_any-append}
use Rattle.std.proofs.lemmas.List.FromFn.{length-map-range_with_len}
use Rattle.std.proofs.Math.Bool.{or-false, and-true}
use Rattle.std.specs.List.{list_all, list_any, filter_map, count_by, range_with_len}
use Rattle.exit_codes.specs.declared.parts.Part.{Part}
use Rattle.driver_core.specs.declared.events.Event.{Event}
use Rattle.driver_core.specs.declared.events.Event.TheVariants.{Began, Candidate, Ended, OutOfTime}
use Rattle.driver_core.specs.declared.settings.Setting.{Setting}
use Rattle.driver_core.specs.Pasts.{each_after}
use Rattle.driver_core.specs.Settings.{entries}
use Rattle.driver_core.specs.Turns.{Turn, turn_of, is_beginning_of, is_end_of, has_begun, has_ended, IsOn}
use Rattle.driver_core.specs.Keeping.{is_kept}
use Rattle.driver_core.specs.Rounds.{keeps_for, has_kept, runs_in, has_entries, is_ended, is_last_round, round_in, has_last_round}
use Rattle.driver_core.specs.States.{CoreState, is_marked, has_next, is_at_end, next_round, with_plan}
use Rattle.driver_core.specs.Standing.{is_after, IsPresent, is_unended, is_keeper, HoldsRound}
use Rattle.driver_core.proofs.OneMoreEvent.{has_begun-push, has_ended-push, has_kept-push}
use Rattle.driver_core.proofs.Tests.{same_truth, none_left, count_by-falls, count_by-marks, list_any-marks, all_marked, marked, any_of_range, one_of_all, all_stay, any_so}

-- what runs is an entry
pub runs_entry : (setting : Setting) (events : List Event) (round entry : ℕ) → runs_in setting events round entry ≡ true → (1 ≤ entry) × (entry ≤ length setting.shares)
runs_entry setting events zero entry runs = absurd (false≢true runs)
runs_entry setting events (suc zero) entry runs =
    let parts = and_parts (nat_le 1 entry) (nat_le entry (length setting.shares)) runs in
    (leb-true 1 entry parts.0, leb-true entry (length setting.shares) parts.1)
runs_entry setting events (suc (suc before)) entry runs =
    let ran = runs_in setting events (suc before) entry in
    let kept = has_kept setting events (turn_of (suc before) entry) in
    runs_entry setting events (suc before) entry (and_parts ran kept (and_parts setting.rounds (ran && kept) runs).1).0

-- the same entries run where the same turns of earlier rounds kept a plan
pub runs_same : (setting : Setting) (events more : List Event) (round entry : ℕ) → ((turn : Turn) → turn.round < round → has_kept setting more turn ≡ has_kept setting events turn) → runs_in setting more round entry ≡ runs_in setting events round entry
runs_same setting events more zero entry same = refl
runs_same setting events more (suc zero) entry same = refl
runs_same setting events more (suc (suc before)) entry same =
    let ran = runs_same setting events more (suc before) entry (λ turn below. same turn (omega arith)) in
    let kept = same (turn_of (suc before) entry) (omega arith) in
    λ i. setting.rounds && (ran i && kept i)

-- what runs in a round ran in the earlier ones
runs_before : (setting : Setting) (events : List Event) (round before entry : ℕ) → runs_in setting events round entry ≡ true → 1 ≤ before → before ≤ round → runs_in setting events before entry ≡ true
runs_before setting events zero before entry runs one below = absurd (omega arith)
runs_before setting events (suc zero) before entry runs one below =
    let same : suc zero ≡ before = omega arith in
    subst (λ r. runs_in setting events r entry ≡ true) same runs
runs_before setting events (suc (suc last)) before entry runs one below =
    let ran = runs_in setting events (suc last) entry in
    let kept = has_kept setting events (turn_of (suc last) entry) in
    elim (cases_eq (suc (suc last)) before) [
      | inl same ↦ subst (λ r. runs_in setting events r entry ≡ true) same runs
      | inr other ↦ runs_before setting events (suc last) before entry (and_parts ran kept (and_parts setting.rounds (ran && kept) runs).1).0 one (omega arith)
    ]

entries_before : (setting : Setting) (events : List Event) (round before : ℕ) → has_entries setting events round ≡ true → 1 ≤ before → before ≤ round → has_entries setting events before ≡ true
entries_before setting events round before some one below =
    any_so (runs_in setting events round) (runs_in setting events before) (entries setting) (λ entry runs. runs_before setting events round before entry runs one below) some

any_none : (xs : List ℕ) → list_any (λ _. false) xs ≡ false
any_none [] = refl
any_none (x ∷ xs) = any_none xs

-- a round that has entries is the first or a later one
pub is_numbered : (setting : Setting) (events : List Event) (round : ℕ) → has_entries setting events round ≡ true → 1 ≤ round
is_numbered setting events zero some =
    absurd (false≢true (sym (any_none (entries setting)) ∙ some))
is_numbered setting events (suc round) some = omega arith

-- where there are rounds, those that kept a plan run in the next
pub next_runs : (setting : Setting) (events : List Event) (round entry : ℕ) → 1 ≤ round → runs_in setting events (suc round) entry ≡ (setting.rounds && is_keeper setting events round entry)
next_runs setting events zero entry one = absurd (omega arith)
next_runs setting events (suc before) entry one = refl

-- Events of later rounds.
not_later : (p : Event → Bool) (round other : ℕ) (events : List Event) → list_any (is_after round) events ≡ false → ((event : Event) → round < other → p event ≡ true → is_after round event ≡ true) → list_any p events ≡ true → other ≤ round
not_later p round other events latest so any =
    elim (cases_lt round other) [
      | inl below ↦ absurd (false≢true (sym latest ∙ any_so p (is_after round) events (λ event. so event below) any))
      | inr above ↦ above
    ]

begins_after : (turn : Turn) (round : ℕ) (event : Event) → round < turn.round → is_beginning_of turn event ≡ true → is_after round event ≡ true
begins_after turn round (Began other entry moment) below is =
    let same : other ≡ turn.round = eqb-true other turn.round (and_parts (other == turn.round) (entry == turn.entry) is).0 in
    lt-ltb round other (omega arith)
begins_after turn round (Candidate other entry cost) below is = absurd (false≢true is)
begins_after turn round (Ended other entry part last) below is = absurd (false≢true is)
begins_after turn round (OutOfTime moment) below is = absurd (false≢true is)

ends_after : (turn : Turn) (round : ℕ) (event : Event) → round < turn.round → is_end_of turn event ≡ true → is_after round event ≡ true
ends_after turn round (Began other entry moment) below is = absurd (false≢true is)
ends_after turn round (Candidate other entry cost) below is = absurd (false≢true is)
ends_after turn round (Ended other entry part last) below is =
    let same : other ≡ turn.round = eqb-true other turn.round (and_parts (other == turn.round) (entry == turn.entry) is).0 in
    lt-ltb round other (omega arith)
ends_after turn round (OutOfTime moment) below is = absurd (false≢true is)

keeps_after : (setting : Setting) (turn : Turn) (round : ℕ) (past : List Event) (event : Event) → round < turn.round → keeps_for setting turn past event ≡ true → is_after round event ≡ true
keeps_after setting turn round past (Began other entry moment) below is = absurd (false≢true is)
keeps_after setting turn round past (Candidate other entry None) below is = absurd (false≢true is)
keeps_after setting turn round past (Candidate other entry (Some cost)) below is =
    let of_turn = (and_parts ((other == turn.round) && (entry == turn.entry)) (is_kept setting past cost) is).0 in
    let same : other ≡ turn.round = eqb-true other turn.round (and_parts (other == turn.round) (entry == turn.entry) of_turn).0 in
    lt-ltb round other (omega arith)
keeps_after setting turn round past (Ended other entry part last) below is = absurd (false≢true is)
keeps_after setting turn round past (OutOfTime moment) below is = absurd (false≢true is)

any_after_so : (f : List Event → Event → Bool) (q : Event → Bool) (past events : List Event) → ((earlier : List Event) (event : Event) → f earlier event ≡ true → q event ≡ true) → list_any (λ keeps. keeps) (each_after f past events) ≡ true → list_any q events ≡ true
any_after_so f q past [] so any = any
any_after_so f q past (event ∷ events) so any =
    elim (or_cases (f past event) (list_any (λ keeps. keeps) (each_after f (past ++ event ∷ []) events)) any) [
      | inl here ↦ or_left (q event) _ (so past event here)
      | inr later ↦ or_right (q event) _ (any_after_so f q (past ++ event ∷ []) events so later)
    ]

pub begun_by : (events : List Event) (round : ℕ) (turn : Turn) → list_any (is_after round) events ≡ false → has_begun events turn ≡ true → turn.round ≤ round
begun_by events round turn latest begun = not_later (is_beginning_of turn) round turn.round events latest (begins_after turn round) begun

pub none_ended : (events : List Event) (round : ℕ) (turn : Turn) → list_any (is_after round) events ≡ false → round < turn.round → has_ended events turn ≡ false
none_ended events round turn latest below =
    false_from_ne_true _ (λ ended. let within = not_later (is_end_of turn) round turn.round events latest (ends_after turn round) ended in absurd (omega arith))

pub none_kept : (setting : Setting) (events : List Event) (round : ℕ) (turn : Turn) → list_any (is_after round) events ≡ false → round < turn.round → has_kept setting events turn ≡ false
none_kept setting events round turn latest below =
    false_from_ne_true _ (λ kept.
    let any = any_after_so (keeps_for setting turn) (is_after round) [] events (λ past event. keeps_after setting turn round past event below) kept in
    false≢true (sym latest ∙ any))

-- A turn of a round that has ended has ended.
ended_turn : (setting : Setting) (events : List Event) (round entry : ℕ) → is_ended setting events round ≡ true → runs_in setting events round entry ≡ true → has_ended events (turn_of round entry) ≡ true
ended_turn setting events round entry all runs =
    let is_entry = runs_entry setting events round entry runs in
    one_of_all (runs_in setting events round) (λ e. has_ended events (turn_of round e)) entry 1 (length setting.shares) all runs is_entry.0 (omega arith)

-- A turn that is on is of the present round, and of an entry that runs in it.
pub on_present : (setting : Setting) (events : List Event) (round : ℕ) (turn : Turn) → IsPresent setting events round → IsOn events turn → turn.round ≡ round
on_present setting events round turn present on =
    let within = begun_by events round turn present.latest on.begun in
    elim (cases_lt turn.round round) [
      | inl below ↦ absurd (false≢true (sym on.unended ∙ ended_turn setting events turn.round turn.entry (present.earlier turn.round below) (present.begun turn on.begun)))
      | inr above ↦ omega arith
    ]

ended_stays : (setting : Setting) (events : List Event) (event : Event) (before : ℕ) → ((turn : Turn) → turn.round < before → has_kept setting (events ++ event ∷ []) turn ≡ has_kept setting events turn) → is_ended setting events before ≡ true → is_ended setting (events ++ event ∷ []) before ≡ true
ended_stays setting events event before same all =
    let more : List Event = events ++ event ∷ [] in
    all_stay (runs_in setting events before) (runs_in setting more before) (λ e. has_ended events (turn_of before e)) (λ e. has_ended more (turn_of before e)) (entries setting)
    (λ e. runs_same setting events more before e same)
    (λ e ended. has_ended-push events event (turn_of before e) ∙ or_left _ _ ended)
    all

-- The present round after an event, by which no turn of an earlier one kept a plan.
present_after : (setting : Setting) (events : List Event) (event : Event) (round : ℕ)
    → has_entries setting events round ≡ true
    → list_any (is_after round) events ≡ false → is_after round event ≡ false
    → ((before : ℕ) → 1 ≤ before → before < round → (list_any (is_after before) events || is_after before event) ≡ true)
    → ((before : ℕ) → before < round → is_ended setting events before ≡ true)
    → ((turn : Turn) → has_begun events turn ≡ true → runs_in setting events turn.round turn.entry ≡ true)
    → ((turn : Turn) → is_beginning_of turn event ≡ true → runs_in setting events turn.round turn.entry ≡ true)
    → ((turn : Turn) → turn.round < round → has_kept setting (events ++ event ∷ []) turn ≡ has_kept setting events turn)
    → IsPresent setting (events ++ event ∷ []) round
present_after setting events event round some latest not_after reached earlier begun begins same =
    let more : List Event = events ++ event ∷ [] in
    let still : list_any (is_after round) more ≡ false = list_any-append (is_after round) events (event ∷ []) ∙ or_from _ _ latest (or_from (is_after round event) false not_after refl) in
    record {
      some = any_so (runs_in setting events round) (runs_in setting more round) (entries setting) (λ e runs. runs_same setting events more round e same ∙ runs) some;
      latest = still;
      reached = λ before one below.
          list_any-append (is_after before) events (event ∷ []) ∙ ap (λ b. list_any (is_after before) events || b) (or-false (is_after before event)) ∙ reached before one below;
      earlier = λ before below. ended_stays setting events event before (λ turn lower. same turn (omega arith)) (earlier before below);
      begun = λ turn has.
          let within = begun_by more round turn still has in
          let ran : runs_in setting events turn.round turn.entry ≡ true = elim (or_cases (has_begun events turn) (is_beginning_of turn event) (sym (has_begun-push events event turn) ∙ has)) [
            | inl before ↦ begun turn before
            | inr now ↦ begins turn now
          ] in
          runs_same setting events more turn.round turn.entry (λ other lower. same other (omega arith)) ∙ ran;
    }

reached_still : (setting : Setting) (events : List Event) (round : ℕ) (event : Event) → IsPresent setting events round → (before : ℕ) → 1 ≤ before → before < round → (list_any (is_after before) events || is_after before event) ≡ true
reached_still setting events round event present before one below = or_left _ _ (present.reached before one below)

-- an event of the present round that keeps nothing and ends nothing
pub round_stays : (core : CoreState) (events : List Event) (event : Event) → HoldsRound core events → is_after core.round event ≡ false
    → ((turn : Turn) → is_beginning_of turn event ≡ true → runs_in core.setting events turn.round turn.entry ≡ true)
    → ((turn : Turn) → keeps_for core.setting turn events event ≡ false)
    → ((turn : Turn) → is_end_of turn event ≡ false)
    → HoldsRound core (events ++ event ∷ [])
round_stays core events event holds not_after begins keeps_none ends_none =
    let more : List Event = events ++ event ∷ [] in
    let present = holds.present in
    let kept : (turn : Turn) → has_kept core.setting more turn ≡ has_kept core.setting events turn = λ turn. has_kept-push core.setting events event turn ∙ ap (λ b. has_kept core.setting events turn || b) (keeps_none turn) ∙ or-false _ in
    let ended : (turn : Turn) → has_ended more turn ≡ has_ended events turn = λ turn. has_ended-push events event turn ∙ ap (λ b. has_ended events turn || b) (ends_none turn) ∙ or-false _ in
    let runs : (e : ℕ) → runs_in core.setting events core.round e ≡ runs_in core.setting more core.round e = λ e. sym (runs_same core.setting events more core.round e (λ turn below. kept turn)) in
    record {
      present = present_after core.setting events event core.round present.some present.latest not_after (reached_still core.setting events core.round event present) present.earlier present.begun begins (λ turn below. kept turn);
      running = holds.running ∙ (λ i. map (λ e. runs e i) (entries core.setting));
      keepers = holds.keepers ∙ (λ i. map (λ e. runs e i && sym (kept (turn_of core.round e)) i) (entries core.setting));
      unended = holds.unended ∙ (λ i. count_by (λ e. runs e i && not (sym (ended (turn_of core.round e)) i)) (entries core.setting));
    }

-- a plan of the present round is kept
pub round_keeps : (core : CoreState) (events : List Event) (entry cost : ℕ) → HoldsRound core events → IsOn events (turn_of core.round entry) → is_kept core.setting events cost ≡ true
    → HoldsRound (with_plan core entry cost) (events ++ Candidate core.round entry (Some cost) ∷ [])
round_keeps core events entry cost holds on takes =
    let event : Event = Candidate core.round entry (Some cost) in
    let more : List Event = events ++ event ∷ [] in
    let present = holds.present in
    let runs_here = present.begun (turn_of core.round entry) on.begun in
    let is_entry = runs_entry core.setting events core.round entry runs_here in
    let other_turn : (turn : Turn) → ((core.round == turn.round) && (entry == turn.entry)) ≡ false → has_kept core.setting more turn ≡ has_kept core.setting events turn =
    λ turn other. has_kept-push core.setting events event turn ∙ ap (λ b. has_kept core.setting events turn || (b && is_kept core.setting events cost)) other ∙ or-false _ in
    let kept : (turn : Turn) → turn.round < core.round → has_kept core.setting more turn ≡ has_kept core.setting events turn =
    λ turn below. other_turn turn (and_left (core.round == turn.round) _ (ne_eqb core.round turn.round (λ same. absurd (omega arith)))) in
    let ended : (turn : Turn) → has_ended more turn ≡ has_ended events turn = λ turn. has_ended-push events event turn ∙ or-false _ in
    let runs : (e : ℕ) → runs_in core.setting events core.round e ≡ runs_in core.setting more core.round e = λ e. sym (runs_same core.setting events more core.round e kept) in
    let agree : (e : ℕ) → e ≢ entry → is_keeper core.setting more core.round e ≡ is_keeper core.setting events core.round e =
    λ e other. λ i. sym (runs e) i && other_turn (turn_of core.round e) (and_right (core.round == core.round) _ (ne_eqb entry e (λ same. other (sym same)))) i in
    let of_turn : ((core.round == core.round) && (entry == entry)) ≡ true = and_from _ _ (eq-eqb core.round core.round refl) (eq-eqb entry entry refl) in
    let now : is_keeper core.setting more core.round entry ≡ true =
    and_from _ _ (sym (runs entry) ∙ runs_here) (has_kept-push core.setting events event (turn_of core.round entry) ∙ or_right _ _ (and_from _ _ of_turn takes)) in
    record {
      present = present_after core.setting events event core.round present.some present.latest (le-ltb core.round core.round (omega arith)) (reached_still core.setting events core.round event present) present.earlier present.begun (λ turn is. absurd (false≢true is)) kept;
      running = holds.running ∙ (λ i. map (λ e. runs e i) (entries core.setting));
      keepers = ap (λ marks. set marks (entry - 1) true) holds.keepers ∙ sym (marked (is_keeper core.setting events core.round) (is_keeper core.setting more core.round) entry 1 (length core.setting.shares) (entry - 1) agree now (omega (arith, is_entry.0)) (omega (arith, is_entry.0, is_entry.1)));
      unended = holds.unended ∙ (λ i. count_by (λ e. runs e i && not (sym (ended (turn_of core.round e)) i)) (entries core.setting));
    }

-- a turn of the present round ends: what is held of the round
pub round_ends : (core : CoreState) (events : List Event) (entry : ℕ) (part : Part) (last : Bool) → HoldsRound core events → IsOn events (turn_of core.round entry)
    → HoldsRound (record core { unended = core.unended - 1 }) (events ++ Ended core.round entry part last ∷ [])
round_ends core events entry part last holds on =
    let event : Event = Ended core.round entry part last in
    let more : List Event = events ++ event ∷ [] in
    let present = holds.present in
    let runs_here = present.begun (turn_of core.round entry) on.begun in
    let is_entry = runs_entry core.setting events core.round entry runs_here in
    let kept : (turn : Turn) → has_kept core.setting more turn ≡ has_kept core.setting events turn = λ turn. has_kept-push core.setting events event turn ∙ or-false _ in
    let runs : (e : ℕ) → runs_in core.setting events core.round e ≡ runs_in core.setting more core.round e = λ e. sym (runs_same core.setting events more core.round e (λ turn below. kept turn)) in
    let agree : (e : ℕ) → e ≢ entry → is_unended core.setting more core.round e ≡ is_unended core.setting events core.round e =
    λ e other.
    let not_this : ((core.round == core.round) && (entry == e)) ≡ false = and_right (core.round == core.round) _ (ne_eqb entry e (λ same. other (sym same))) in
    let same = has_ended-push events event (turn_of core.round e) ∙ ap (λ b. has_ended events (turn_of core.round e) || b) not_this ∙ or-false _ in
    λ i. sym (runs e) i && not (same i) in
    let had : is_unended core.setting events core.round entry ≡ true = and_from _ _ runs_here (ap not on.unended) in
    let of_turn : ((core.round == core.round) && (entry == entry)) ≡ true = and_from _ _ (eq-eqb core.round core.round refl) (eq-eqb entry entry refl) in
    let lost : is_unended core.setting more core.round entry ≡ false = and_right _ _ (ap not (has_ended-push events event (turn_of core.round entry) ∙ or_right _ _ of_turn)) in
    let fell = count_by-falls (is_unended core.setting events core.round) (is_unended core.setting more core.round) entry 1 (length core.setting.shares) agree had lost is_entry.0 (omega (arith, is_entry.1)) in
    record {
      present = present_after core.setting events event core.round present.some present.latest (le-ltb core.round core.round (omega arith)) (reached_still core.setting events core.round event present) present.earlier present.begun (λ turn is. absurd (false≢true is)) (λ turn below. kept turn);
      running = holds.running ∙ (λ i. map (λ e. runs e i) (entries core.setting));
      keepers = holds.keepers ∙ (λ i. map (λ e. runs e i && sym (kept (turn_of core.round e)) i) (entries core.setting));
      unended = omega (arith, holds.unended, fell);
    }

-- the turns of a later round are of the next one, where there are rounds
pub is_next : (setting : Setting) (events : List Event) (round other entry : ℕ) → IsPresent setting events round → round < other → runs_in setting events other entry ≡ true → (other ≡ suc round) × (setting.rounds ≡ true)
is_next setting events round zero entry present later runs = absurd (omega arith)
is_next setting events round (suc zero) entry present later runs = let one = is_numbered setting events round present.some in absurd (omega arith)
is_next setting events round (suc (suc before)) entry present later runs =
    let ran = runs_in setting events (suc before) entry in
    let kept = has_kept setting events (turn_of (suc before) entry) in
    let parts = and_parts setting.rounds (ran && kept) runs in
    let within : suc before ≤ round = elim (cases_lt round (suc before)) [
      | inl below ↦ absurd (false≢true (sym (none_kept setting events round (turn_of (suc before) entry) present.latest below) ∙ (and_parts ran kept parts.1).1))
      | inr above ↦ above
    ] in
    (omega arith, parts.0)

later_after : (round : ℕ) (event : Event) → is_after (suc round) event ≡ true → is_after round event ≡ true
later_after round (Began other entry moment) is = let above = ltb-true (suc round) other is in lt-ltb round other (omega arith)
later_after round (Candidate other entry cost) is = let above = ltb-true (suc round) other is in lt-ltb round other (omega arith)
later_after round (Ended other entry part last) is = let above = ltb-true (suc round) other is in lt-ltb round other (omega arith)
later_after round (OutOfTime moment) is = is

-- a turn of the next round begins
pub round_moves : (core : CoreState) (events : List Event) (entry moment : ℕ) → HoldsRound core events → core.setting.rounds ≡ true
    → runs_in core.setting events (suc core.round) entry ≡ true → ((before : ℕ) → before < suc core.round → is_ended core.setting events before ≡ true)
    → HoldsRound (next_round core (suc core.round)) (events ++ Began (suc core.round) entry moment ∷ [])
round_moves core events entry moment holds rounds runs_here earlier =
    let event : Event = Began (suc core.round) entry moment in
    let more : List Event = events ++ event ∷ [] in
    let present = holds.present in
    let one = is_numbered core.setting events core.round present.some in
    let is_entry = runs_entry core.setting events (suc core.round) entry runs_here in
    let kept : (turn : Turn) → has_kept core.setting more turn ≡ has_kept core.setting events turn = λ turn. has_kept-push core.setting events event turn ∙ or-false _ in
    let ended : (turn : Turn) → has_ended more turn ≡ has_ended events turn = λ turn. has_ended-push events event turn ∙ or-false _ in
    let latest : list_any (is_after (suc core.round)) events ≡ false = false_from_ne_true _ (λ any. false≢true (sym present.latest ∙ any_so (is_after (suc core.round)) (is_after core.round) events (later_after core.round) any)) in
    let runs : (e : ℕ) → is_keeper core.setting events core.round e ≡ runs_in core.setting more (suc core.round) e =
    λ e. sym (runs_same core.setting events more (suc core.round) e (λ turn below. kept turn) ∙ next_runs core.setting events core.round e one ∙ ap (λ b. b && is_keeper core.setting events core.round e) rounds) in
    let unkept : (e : ℕ) → is_keeper core.setting more (suc core.round) e ≡ false =
    λ e. and_right _ _ (kept (turn_of (suc core.round) e) ∙ none_kept core.setting events core.round (turn_of (suc core.round) e) present.latest (omega arith)) in
    let unended : (e : ℕ) → runs_in core.setting more (suc core.round) e ≡ is_unended core.setting more (suc core.round) e =
    λ e. sym (ap (λ b. runs_in core.setting more (suc core.round) e && not b) (ended (turn_of (suc core.round) e) ∙ none_ended events core.round (turn_of (suc core.round) e) present.latest (omega arith)) ∙ and-true _) in
    let begins : (turn : Turn) → is_beginning_of turn event ≡ true → runs_in core.setting events turn.round turn.entry ≡ true =
    λ turn is.
    let parts = and_parts (suc core.round == turn.round) (entry == turn.entry) is in
    let same_round = eqb-true (suc core.round) turn.round parts.0 in
    let same_entry = eqb-true entry turn.entry parts.1 in
    sym (λ i. runs_in core.setting events (same_round i) (same_entry i)) ∙ runs_here in
    record {
      present = present_after core.setting events event (suc core.round)
          (any_of_range (runs_in core.setting events (suc core.round)) entry 1 (length core.setting.shares) runs_here is_entry.0 (omega (arith, is_entry.1)))
          latest (le-ltb (suc core.round) (suc core.round) (omega arith)) (λ before one' below. or_right (list_any (is_after before) events) _ (lt-ltb before (suc core.round) below)) earlier present.begun begins (λ turn below. kept turn);
      running = holds.keepers ∙ (λ i. map (λ e. runs e i) (entries core.setting));
      keepers = ap (λ n. replicate n false) (ap length holds.keepers ∙ length-map-range_with_len (is_keeper core.setting events core.round) 1 (length core.setting.shares))
          ∙ all_marked (is_keeper core.setting more (suc core.round)) false 1 (length core.setting.shares) (λ e from below. unkept e);
      unended = ap (count_by is_marked) holds.keepers ∙ count_by-marks (is_keeper core.setting events core.round) (entries core.setting) ∙ (λ i. count_by (λ e. (runs e ∙ unended e) i) (entries core.setting));
    }

any_and : (b : Bool) (p : ℕ → Bool) (xs : List ℕ) → list_any (λ x. b && p x) xs ≡ (b && list_any p xs)
any_and true p xs = refl
any_and false p [] = refl
any_and false p (x ∷ xs) = any_and false p xs

-- whether another round follows
pub next-holds : (core : CoreState) (events : List Event) → HoldsRound core events → has_next core ≡ has_entries core.setting events (suc core.round)
next-holds core events holds =
    let one = is_numbered core.setting events core.round holds.present.some in
    let all = entries core.setting in
    ap (λ marks. core.setting.rounds && list_any is_marked marks) holds.keepers
    ∙ ap (λ b. core.setting.rounds && b) (list_any-marks (is_keeper core.setting events core.round) all)
    ∙ sym (any_and core.setting.rounds (is_keeper core.setting events core.round) all)
    ∙ (λ i. list_any (λ e. sym (next_runs core.setting events core.round e one) i) all)

pub ended-holds : (core : CoreState) (events : List Event) → HoldsRound core events → (core.unended == 0) ≡ is_ended core.setting events core.round
ended-holds core events holds =
    ap (λ n. n == 0) holds.unended ∙ none_left (runs_in core.setting events core.round) (λ e. has_ended events (turn_of core.round e)) (entries core.setting)

-- the round of an end is told
told_end : (f : ℕ → Bool) (turn : Turn) (events : List Event) → f turn.round ≡ true → has_ended events turn ≡ true → list_any f (filter_map round_in events) ≡ true
told_end f turn [] is ended = ended
told_end f turn (Began round entry moment ∷ events) is ended = told_end f turn events is ended
told_end f turn (Candidate round entry cost ∷ events) is ended = told_end f turn events is ended
told_end f turn (Ended round entry part last ∷ events) is ended =
    elim (or_cases ((round == turn.round) && (entry == turn.entry)) (has_ended events turn) ended) [
      | inl here ↦ or_left (f round) _ (ap f (eqb-true round turn.round (and_parts (round == turn.round) (entry == turn.entry) here).0) ∙ is)
      | inr later ↦ or_right (f round) _ (told_end f turn events is later)
    ]
told_end f turn (OutOfTime moment ∷ events) is ended = told_end f turn events is ended

told_ends : (f : ℕ → Bool) (round : ℕ) (events : List Event) (q : ℕ → Bool) (xs : List ℕ) → f round ≡ true → list_any q xs ≡ true → list_all (λ e. has_ended events (turn_of round e)) (filter q xs) ≡ true → list_any f (filter_map round_in events) ≡ true
told_ends f round events q [] is some all = absurd (false≢true some)
told_ends f round events q (x ∷ xs) is some all =
    let p : ℕ → Bool = λ e. has_ended events (turn_of round e) in
    elim (q x) as (λ b. (b || list_any q xs) ≡ true → list_all p (cond b (x ∷ filter q xs) (filter q xs)) ≡ true → list_any f (filter_map round_in events) ≡ true) [
      | true ↦ λ some all. told_end f (turn_of round x) events is (and_parts (p x) (list_all p (filter q xs)) all).0
      | false ↦ λ some all. told_ends f round events q xs is some all
    ] some all

-- and each round that is told is not a later one
only_told : (f : ℕ → Bool) (round : ℕ) (b : Bool) (events : List Event) → list_any (is_after round) events ≡ false → ((r : ℕ) → r ≤ round → f r ≡ true → b ≡ true) → list_any f (filter_map round_in events) ≡ true → b ≡ true
only_told f round b [] latest so any = absurd (false≢true any)
only_told f round b (Began other entry moment ∷ events) latest so any = only_told f round b events (or_parts (nat_lt round other) _ latest).1 so any
only_told f round b (Candidate other entry cost ∷ events) latest so any = only_told f round b events (or_parts (nat_lt round other) _ latest).1 so any
only_told f round b (Ended other entry part last ∷ events) latest so any =
    elim (or_cases (f other) (list_any f (filter_map round_in events)) any) [
      | inl here ↦ so other (ltb-false round other (or_parts (nat_lt round other) _ latest).0) here
      | inr later ↦ only_told f round b events (or_parts (nat_lt round other) _ latest).1 so later
    ]
only_told f round b (OutOfTime moment ∷ events) latest so any = only_told f round b events latest so any

-- The core is at its end where a round has ended that no other follows.
pub at_end-holds : (core : CoreState) (events : List Event) → HoldsRound core events → is_at_end core ≡ has_last_round core.setting events
at_end-holds core events holds =
    let present = holds.present in
    let last : (is_ended core.setting events core.round && not (has_entries core.setting events (suc core.round))) ≡ is_at_end core =
    λ i. sym (ended-holds core events holds) i && not (sym (next-holds core events holds) i) in
    same_truth (is_at_end core) (has_last_round core.setting events)
    (λ at_end.
    let parts = and_parts _ _ (last ∙ at_end) in
    told_ends (is_last_round core.setting events) core.round events (runs_in core.setting events core.round) (entries core.setting)
    (and_from _ _ present.some (last ∙ at_end)) present.some parts.0)
    (only_told (is_last_round core.setting events) core.round (is_at_end core) events present.latest
    (λ r within is.
    let parts = and_parts (has_entries core.setting events r) _ is in
    elim (cases_lt r core.round) [
      | inl below ↦
          let follows = entries_before core.setting events core.round (suc r) present.some (omega arith) (omega arith) in
          absurd (false≢true (sym (ap not follows) ∙ (and_parts (is_ended core.setting events r) _ parts.1).1))
      | inr above ↦
          let same : r ≡ core.round = omega arith in
          sym last ∙ subst (λ r'. (is_ended core.setting events r' && not (has_entries core.setting events (suc r'))) ≡ true) same parts.1
    ]))
