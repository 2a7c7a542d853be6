-- A turn begins, offers, and ends.
use Rattle.std.proofs.Common.{◌≡◌, ◌∙◌, sym, ap, subst, refl, ℕ, ◌+◌, ◌<◌, true, List, [], ◌∷◌, ◌++◌, length, map, take, append_assoc, Option, Some}
use Rattle.std.proofs.lemmas.List.{append-nil, map-append, length-append, length-map, take_more}
use Rattle.std.proofs.lemmas.List.FromFn.{length-range_with_len, get_or-range_with_len}
use Rattle.std.proofs.lemmas.Grind.{flat_map-append}
use Rattle.std.specs.List.{last_or}
use Rattle.sas_task.specs.declared.plans.Kept.{Kept}
use Rattle.sas_task.specs.Runs.{IsPlanOf}
use Rattle.candidates.specs.declared.offers.Candidate.{Candidate}
use Rattle.candidates.specs.Collecting.{IsInTurn}
use Rattle.driver_core.specs.declared.events.Event.{Event}
use Rattle.driver_core.specs.declared.settings.Setting.{Setting}
use Rattle.driver_core.specs.Settings.{entries}
use Rattle.driver_core.specs.Keeping.{kept_costs, bound_of}
use Rattle.lama_num.specs.Bounds.{is_below}
use Rattle.driver_core.specs.Standing.{StandsFor}
use Rattle.driver_core.specs.States.{CoreState}
use Rattle.driver_core.specs.Turns.{Turn, turn_of, begins_at, offers}
use Rattle.driver_core.proofs.OneMoreEvent.{kept_costs-push_other}
use Rattle.run_report.specs.declared.report.EntryEnd.{EntryEnd}
use Rattle.run_report.specs.Turns.{BegunTurn, ToldTurn, begun_at, begun_of, offered_more, good_offer, candidate_of, offer_of, end_of, events_in, turn_events, turns_events, plans_of, candidates_of, EachTurn}
use Rattle.run_report.specs.Tells.{between, during, events_of, all_begun}
use Rattle.run_report.specs.Events.{AreInOrder}
use Rattle.run_report.specs.Searches.{Run, EndsAs}
use Rattle.run_report.specs.Runs.{IsUnderWay}
use Rattle.run_report.proofs.Lists.{plans-last, candidates-last, plans-offered, candidates-offered, among-none}
use Rattle.run_report.proofs.OneMorePlan.{more_plan}

abbrev costs_of : List Kept → List ℕ
costs_of kept = map (λ (plan : Kept). plan.cost) kept

abbrev entry_of : BegunTurn → ℕ
entry_of turn = turn.turn.entry

abbrev round_of : BegunTurn → ℕ
round_of turn = turn.turn.round

abbrev first_round : BegunTurn → ℕ
first_round turn = 1

-- the turns that have begun
pub all_between : (ended : List ToldTurn) → all_begun (between ended) ≡ map begun_of ended
all_between ended = append-nil (map begun_of ended)

all_ended : (ended : List ToldTurn) (turn : ToldTurn) → all_begun (between (ended ++ turn ∷ [])) ≡ all_begun (during ended (begun_of turn))
all_ended ended turn = append-nil (map begun_of (ended ++ turn ∷ [])) ∙ map-append begun_of ended (turn ∷ [])

-- the events
pub events_between : (ended : List ToldTurn) → events_of (between ended) ≡ turns_events ended
events_between ended = append-nil (turns_events ended)

events_begun : (ended : List ToldTurn) (turn : Turn) (began : ℕ) → events_of (during ended (begun_at turn began)) ≡ events_of (between ended) ++ begins_at turn began ∷ []
events_begun ended turn began = ap (λ front. front ++ begins_at turn began ∷ []) (sym (events_between ended))

events_offered : (ended : List ToldTurn) (begun : BegunTurn) (file : Option ℕ) (plan : Kept) →
    events_of (during ended (offered_more begun (good_offer file plan.ops plan.cost))) ≡ events_of (during ended begun) ++ offers begun.turn (Some plan.cost) ∷ []
events_offered ended begun file plan =
    ap (λ more. turns_events ended ++ begins_at begun.turn begun.began ∷ more) (map-append (offer_of begun.turn) begun.offered (good_offer file plan.ops plan.cost ∷ []))
    ∙ sym (append_assoc (turns_events ended) (events_in begun) (offers begun.turn (Some plan.cost) ∷ []))

events_ended : (ended : List ToldTurn) (turn : ToldTurn) → events_of (between (ended ++ turn ∷ [])) ≡ events_of (during ended (begun_of turn)) ++ end_of turn.end ∷ []
events_ended ended turn =
    events_between (ended ++ turn ∷ [])
    ∙ (flat_map-append turn_events ended (turn ∷ [])
    ∙ (ap (λ more. turns_events ended ++ more) (append-nil (turn_events turn))
    ∙ sym (append_assoc (turns_events ended) (events_in (begun_of turn)) (end_of turn.end ∷ []))))

-- the order of the turns
order_next : (setting : Setting) (turns : List BegunTurn) (turn : BegunTurn) → AreInOrder setting turns → turn.turn.entry ≡ 1 + length turns → turn.turn.round ≡ 1 → length turns < length setting.shares →
    AreInOrder setting (turns ++ turn ∷ [])
order_next setting turns turn order next first low =
    let n = length turns in
    let within : n < length (entries setting) = subst (λ m. n < m) (sym (length-range_with_len 1 (length setting.shares))) low in (
      map-append entry_of turns (turn ∷ [])
          ∙ (ap (λ es. es ++ turn.turn.entry ∷ []) order.0
          ∙ (ap (λ (entry : ℕ). take n (entries setting) ++ entry ∷ []) (next ∙ sym (get_or-range_with_len 1 (length setting.shares) n 0 low))
          ∙ (sym (take_more (entries setting) n 0 within) ∙ ap (λ m. take m (entries setting)) (sym (length-append turns (turn ∷ [])))))),
      map-append round_of turns (turn ∷ [])
          ∙ (ap (λ rs. rs ++ turn.turn.round ∷ []) order.1
          ∙ (ap (λ (round : ℕ). map first_round turns ++ round ∷ []) first ∙ sym (map-append first_round turns (turn ∷ [])))),
    )

order_same : (setting : Setting) (turns : List BegunTurn) (turn other : BegunTurn) → turn.turn ≡ other.turn → AreInOrder setting (turns ++ turn ∷ []) → AreInOrder setting (turns ++ other ∷ [])
order_same setting turns turn other same order =
    let count : length (turns ++ turn ∷ []) ≡ length (turns ++ other ∷ []) = length-append turns (turn ∷ []) ∙ sym (length-append turns (other ∷ [])) in (
      map-append entry_of turns (other ∷ [])
          ∙ (ap (λ (t : Turn). map entry_of turns ++ t.entry ∷ []) (sym same)
          ∙ (sym (map-append entry_of turns (turn ∷ [])) ∙ (order.0 ∙ ap (λ m. take m (entries setting)) count))),
      map-append round_of turns (other ∷ [])
          ∙ (ap (λ (t : Turn). map round_of turns ++ t.round ∷ []) (sym same)
          ∙ (sym (map-append round_of turns (turn ∷ []))
          ∙ (order.1 ∙ (map-append first_round turns (turn ∷ []) ∙ sym (map-append first_round turns (other ∷ [])))))),
    )

-- what holds of each turn that has ended, and of one more
each-push : (P : List Event → ToldTurn → Type 0) (before : List Event) (turns : List ToldTurn) (turn : ToldTurn) → EachTurn P before turns → P (before ++ turns_events turns) turn → EachTurn P before (turns ++ turn ∷ [])
each-push P before [] turn all next = (subst (λ past. P past turn) (append-nil before) next, tt)
each-push P before (first ∷ turns) turn all next =
    (all.0, each-push P (before ++ turn_events first) turns turn all.1 (subst (λ past. P past turn) (sym (append_assoc before (turn_events first) (turns_events turns))) next))

-- what the core keeps of it
kept_other : (setting : Setting) (past now : List Event) (event : Event) (kept : List Kept) → now ≡ past ++ event ∷ [] → kept_costs setting (past ++ event ∷ []) ≡ kept_costs setting past →
    kept_costs setting past ≡ costs_of kept → kept_costs setting now ≡ costs_of kept
kept_other setting past now event kept is none costs = ap (kept_costs setting) is ∙ (none ∙ costs)

pub begins : (run : Run) (core next : CoreState) (ended : List ToldTurn) (kept : List Kept) (candidates : List Candidate) (ends : List EntryEnd) (began : ℕ) →
    IsUnderWay run core (between ended) kept candidates ends → length ended < length run.setting.shares → next.setting ≡ core.setting →
    StandsFor next (events_of (between ended) ++ begins_at (turn_of 1 (1 + length ended)) began ∷ []) →
    IsUnderWay run next (during ended (begun_at (turn_of 1 (1 + length ended)) began)) kept candidates ends
begins run core next ended kept candidates ends began going low same stands =
    let turn = turn_of 1 (1 + length ended) in
    let begun = begun_at turn began in
    let turns = map begun_of ended in
    let events = events_begun ended turn began in
    let count : length turns ≡ length ended = length-map ended begun_of in
    record {
      setting = same ∙ going.setting;
      stands = subst (StandsFor next) (sym events) stands;
      lists = record {
        plans_are = going.lists.plans_are ∙ (ap plans_of (all_between ended) ∙ (sym (append-nil (plans_of turns)) ∙ sym (plans-last turns begun)));
        candidates_are =
            going.lists.candidates_are
            ∙ (ap (candidates_of 0) (all_between ended)
            ∙ (sym (append-nil (candidates_of 0 turns))
            ∙ (ap (λ none. candidates_of 0 turns ++ none) (sym (among-none turn (length (plans_of turns)))) ∙ sym (candidates-last turns begun))));
        ends_are = going.lists.ends_are;
      };
      costs = kept_other run.setting (events_of (between ended)) (events_of (during ended begun)) (begins_at turn began) kept events
          (kept_costs-push_other run.setting (events_of (between ended)) (begins_at turn began) refl) going.costs;
      order = order_next run.setting turns begun (subst (AreInOrder run.setting) (all_between ended) going.order) (ap (λ n. 1 + n) (sym count)) refl (subst (λ n. n < length run.setting.shares) (sym count) low);
      ended = going.ended;
      plans = going.plans;
    }

pub offers_more : (run : Run) (core next : CoreState) (ended : List ToldTurn) (begun : BegunTurn) (kept : List Kept) (candidates : List Candidate) (ends : List EntryEnd) (file : Option ℕ) (plan : Kept) →
    IsUnderWay run core (during ended begun) kept candidates ends → next.setting ≡ core.setting → plan.entry ≡ begun.turn.entry →
    IsInTurn next (events_of (during ended begun) ++ offers begun.turn (Some plan.cost) ∷ []) begun.turn (kept ++ plan ∷ []) →
    IsPlanOf run.parts plan.ops plan.cost → is_below (bound_of run.setting (events_of (during ended begun))) plan.cost ≡ true →
    IsUnderWay run next (during ended (offered_more begun (good_offer file plan.ops plan.cost))) (kept ++ plan ∷ [])
    (candidates ++ candidate_of begun.turn (length kept) (good_offer file plan.ops plan.cost) ∷ []) ends
offers_more run core next ended begun kept candidates ends file plan going same by turn is below =
    let offer = good_offer file plan.ops plan.cost in
    let turns = map begun_of ended in
    let events = events_offered ended begun file plan in
    let set = same ∙ going.setting in
    let own : record { entry = begun.turn.entry; ops = plan.ops; cost = plan.cost } ≡ plan = ap (λ (entry : ℕ). record { entry = entry; ops = plan.ops; cost = plan.cost }) (sym by) in
    record {
      setting = set;
      stands = subst (StandsFor next) (sym events) turn.stands;
      lists = record {
        plans_are =
            ap (λ ks. ks ++ plan ∷ []) going.lists.plans_are
            ∙ (ap (λ (p : Kept). plans_of (turns ++ begun ∷ []) ++ p ∷ []) (sym own) ∙ sym (plans-offered turns begun offer));
        candidates_are =
            ap (λ cs. cs ++ candidate_of begun.turn (length kept) offer ∷ []) going.lists.candidates_are
            ∙ (ap (λ (ks : List Kept). candidates_of 0 (turns ++ begun ∷ []) ++ candidate_of begun.turn (length ks) offer ∷ []) going.lists.plans_are
            ∙ sym (candidates-offered turns begun offer));
        ends_are = going.lists.ends_are;
      };
      costs = ap (kept_costs run.setting) events ∙ subst (λ (s : Setting). kept_costs s (events_of (during ended begun) ++ offers begun.turn (Some plan.cost) ∷ []) ≡ costs_of (kept ++ plan ∷ [])) set turn.costs;
      order = order_same run.setting turns begun (offered_more begun offer) refl going.order;
      ended = going.ended;
      plans = more_plan run.parts run.setting.bound kept plan going.plans is (subst (λ (costs : List ℕ). is_below (last_or run.setting.bound costs) plan.cost ≡ true) going.costs below);
    }

pub comes_to_end : (run : Run) (core next : CoreState) (ended : List ToldTurn) (turn : ToldTurn) (kept : List Kept) (candidates : List Candidate) (ends : List EntryEnd) →
    IsUnderWay run core (during ended (begun_of turn)) kept candidates ends → next.setting ≡ core.setting →
    StandsFor next (events_of (during ended (begun_of turn)) ++ end_of turn.end ∷ []) → EndsAs run (turns_events ended) turn →
    IsUnderWay run next (between (ended ++ turn ∷ [])) kept candidates (ends ++ turn.end ∷ [])
comes_to_end run core next ended turn kept candidates ends going same stands by =
    let events = events_ended ended turn in
    let all = sym (all_ended ended turn) in
    record {
      setting = same ∙ going.setting;
      stands = subst (StandsFor next) (sym events) stands;
      lists = record {
        plans_are = going.lists.plans_are ∙ ap plans_of all;
        candidates_are = going.lists.candidates_are ∙ ap (candidates_of 0) all;
        ends_are = ap (λ es. es ++ turn.end ∷ []) going.lists.ends_are ∙ sym (map-append (λ (t : ToldTurn). t.end) ended (turn ∷ []));
      };
      costs = kept_other run.setting (events_of (during ended (begun_of turn))) (events_of (between (ended ++ turn ∷ []))) (end_of turn.end) kept events
          (kept_costs-push_other run.setting (events_of (during ended (begun_of turn))) (end_of turn.end) refl) going.costs;
      order = subst (AreInOrder run.setting) all going.order;
      ended = each-push (EndsAs run) [] ended turn going.ended by;
      plans = going.plans;
    }
