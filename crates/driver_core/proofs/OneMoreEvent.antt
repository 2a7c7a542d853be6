-- What one more event makes of what the definitions say of a list.
use Rattle.std.proofs.Common.{◌≡◌, ℕ, ◌<◌, ◌≤◌, Bool, true, false, ◌&&◌, ◌||◌, nat_lt, if◌then◌else◌, List, [], ◌∷◌, ◌++◌, length, take, Option, Some, None, zero, suc, refl, sym, ap, ◌∙◌, arith, inl, inr}
use Rattle.std.proofs.lemmas.Bool.{cases_Bool, and_parts, ltb-true, false≢true, cases_lt, lt-ltb, le-ltb, cond-true, cond-false}
use Rattle.std.proofs.lemmas.List.{append-nil, length-append, length-take, length-take-le, take_all, take-append-le}
use Rattle.std.proofs.lemmas.List.Elements.{filter_map-append}
use Rattle.std.proofs.lemmas.List.Folds.{list_any-append}
use Rattle.std.proofs.Math.Bool.{or-false}
use Rattle.std.specs.List.{list_any, list_all, filter}
use Rattle.driver_core.specs.declared.events.Event.{Event}
use Rattle.driver_core.specs.declared.events.Event.TheVariants.{Began, Candidate, Ended, OutOfTime}
use Rattle.driver_core.specs.declared.events.Action.{Action}
use Rattle.driver_core.specs.declared.events.Action.TheVariants.{Go, Keep, Drop, Stop}
use Rattle.driver_core.specs.declared.settings.Setting.{Setting}
use Rattle.driver_core.specs.Pasts.{filter_after, each_after}
use Rattle.driver_core.proofs.PastLaws.{filter_after-push, each_after-push, AllAfter-push, AllAfter-front, AllAfter-last}
use Rattle.driver_core.specs.Settings.{most_plans, entries}
use Rattle.driver_core.specs.Keeping.{cost_in, plan_costs, improves, improvements, kept_costs, is_kept}
use Rattle.driver_core.specs.Turns.{Turn, turn_of, offers, is_beginning_of, is_end_of, has_begun, has_ended, IsOn}
use Rattle.driver_core.specs.Rounds.{keeps_for, has_kept, is_ended}
use Rattle.driver_core.specs.Running.{is_over_after, stop_or, action_of, actions_of}
use Rattle.driver_core.specs.Legal.{IsAllowed, IsLegal}

list_any-push : {X : Type 0} (p : X → Bool) (xs : List X) (x : X) → list_any p (xs ++ x ∷ []) ≡ (list_any p xs || p x)
list_any-push p xs x = list_any-append p xs (x ∷ []) ∙ ap (λ b. list_any p xs || b) (or-false (p x))

-- The first elements of a list that grows.
take-push : {X : Type 0} (m : ℕ) (xs : List X) (x : X) → take m (xs ++ x ∷ []) ≡ take m xs ++ (if nat_lt (length (take m xs)) m then x ∷ [] else [])
take-push m xs x =
    elim (cases_lt (length xs) m) [
      | inl fits ↦
          let whole = take_all m xs (omega arith) in
          let test : nat_lt (length (take m xs)) m ≡ true = ap (λ front. nat_lt (length front) m) whole ∙ lt-ltb (length xs) m fits in
          take_all m (xs ++ x ∷ []) (omega (arith, length-append xs (x ∷ [])))
          ∙ ap (λ front. front ++ x ∷ []) (sym whole)
          ∙ ap (λ end. take m xs ++ end) (sym (cond-true _ (x ∷ []) [] test))
      | inr full ↦
          let count = length-take-le m xs full in
          let test : nat_lt (length (take m xs)) m ≡ false = le-ltb (length (take m xs)) m (omega arith) in
          take-append-le m xs (x ∷ []) full
          ∙ sym (append-nil (take m xs))
          ∙ ap (λ end. take m xs ++ end) (sym (cond-false _ (x ∷ []) [] test))
    ]

take-push_where : {X : Type 0} (b : Bool) (m : ℕ) (xs : List X) (x : X) → take m (xs ++ (if b then x ∷ [] else [])) ≡ take m xs ++ (if b && nat_lt (length (take m xs)) m then x ∷ [] else [])
take-push_where true m xs x = take-push m xs x
take-push_where false m xs x = ap (take m) (append-nil xs) ∙ sym (append-nil (take m xs))

-- A candidate that is a plan is the last kept one, or the kept ones stay.
pub kept_costs-push_plan : (setting : Setting) (past : List Event) (turn : Turn) (cost : ℕ) → kept_costs setting (past ++ offers turn (Some cost) ∷ []) ≡ kept_costs setting past ++ (if is_kept setting past cost then cost ∷ [] else [])
kept_costs-push_plan setting past turn cost =
    let costs = filter_map-append cost_in past (offers turn (Some cost) ∷ []) in
    let test = improves setting.bound in
    ap (λ all. take (most_plans setting.single) (filter_after test [] all)) costs
    ∙ ap (take (most_plans setting.single)) (filter_after-push test [] (plan_costs past) cost)
    ∙ take-push_where (test (plan_costs past) cost) (most_plans setting.single) (improvements setting past) cost

-- An event that is no plan leaves the plans as they are.
pub plan_costs-push_other : (past : List Event) (event : Event) → cost_in event ≡ None → plan_costs (past ++ event ∷ []) ≡ plan_costs past
plan_costs-push_other past event none =
    filter_map-append cost_in past (event ∷ []) ∙ (rw none (append-nil (plan_costs past)))

pub kept_costs-push_other : (setting : Setting) (past : List Event) (event : Event) → cost_in event ≡ None → kept_costs setting (past ++ event ∷ []) ≡ kept_costs setting past
kept_costs-push_other setting past event none =
    ap (λ all. take (most_plans setting.single) (filter_after (improves setting.bound) [] all)) (plan_costs-push_other past event none)

pub has_begun-push : (past : List Event) (event : Event) (turn : Turn) → has_begun (past ++ event ∷ []) turn ≡ (has_begun past turn || is_beginning_of turn event)
has_begun-push past event turn = list_any-push (is_beginning_of turn) past event

pub has_ended-push : (past : List Event) (event : Event) (turn : Turn) → has_ended (past ++ event ∷ []) turn ≡ (has_ended past turn || is_end_of turn event)
has_ended-push past event turn = list_any-push (is_end_of turn) past event

pub has_kept-push : (setting : Setting) (past : List Event) (event : Event) (turn : Turn) → has_kept setting (past ++ event ∷ []) turn ≡ (has_kept setting past turn || keeps_for setting turn past event)
has_kept-push setting past event turn =
    ap (list_any (λ keeps. keeps)) (each_after-push (keeps_for setting turn) [] past event)
    ∙ list_any-push (λ keeps. keeps) (each_after (keeps_for setting turn) [] past) (keeps_for setting turn past event)

-- A turn that is on is so after a candidate.
pub IsOn-offer : (past : List Event) (turn other : Turn) (cost : Option ℕ) → IsOn past turn → IsOn (past ++ offers other cost ∷ []) turn
IsOn-offer past turn other cost on = record {
  begun = has_begun-push past (offers other cost) turn ∙ or-false (has_begun past turn) ∙ on.begun;
  unended = has_ended-push past (offers other cost) turn ∙ or-false (has_ended past turn) ∙ on.unended;
}

no_entries : (p : ℕ → Bool) (xs : List ℕ) → list_all p (filter (λ _. false) xs) ≡ true
no_entries p [] = refl
no_entries p (x ∷ xs) = no_entries p xs

-- No round stands before the first.
pub none_before_first : (setting : Setting) (past : List Event) (round : ℕ) → round < 1 → is_ended setting past round ≡ true
none_before_first setting past zero before = no_entries (λ entry. has_ended past (turn_of zero entry)) (entries setting)
none_before_first setting past (suc round) before = absurd (omega arith)

pub actions_of-push : (setting : Setting) (past : List Event) (event : Event) → actions_of setting (past ++ event ∷ []) ≡ actions_of setting past ++ action_of setting past event ∷ []
actions_of-push setting past event = each_after-push (action_of setting) [] past event

-- A list is legal where its front is and the last event is allowed after that.
pub IsLegal-push : (setting : Setting) (past : List Event) (event : Event) → IsLegal setting past → IsAllowed setting past event → IsLegal setting (past ++ event ∷ [])
IsLegal-push setting past event legal allowed = AllAfter-push (IsAllowed setting) [] past event legal allowed

pub IsLegal-front : (setting : Setting) (past : List Event) (event : Event) → IsLegal setting (past ++ event ∷ []) → IsLegal setting past
IsLegal-front setting past event legal = AllAfter-front (IsAllowed setting) [] past event legal

pub IsLegal-last : (setting : Setting) (past : List Event) (event : Event) → IsLegal setting (past ++ event ∷ []) → IsAllowed setting past event
IsLegal-last setting past event legal = AllAfter-last (IsAllowed setting) [] past event legal

abbrev pub is_keep : Action → Bool
is_keep Go = false
is_keep (Keep index) = true
is_keep Drop = false
is_keep Stop = false

-- The answer Keep says that a candidate is kept, and at which place.
pub record Keeps (setting : Setting) (past : List Event) (event : Event) (index : ℕ) : Type 0 where
  pub cost : ℕ
  pub plan : cost_in event ≡ Some cost
  pub place : index ≡ length (kept_costs setting past)
  pub few : index < most_plans setting.single
  pub grown : kept_costs setting (past ++ event ∷ []) ≡ kept_costs setting past ++ cost ∷ []

is_keep-stop_or : (other : Action) (over : Bool) → is_keep other ≡ false → is_keep (stop_or other over) ≡ false
is_keep-stop_or other true plain = refl
is_keep-stop_or other false plain = plain

keep_is : (answer other : Action) (index : ℕ) → answer ≡ Keep index → answer ≡ other → is_keep other ≡ false → ⊥
keep_is answer other index keeps is plain = let k : true ≡ false = ap is_keep (sym keeps ∙ is) ∙ plain in false≢true (sym k)

pub action-keeps : (setting : Setting) (past : List Event) (event : Event) (index : ℕ) → action_of setting past event ≡ Keep index → Keeps setting past event index
action-keeps setting past (Began round entry moment) index keeps = absurd (keep_is _ _ index keeps refl (is_keep-stop_or Go (is_over_after setting past) refl))
action-keeps setting past (Candidate round entry None) index keeps = absurd (keep_is _ _ index keeps refl (is_keep-stop_or Drop (is_over_after setting past) refl))
action-keeps setting past (Candidate round entry (Some cost)) index keeps =
    let kept = kept_costs setting past in
    let over = is_over_after setting past in
    elim (cases_Bool (is_kept setting past cost)) [
      | inl takes ↦
          let answer : Keep (length kept) ≡ Keep index = sym (cond-true _ (Keep (length kept)) (stop_or Drop over) takes) ∙ keeps in
          let place : length kept ≡ index = cc in
          let few = ltb-true (length kept) (most_plans setting.single) (and_parts (improves setting.bound (plan_costs past) cost) _ takes).1 in
          record {
            cost = cost;
            plan = refl;
            place = sym place;
            few = omega arith;
            grown = kept_costs-push_plan setting past (turn_of round entry) cost ∙ ap (λ end. kept ++ end) (cond-true _ (cost ∷ []) [] takes);
          }
      | inr drops ↦
          absurd (keep_is _ _ index keeps (cond-false _ (Keep (length kept)) (stop_or Drop over) drops) (is_keep-stop_or Drop over refl))
    ]
action-keeps setting past (Ended round entry part last) index keeps = absurd (keep_is _ _ index keeps refl (is_keep-stop_or Go (is_over_after setting (past ++ Ended round entry part last ∷ [])) refl))
action-keeps setting past (OutOfTime moment) index keeps = absurd (keep_is _ _ index keeps refl refl)

-- Any other answer says that the kept ones stay.
pub kept_costs-push_unkept : (setting : Setting) (past : List Event) (event : Event) → is_keep (action_of setting past event) ≡ false → kept_costs setting (past ++ event ∷ []) ≡ kept_costs setting past
kept_costs-push_unkept setting past (Began round entry moment) plain = kept_costs-push_other setting past (Began round entry moment) refl
kept_costs-push_unkept setting past (Candidate round entry None) plain = kept_costs-push_other setting past (Candidate round entry None) refl
kept_costs-push_unkept setting past (Candidate round entry (Some cost)) plain =
    let kept = kept_costs setting past in
    elim (cases_Bool (is_kept setting past cost)) [
      | inl takes ↦ absurd (false≢true (sym plain ∙ ap is_keep (cond-true _ (Keep (length kept)) (stop_or Drop (is_over_after setting past)) takes)))
      | inr drops ↦ kept_costs-push_plan setting past (turn_of round entry) cost ∙ ap (λ end. kept ++ end) (cond-false _ (cost ∷ []) [] drops) ∙ append-nil kept
    ]
kept_costs-push_unkept setting past (Ended round entry part last) plain = kept_costs-push_other setting past (Ended round entry part last) refl
kept_costs-push_unkept setting past (OutOfTime moment) plain = kept_costs-push_other setting past (OutOfTime moment) refl

-- A run keeps at most as many plans as it may.
pub kept_costs-few : (setting : Setting) (events : List Event) → length (kept_costs setting events) ≤ most_plans setting.single
kept_costs-few setting events = omega (arith, length-take (most_plans setting.single) (improvements setting events))
