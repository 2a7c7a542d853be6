-- What one more candidate makes of a core in its turn.
use Rattle.std.proofs.Common.{◌≡◌, ℕ, ◌<◌, ◌≤◌, Bool, true, false, List, [], ◌∷◌, ◌++◌, length, map, Option, Some, None, refl, sym, ap, ◌∙◌, arith}
use Rattle.std.proofs.lemmas.Bool.{cond-true, cond-false}
use Rattle.std.proofs.lemmas.List.{map-append, append-nil, length-map}
use Rattle.sas_task.specs.declared.plans.Kept.{Kept}
use Rattle.driver_core.specs.declared.events.Event.{Event}
use Rattle.driver_core.specs.declared.settings.Setting.{Setting}
use Rattle.driver_core.specs.Settings.{most_plans}
use Rattle.driver_core.specs.Keeping.{kept_costs, is_kept}
use Rattle.lama_num.specs.Bounds.{is_below}
use Rattle.driver_core.specs.Legal.{IsAllowed}
use Rattle.driver_core.proofs.OneMoreEvent.{kept_costs-push_plan, kept_costs-push_other, kept_costs-few, IsOn-offer}
use Rattle.driver_core.specs.Standing.{StandsFor}
use Rattle.driver_core.specs.States.{CoreState}
use Rattle.driver_core.specs.Turns.{Turn, offers}
use Rattle.candidates.specs.Collecting.{IsInTurn, KeepsBelow}
use Rattle.candidates.proofs.CandidateLists.{AreFew}

-- the core is told of a candidate, and the kept plans are then these
abbrev pub Stands : CoreState → CoreState → List Event → Event → Type 0
Stands before now events event = StandsFor before events → IsAllowed before.setting events event → StandsFor now (events ++ event ∷ [])

offered : (before now : CoreState) (events : List Event) (turn : Turn) (kept more : List Kept) (bound cost : Option ℕ) → now.setting ≡ before.setting → Stands before now events (offers turn cost)
    → IsInTurn before events turn kept → KeepsBelow before.setting events bound → kept_costs before.setting (events ++ offers turn cost ∷ []) ≡ map (λ (plan : Kept). plan.cost) more
    → IsInTurn now (events ++ offers turn cost ∷ []) turn more
offered before now events turn kept more bound cost same stands is keeps costs = record {
  stands = stands is.stands (record { on = is.on; going = keeps.going });
  on = IsOn-offer events turn turn cost is.on;
  costs = ap (λ setting. kept_costs setting (events ++ offers turn cost ∷ [])) same ∙ costs;
}

one_more : (setting : Setting) (events : List Event) (turn : Turn) (kept : List Kept) (plan : Kept) (bound : Option ℕ) → kept_costs setting events ≡ map (λ (plan : Kept). plan.cost) kept
    → KeepsBelow setting events bound → is_below bound plan.cost ≡ true → kept_costs setting (events ++ offers turn (Some plan.cost) ∷ []) ≡ map (λ (plan : Kept). plan.cost) (kept ++ plan ∷ [])
one_more setting events turn kept plan bound costs keeps below =
    kept_costs-push_plan setting events turn plan.cost
    ∙ ap (λ end. kept_costs setting events ++ end) (cond-true (is_kept setting events plan.cost) (plan.cost ∷ []) [] (keeps.keeps plan.cost ∙ below))
    ∙ ap (λ front. front ++ plan.cost ∷ []) costs
    ∙ sym (map-append (λ (plan : Kept). plan.cost) kept (plan ∷ []))

-- a plan below the bound is kept
pub plan_kept : (before now : CoreState) (events : List Event) (turn : Turn) (kept : List Kept) (plan : Kept) (bound : Option ℕ) → now.setting ≡ before.setting → Stands before now events (offers turn (Some plan.cost))
    → IsInTurn before events turn kept → KeepsBelow before.setting events bound → is_below bound plan.cost ≡ true
    → IsInTurn now (events ++ offers turn (Some plan.cost) ∷ []) turn (kept ++ plan ∷ [])
plan_kept before now events turn kept plan bound same stands is keeps below =
    offered before now events turn kept (kept ++ plan ∷ []) bound (Some plan.cost) same stands is keeps
    (one_more before.setting events turn kept plan bound is.costs keeps below)

none_more : (setting : Setting) (events : List Event) (turn : Turn) (bound cost : Option ℕ) → KeepsBelow setting events bound → ((c : ℕ) → cost ≡ Some c → is_below bound c ≡ false)
    → kept_costs setting (events ++ offers turn cost ∷ []) ≡ kept_costs setting events
none_more setting events turn bound None keeps above = kept_costs-push_other setting events (offers turn None) refl
none_more setting events turn bound (Some c) keeps above =
    kept_costs-push_plan setting events turn c
    ∙ ap (λ end. kept_costs setting events ++ end) (cond-false (is_kept setting events c) (c ∷ []) [] (keeps.keeps c ∙ above c refl))
    ∙ append-nil (kept_costs setting events)

-- any other is dropped
pub plan_dropped : (before now : CoreState) (events : List Event) (turn : Turn) (kept : List Kept) (bound cost : Option ℕ) → now.setting ≡ before.setting → Stands before now events (offers turn cost)
    → IsInTurn before events turn kept → KeepsBelow before.setting events bound → ((c : ℕ) → cost ≡ Some c → is_below bound c ≡ false)
    → IsInTurn now (events ++ offers turn cost ∷ []) turn kept
plan_dropped before now events turn kept bound cost same stands is keeps above =
    offered before now events turn kept kept bound cost same stands is keeps (none_more before.setting events turn bound cost keeps above ∙ is.costs)

-- how many plans there are

single_few : (single : Bool) → most_plans single ≤ 9999
single_few true = omega arith
single_few false = omega arith

single_one : (single : Bool) → single ≡ true → most_plans single ≤ 1
single_one true is = omega arith
single_one false is = cc

kept_count : (core : CoreState) (events : List Event) (turn : Turn) (kept : List Kept) → IsInTurn core events turn kept → length (kept_costs core.setting events) ≡ length kept
kept_count core events turn kept is = ap length is.costs ∙ length-map kept (λ (plan : Kept). plan.cost)

pub few_plans : (core : CoreState) (events : List Event) (turn : Turn) (kept : List Kept) (many : Bool) → (many ≡ false → core.setting.single ≡ true) → IsInTurn core events turn kept → AreFew many (length kept)
few_plans core events turn kept many single is =
    let most : length (kept_costs core.setting events) ≤ most_plans core.setting.single = kept_costs-few core.setting events in
    let count = kept_count core events turn kept is in
    record {
      small = omega (arith, single_few core.setting.single);
      single = λ one. omega (arith, single_one core.setting.single (single one));
    }

-- there is room for one more, and without many none is kept yet
pub room_for_one : (core : CoreState) (events : List Event) (turn : Turn) (kept : List Kept) (bound : Option ℕ) → IsInTurn core events turn kept → KeepsBelow core.setting events bound → length kept < 9999
room_for_one core events turn kept bound is keeps =
    let count = kept_count core events turn kept is in
    omega (arith, keeps.room, single_few core.setting.single)

pub none_yet : (core : CoreState) (events : List Event) (turn : Turn) (kept : List Kept) (bound : Option ℕ) → core.setting.single ≡ true → IsInTurn core events turn kept → KeepsBelow core.setting events bound → length kept ≡ 0
none_yet core events turn kept bound single is keeps =
    let count = kept_count core events turn kept is in
    omega (arith, keeps.room, single_one core.setting.single single)
