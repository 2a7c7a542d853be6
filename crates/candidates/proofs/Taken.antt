-- What is taken in of a turn's candidates: none, one, and one after the other.
use Rattle.std.specs.Prelude.{OnOk, OnErr, is_err}
use Rattle.std.proofs.Common.{◌≡◌, ◌≢◌, ℕ, ◌+◌, ◌-◌, Bool, true, false, List, [], ◌∷◌, ◌++◌, length, map, Option, Some, None, Result, Ok, Err, refl, sym, ap, ◌∙◌, subst, arith, inl, inr, append_assoc, append-nil, length-append}
use Rattle.std.proofs.lemmas.Bool.{cases_lt}
use Rattle.std.proofs.lemmas.List.{map-append}
use Rattle.lama_host.specs.Folder.{Told, Files, Changes, IsUntouched, last_of}
use Rattle.lama_host.proofs.StepLaws.{changes_none, changes_then, changes_weaker, changes_untouched}
use Rattle.lama_num.proofs.ListLaws.{slice_get-append_front}
use Rattle.sas_task.specs.declared.contents.Parts.{Parts}
use Rattle.sas_task.specs.declared.plans.Kept.{Kept}
use Rattle.sas_task.specs.Runs.{IsPlanOf}
use Rattle.plan_check.specs.declared.verdicts.PlanFault.{PlanFault}
use Rattle.plan_check.specs.declared.verdicts.Verdict.{Verdict}
use Rattle.plan_check.specs.declared.verdicts.Verdict.TheVariants.{Good, Bad}
use Rattle.plan_text.specs.PlanText.{plan_text}
use Rattle.plan_manager.specs.Keeping.{PlacesPlan}
use Rattle.driver_core.specs.declared.events.Event.{Event}
use Rattle.driver_core.specs.Keeping.{bound_of}
use Rattle.lama_num.specs.Bounds.{is_below}
use Rattle.driver_core.specs.Turns.{Turn, offers}
use Rattle.candidates.specs.declared.offers.Found.TheVariants.{Kept as IsKept, Dropped}
use Rattle.candidates.specs.declared.reading.ReadError.{ReadError}
use Rattle.candidates.specs.declared.reading.ReadError.TheVariants.{Failed, NoMemory}
use Rattle.candidates.specs.Collecting.{IsInTurn, Standing, TakesIn, finished}
use Rattle.candidates.specs.Judging.{Judged, judged_as, real_cost, offer_of, plans_of, candidates_of}
use Rattle.candidates.proofs.CandidateLists.{plans_of-append, candidates_of-none, candidates_of-one, candidates_of-append, only_one, slice_get-behind, kept_then}
use Rattle.candidates.specs.Plans.{ArePlans, PlacesLast, PlacesKept}

-- nothing

no_plans : (parts : Parts) → ArePlans parts []
no_plans parts k plan is = let none : ◌≡◌ {A = Option Kept} None (Some plan) = is in cc

no_last : {T : Type 0} (result : Result T ReadError) (base : List ℕ) (many : Bool) (parts : Parts) (number : ℕ) (bound : Option ℕ) (files : Files) → PlacesLast result base many parts number bound files []
no_last (Ok x) base many parts number bound files = refl
no_last (Err NoMemory) base many parts number bound files = refl
no_last (Err Failed) base many parts number bound files = inl refl

pub takes_none : {T : Type 0} (result : Result T ReadError) (parts : Parts) (base : List ℕ) (many : Bool) (turn : Turn) (events : List Event) (a b : Standing) → IsUntouched a.told b.told → b.kept ≡ a.kept → b.candidates ≡ a.candidates
    → (result ≢ Err Failed → IsInTurn b.core events turn b.kept) → TakesIn result parts base many turn events a b []
takes_none result parts base many turn events a b same kept candidates core = record {
  kept = kept ∙ sym (append-nil a.kept);
  plans = no_plans parts;
  candidates = candidates ∙ sym (append-nil a.candidates) ∙ ap (λ more. a.candidates ++ more) (sym (candidates_of-none turn (length a.kept)));
  core = λ fine. subst (λ past. IsInTurn b.core past turn b.kept) (sym (append-nil events)) (core fine);
  folder = changes_untouched a.told b.told _ same (λ files. ([], [], refl, refl, no_last result base many parts _ _ files));
}

-- one after the other

plans_then : (parts : Parts) (first second : List Kept) → ArePlans parts first → ArePlans parts second → ArePlans parts (first ++ second)
plans_then parts first second one two k plan there = elim (cases_lt k (length first)) [
  | inl front ↦ one k plan (sym (slice_get-append_front first second k front) ∙ there)
  | inr behind ↦ two (k - length first) plan (sym (slice_get-behind first second k behind) ∙ there)
]

pub events_then : (turn : Turn) (events : List Event) (first second : List Judged) → (events ++ map (offer_of turn) first) ++ map (offer_of turn) second ≡ events ++ map (offer_of turn) (first ++ second)
events_then turn events first second =
    append_assoc events (map (offer_of turn) first) (map (offer_of turn) second)
    ∙ ap (λ more. events ++ more) (sym (map-append (offer_of turn) first second))

pub takes_then : {T : Type 0} (result : Result T ReadError) (parts : Parts) (base : List ℕ) (many : Bool) (turn : Turn) (events : List Event) (a b c : Standing) (first second : List Judged) → b.told.busy ≡ a.told.busy → b.core.setting ≡ a.core.setting
    → TakesIn {T = Unit {0}} (Ok tt) parts base many turn events a b first → TakesIn result parts base many turn (events ++ map (offer_of turn) first) b c second → TakesIn result parts base many turn events a c (first ++ second)
takes_then result parts base many turn events a b c first second busy setting one two =
    let split = plans_of-append turn first second in
    let count : length b.kept ≡ length a.kept + length (plans_of turn first) = ap length one.kept ∙ length-append a.kept (plans_of turn first) in
    let past = events_then turn events first second in
    let bound : bound_of b.core.setting ((events ++ map (offer_of turn) first) ++ map (offer_of turn) second) ≡ bound_of a.core.setting (events ++ map (offer_of turn) (first ++ second)) =
    ap (λ s. bound_of s ((events ++ map (offer_of turn) first) ++ map (offer_of turn) second)) setting ∙ ap (bound_of a.core.setting) past in
    record {
      kept = two.kept ∙ ap (λ front. front ++ plans_of turn second) one.kept ∙ append_assoc a.kept (plans_of turn first) (plans_of turn second) ∙ ap (λ more. a.kept ++ more) (sym split);
      plans = subst (ArePlans parts) (sym split) (plans_then parts (plans_of turn first) (plans_of turn second) one.plans two.plans);
      candidates =
          two.candidates ∙ ap (λ front. front ++ candidates_of turn (length b.kept) second) one.candidates
          ∙ ap (λ n. (a.candidates ++ candidates_of turn (length a.kept) first) ++ candidates_of turn n second) count
          ∙ append_assoc a.candidates (candidates_of turn (length a.kept) first) (candidates_of turn (length a.kept + length (plans_of turn first)) second)
          ∙ ap (λ more. a.candidates ++ more) (sym (candidates_of-append turn (length a.kept) first second));
      core = λ fine. subst (λ past. IsInTurn c.core past turn c.kept) past (two.core fine);
      folder = changes_then a.told b.told c.told _ _ _ busy one.folder two.folder
          (λ files steps more left right.
          subst (λ plans. PlacesKept result base many parts (length a.kept) plans (bound_of a.core.setting (events ++ map (offer_of turn) (first ++ second))) files (steps ++ more)) (sym split)
          (kept_then result base many parts (length a.kept) (plans_of turn first) (plans_of turn second) (bound_of a.core.setting (events ++ map (offer_of turn) (first ++ second))) (bound_of a.core.setting (events ++ map (offer_of turn) first)) files steps more left
          (subst (λ n. PlacesKept result base many parts n (plans_of turn second) (bound_of a.core.setting (events ++ map (offer_of turn) (first ++ second))) (last_of files steps) more) count
          (subst (λ o. PlacesKept result base many parts (length b.kept) (plans_of turn second) o (last_of files steps) more) bound right))));
    }

-- nothing was touched after it
changes_then_untouched : (a b c : Told) (P : Files → List Files → Type 0) → Changes a b P → IsUntouched b c → Changes a c P
changes_then_untouched a b c P first same files idle held =
    let one = first files idle held in
    (one.0, one.1, record { content = ap (λ t. t.content) same ∙ one.2.content; moments = λ past is. ap (λ t. t.moments) same ∙ one.2.moments past is })

pub takes_untouched : {T : Type 0} (result : Result T ReadError) (parts : Parts) (base : List ℕ) (many : Bool) (turn : Turn) (events : List Event) (a b : Standing) (told : Told) (judged : List Judged) → IsUntouched b.told told
    → TakesIn result parts base many turn events a b judged → TakesIn result parts base many turn events a (record b { told = told }) judged
takes_untouched result parts base many turn events a b told judged same takes = record {
  kept = takes.kept;
  plans = takes.plans;
  candidates = takes.candidates;
  core = takes.core;
  folder = changes_then_untouched a.told b.told told _ takes.folder same;
}

-- one candidate

untouched_same : (a b : Told) → b ≡ a → IsUntouched a b
untouched_same a b same = subst (λ t. IsUntouched a t) (sym same) refl

one_plan : (parts : Parts) (plan : Kept) → IsPlanOf parts plan.ops plan.cost → ArePlans parts (plan ∷ [])
one_plan parts plan is k other at = subst (λ (p : Kept). IsPlanOf parts p.ops p.cost) (sym (only_one plan other k at).1) is

-- a plan that was to be kept
takes_good : (result : Result (Unit {0}) ReadError) (parts : Parts) (base : List ℕ) (many : Bool) (turn : Turn) (events : List Event) (a b : Standing) (number cost : ℕ) (ops : List ℕ) (bound : Option ℕ)
    → IsPlanOf parts ops cost → bound ≡ bound_of a.core.setting events → is_below bound cost ≡ true → IsInTurn a.core events turn a.kept
    → OnErr result ((b.kept ≡ a.kept) × (b.candidates ≡ a.candidates))
    → (result ≡ Err NoMemory → (b.core ≡ a.core) × (b.told ≡ a.told))
    → OnOk result (b.kept ≡ a.kept ++ record { entry = turn.entry; ops = ops; cost = cost } ∷ [])
    → OnOk result (b.candidates ≡ a.candidates ++ record { round = turn.round; entry = turn.entry; file = Some number; found = IsKept (length a.kept) } ∷ [])
    → OnOk result (IsInTurn b.core (events ++ offers turn (Some cost) ∷ []) turn b.kept)
    → Changes a.told b.told (PlacesPlan result base many (length a.kept + 1) (plan_text parts ops))
    → TakesIn result parts base many turn events a b (finished result number (Good ops cost))
takes_good (Ok x) parts base many turn events a b number cost ops bound is present below in_turn same memory kept candidates core folder = record {
  kept = kept;
  plans = one_plan parts (record { entry = turn.entry; ops = ops; cost = cost }) is;
  candidates = candidates ∙ ap (λ more. a.candidates ++ more) (sym (candidates_of-one turn (length a.kept) (judged_as number (Good ops cost))));
  core = λ fine. core;
  folder = changes_weaker a.told b.told _ _ (λ files steps places. (steps, [], sym (append-nil steps), (steps, [], sym (append-nil steps), places, refl), refl)) folder;
}
takes_good (Err NoMemory) parts base many turn events a b number cost ops bound is present below in_turn same memory kept candidates core folder =
    takes_none {T = Unit {0}} (Err NoMemory) parts base many turn events a b (untouched_same a.told b.told (memory refl).1) same.0 same.1
    (λ fine. subst (λ k. IsInTurn b.core events turn k) (sym same.0) (subst (λ core. IsInTurn core events turn a.kept) (sym (memory refl).0) in_turn))
takes_good (Err Failed) parts base many turn events a b number cost ops bound is present below in_turn same memory kept candidates core folder =
    let here : bound ≡ bound_of a.core.setting (events ++ []) = present ∙ ap (bound_of a.core.setting) (sym (append-nil events)) in
    let place : length a.kept + 1 ≡ length a.kept + 0 + 1 = omega arith in
    record {
      kept = same.0 ∙ sym (append-nil a.kept);
      plans = no_plans parts;
      candidates = same.1 ∙ sym (append-nil a.candidates) ∙ ap (λ more. a.candidates ++ more) (sym (candidates_of-none turn (length a.kept)));
      core = λ fine. absurd (fine refl);
      folder = changes_weaker a.told b.told _ _ (λ files steps places. (
        [],
        steps,
        refl,
        refl,
        inr (
          record { entry = turn.entry; ops = ops; cost = cost },
          is,
          subst (λ o. is_below o cost ≡ true) here below,
          subst (λ n. PlacesPlan {T = Unit {0}} {E = ReadError} (Err Failed) base many n (plan_text parts ops) files steps) place places,
        ),
      )) folder;
    }

pub takes_kept : (result : Result (Unit {0}) ReadError) (parts : Parts) (base : List ℕ) (many : Bool) (turn : Turn) (events : List Event) (a b : Standing) (number cost : ℕ) (ops : List ℕ) (verdict : Verdict) (bound : Option ℕ)
    → verdict ≡ Good ops cost → IsPlanOf parts ops cost → bound ≡ bound_of a.core.setting events → is_below bound cost ≡ true → IsInTurn a.core events turn a.kept
    → OnErr result ((b.kept ≡ a.kept) × (b.candidates ≡ a.candidates))
    → (result ≡ Err NoMemory → (b.core ≡ a.core) × (b.told ≡ a.told))
    → OnOk result (b.kept ≡ a.kept ++ record { entry = turn.entry; ops = ops; cost = cost } ∷ [])
    → OnOk result (b.candidates ≡ a.candidates ++ record { round = turn.round; entry = turn.entry; file = Some number; found = IsKept (length a.kept) } ∷ [])
    → OnOk result (IsInTurn b.core (events ++ offers turn (Some cost) ∷ []) turn b.kept)
    → Changes a.told b.told (PlacesPlan result base many (length a.kept + 1) (plan_text parts ops))
    → TakesIn result parts base many turn events a b (finished result number verdict)
takes_kept result parts base many turn events a b number cost ops verdict bound good is present below in_turn same memory kept candidates core folder =
    subst (λ v. TakesIn result parts base many turn events a b (finished result number v)) (sym good)
    (takes_good result parts base many turn events a b number cost ops bound is present below in_turn same memory kept candidates core folder)

-- any other
pub takes_dropped : (parts : Parts) (base : List ℕ) (many : Bool) (turn : Turn) (events : List Event) (a b : Standing) (number : ℕ) (fault : PlanFault) (verdict : Verdict)
    → verdict ≡ Bad fault → b.told ≡ a.told → b.kept ≡ a.kept
    → b.candidates ≡ a.candidates ++ record { round = turn.round; entry = turn.entry; file = Some number; found = Dropped fault } ∷ []
    → IsInTurn b.core (events ++ offers turn (real_cost fault) ∷ []) turn b.kept
    → TakesIn {T = Unit {0}} (Ok tt) parts base many turn events a b (judged_as number verdict ∷ [])
takes_dropped parts base many turn events a b number fault verdict bad told kept candidates core =
    subst (λ v. TakesIn {T = Unit {0}} (Ok tt) parts base many turn events a b (judged_as number v ∷ [])) (sym bad) (record {
      kept = kept ∙ sym (append-nil a.kept);
      plans = no_plans parts;
      candidates = candidates ∙ ap (λ more. a.candidates ++ more) (sym (candidates_of-one turn (length a.kept) (judged_as number (Bad fault))));
      core = λ fine. core;
      folder = changes_untouched a.told b.told _ (untouched_same a.told b.told told) (λ files. ([], [], refl, refl, refl));
    })

-- what a call that places a plan answered

pub places_nothing : (e : ReadError) (told : Told) (base : List ℕ) (many : Bool) (number : ℕ) (text : List ℕ) → Changes told told (PlacesPlan {T = Unit {0}} (Err e) base many number text)
places_nothing e told base many number text = changes_none told _ (λ files. ([], tt, tt, inl refl))

pub places_failed : {E : Type 0} (result : Result (Unit {0}) E) (e : ReadError) (a b : Told) (base : List ℕ) (many : Bool) (number : ℕ) (text : List ℕ) → is_err result ≡ true
    → Changes a b (PlacesPlan result base many number text) → Changes a b (PlacesPlan {T = Unit {0}} (Err e) base many number text)
places_failed (Ok x) e a b base many number text failed changes = let no : false ≡ true = failed in cc
places_failed (Err f) e a b base many number text failed changes = changes

pub places_ok : {E : Type 0} (result : Result (Unit {0}) E) (a b : Told) (base : List ℕ) (many : Bool) (number : ℕ) (text : List ℕ) → is_err result ≡ false
    → Changes a b (PlacesPlan result base many number text) → Changes a b (PlacesPlan {T = Unit {0}} {E = ReadError} (Ok tt) base many number text)
places_ok (Ok x) a b base many number text is changes = changes
places_ok (Err f) a b base many number text is changes = let no : true ≡ false = is in cc

pub on_ok_so : {T E : Type 0} (result : Result T E) (P Q : Type 0) → OnOk result P → (P → Q) → OnOk result Q
on_ok_so (Ok x) P Q holds so = so holds
on_ok_so (Err e) P Q holds so = tt
