-- Sealing, call by call.
use Rattle.std.proofs.Common.{◌≡◌, ◌≢◌, ◌∙◌, sym, ap, refl, subst, ℕ, zero, suc, ◌+◌, ◌<◌, ◌≤◌, List, [], ◌∷◌, ◌++◌, length, Bool, true, false, if◌then◌else◌, Some, None, Result, Ok, Err, IsErr, ◌⊎◌, inl, inr, arith, ◌-◌, append-nil}
use Rattle.std.specs.Prelude.{slice_get, option_map}
use Rattle.std.specs.FinMap.{get, remove}
use Rattle.lama_host.proofs.FileLaws.{get-remove_same}
use Rattle.lama_host.specs.Folder.{Told, Files, WhereTold, Changes, Once, IsUntouched, last_of}
use Rattle.lama_num.specs.Names.{part_name}
use Rattle.sas_task.specs.declared.contents.Parts.{Parts}
use Rattle.sas_task.specs.declared.plans.Kept.{Kept}
use Rattle.plan_text.specs.PlanText.{plan_text}
use Rattle.plan_manager.specs.Clearing.{TakesBetween, ClearsBetween}
use Rattle.plan_manager.specs.Family.{family_name}
use Rattle.plan_manager.specs.Keeping.{IsDraft, IsPlacedLast, Places}
use Rattle.plan_manager.proofs.CallLaws.{drafts_beside, sealing_leaves}
use Rattle.plan_manager.proofs.FamilyLaws.{family≢part}
use Rattle.plan_manager.specs.Sealing.{plan_at, text_at, SealStep, Draft, Place, Take, TakePart, Seals, SealsBetween, Rewrites}
use Rattle.lama_host.proofs.StepLaws.{each-append, each-weaker, each_once, last_of-append, changes_none, changes_then, changes_weaker}
use Rattle.lama_host.specs.Steps.{Each}
use Rattle.plan_manager.proofs.RemovedNames.{nothing_ok}

-- a target that holds its text already
pub already : (E : Type 0) (a b : Told) (draft target text : List ℕ) → IsUntouched a b → WhereTold a (λ files. get files target ≡ Some text) → Changes a b (Rewrites {T = Unit {0}} {E = E} (Ok tt) draft target text)
already E a b draft target text same holds files idle held = (
  [],
  inl (refl, holds files idle held),
  record {
    content = ap (λ t. t.content) same ∙ held;
    moments = λ past is. ap (λ t. t.moments) same ∙ is ∙ ap Some (sym (append-nil past));
  },
)

-- or holds something else
pub replaced : {T E : Type 0} (a b c : Told) (result : Result T E) (draft target text : List ℕ) → IsUntouched a b → WhereTold a (λ files. get files target ≢ Some text) → Changes b c (Places result draft target text) → Changes a c (Rewrites result draft target text)
replaced a b c result draft target text same differs places files idle held =
    let second = places files (ap (λ t. t.busy) same ∙ idle) (ap (λ t. t.content) same ∙ held) in (
      second.0,
      inr (differs files idle held, second.1),
      record {
        content = second.2.content;
        moments = λ past is. second.2.moments past (ap (λ t. t.moments) same ∙ is);
      },
    )

-- the same under other names
pub rewrites_as : {T E : Type 0} (a b : Told) (result : Result T E) (draft target text part name : List ℕ) → draft ≡ part → target ≡ name → Changes a b (Rewrites result draft target text) → Changes a b (Rewrites result part name text)
rewrites_as a b result draft target text part name first second changes =
    subst (λ d. Changes a b (Rewrites result d name text)) first (subst (λ t. Changes a b (Rewrites result draft t text)) second changes)

-- steps of sealing, after which each name below a number is as it is to be
abbrev pub Stage : List ℕ → Bool → Parts → List Kept → ℕ → Files → List Files → Type 0
Stage base many task kept n files steps = Each (SealStep base many task kept) files steps × ((k : ℕ) → k < n → get (last_of files steps) (family_name base k) ≡ text_at many task kept k)

pub stage_none : (told : Told) (base : List ℕ) (many : Bool) (task : Parts) (kept : List Kept) → Changes told told (Stage base many task kept 0)
stage_none told base many task kept = changes_none told (Stage base many task kept 0) (λ files. (tt, λ k low. absurd (omega arith)))

below_or_not : (k n : ℕ) → (k < n) ⊎ (n ≤ k)
below_or_not k n = grind arith

-- a call after which more names are so
pub stage_more : {T E : Type 0} (first before now : Told) (result : Result T E) (x : T) (base : List ℕ) (many : Bool) (task : Parts) (kept : List Kept) (n m : ℕ) → result ≡ Ok x → n ≤ 10000 → before.busy ≡ first.busy →
    Changes first before (Stage base many task kept n) → Changes before now (SealsBetween result base many task kept n m) → Changes first now (Stage base many task kept m)
stage_more first before now result x base many task kept n m ok high busy so_far changes =
    changes_then first before now (Stage base many task kept n) (SealsBetween result base many task kept n m) (Stage base many task kept m) busy so_far changes
    (λ files steps more past step. (
      each-append (SealStep base many task kept) files steps more past.0 step.0,
      λ k low. rw (last_of-append files steps more) (elim (below_or_not k n) [
        | inl below ↦ elim ((sealing_leaves base many task kept (last_of files steps) more step.0).family k (omega arith)) [
          | inl same ↦ same ∙ past.1 k below
          | inr text ↦ text
        ]
        | inr above ↦ (rw ok at step).1 k above low
      ]),
    ))

-- or it failed
pub stage_failed : {T E U V : Type 0} (first before now : Told) (result : Result T E) (answer : Result U V) (base : List ℕ) (many : Bool) (task : Parts) (kept : List Kept) (n m from end : ℕ) → IsErr answer → before.busy ≡ first.busy →
    Changes first before (Stage base many task kept n) → Changes before now (SealsBetween result base many task kept n m) → Changes first now (SealsBetween answer base many task kept from end)
stage_failed first before now result answer base many task kept n m from end failed busy so_far changes =
    changes_then first before now (Stage base many task kept n) (SealsBetween result base many task kept n m) (SealsBetween answer base many task kept from end) busy so_far changes
    (λ files steps more past step. (each-append (SealStep base many task kept) files steps more past.0 step.0, nothing_ok answer _ failed))

-- the last call of that kind
last_by : {T E : Type 0} (result : Result T E) (base : List ℕ) (many : Bool) (task : Parts) (kept : List Kept) (n end : ℕ) (files : Files) (steps more : List Files) → n ≤ 10000 →
    Stage base many task kept n files steps → SealsBetween result base many task kept n end (last_of files steps) more → SealsBetween result base many task kept 0 end files (steps ++ more)
last_by (Err e) base many task kept n end files steps more high past step = (each-append (SealStep base many task kept) files steps more past.0 step.0, tt)
last_by (Ok x) base many task kept n end files steps more high past step = (
  each-append (SealStep base many task kept) files steps more past.0 step.0,
  λ k from low. rw (last_of-append files steps more) (elim (below_or_not k n) [
    | inl below ↦ elim ((sealing_leaves base many task kept (last_of files steps) more step.0).family k (omega arith)) [
      | inl same ↦ same ∙ past.1 k below
      | inr text ↦ text
    ]
    | inr above ↦ step.1 k above low
  ]),
)

pub stage_last : {T E : Type 0} (first before now : Told) (result : Result T E) (base : List ℕ) (many : Bool) (task : Parts) (kept : List Kept) (n end : ℕ) → n ≤ 10000 → before.busy ≡ first.busy →
    Changes first before (Stage base many task kept n) → Changes before now (SealsBetween result base many task kept n end) → Changes first now (SealsBetween result base many task kept 0 end)
stage_last first before now result base many task kept n end high busy so_far changes =
    changes_then first before now (Stage base many task kept n) (SealsBetween result base many task kept n end) (SealsBetween result base many task kept 0 end) busy so_far changes
    (λ files steps more past step. last_by result base many task kept n end files steps more high past step)

-- names without a plan are taken away
takes_seal : (base : List ℕ) (many : Bool) (task : Parts) (kept : List Kept) (from end : ℕ) → end ≤ 10000 → ((k : ℕ) → from ≤ k → k < end → plan_at many kept k ≡ None) → (a b : Files) → TakesBetween base from end a b → SealStep base many task kept a b
takes_seal base many task kept from end high none a b takes = Take takes.0 (omega (arith, takes.2)) (ap (option_map (λ plan. plan_text task plan.ops)) (none takes.0 takes.1 takes.2)) takes.3

taken_by : {T E : Type 0} (result : Result T E) (base : List ℕ) (many : Bool) (task : Parts) (kept : List Kept) (from end : ℕ) → end ≤ 10000 → ((k : ℕ) → from ≤ k → k < end → plan_at many kept k ≡ None) → (files : Files) (steps : List Files) →
    ClearsBetween result base from end files steps → SealsBetween result base many task kept from end files steps
taken_by (Ok x) base many task kept from end high none files steps clears = (
  each-weaker (TakesBetween base from end) (SealStep base many task kept) (takes_seal base many task kept from end high none) files steps clears.0,
  λ k low below. clears.1 k low below ∙ sym (ap (option_map (λ plan. plan_text task plan.ops)) (none k low below)),
)
taken_by (Err e) base many task kept from end high none files steps clears = (each-weaker (TakesBetween base from end) (SealStep base many task kept) (takes_seal base many task kept from end high none) files steps clears.0, tt)

pub taken_seals : {T E : Type 0} (a b : Told) (result : Result T E) (base : List ℕ) (many : Bool) (task : Parts) (kept : List Kept) (from end : ℕ) → end ≤ 10000 → ((k : ℕ) → from ≤ k → k < end → plan_at many kept k ≡ None) →
    Changes a b (ClearsBetween result base from end) → Changes a b (SealsBetween result base many task kept from end)
taken_seals a b result base many task kept from end high none = changes_weaker a b (ClearsBetween result base from end) (SealsBetween result base many task kept from end) (taken_by result base many task kept from end high none)

-- a plan's name holds its text
one_number : (n k : ℕ) → n ≤ k → k < n + 1 → n ≡ k
one_number n k low high = omega arith

drafts_seal : (base : List ℕ) (many : Bool) (task : Parts) (kept : List Kept) (n : ℕ) (text : List ℕ) (files : Files) (drafts : List Files) → text_at many task kept n ≡ Some text → Each (IsDraft (part_name base) text) files drafts → Each (SealStep base many task kept) files drafts
drafts_seal base many task kept n text files drafts is = each-weaker (IsDraft (part_name base) text) (SealStep base many task kept) (λ a b draft. Draft n text is draft) files drafts

placed_seals : (base : List ℕ) (many : Bool) (task : Parts) (kept : List Kept) (n : ℕ) (text : List ℕ) (files : Files) (drafts steps : List Files) → n ≤ 9999 → text_at many task kept n ≡ Some text → get files (family_name base n) ≢ Some text →
    Each (IsDraft (part_name base) text) files drafts → IsPlacedLast (part_name base) (family_name base n) text files drafts steps →
    Each (SealStep base many task kept) files steps × (get (last_of files steps) (family_name base n) ≡ Some text)
placed_seals base many task kept n text files drafts steps high is differs each last =
    let before = last_of files drafts in
    let still : get before (family_name base n) ≡ get files (family_name base n) = drafts_beside (part_name base) text files drafts each (family_name base n) (family≢part base n high) in (
      subst (Each (SealStep base many task kept) files) (sym last.1)
          (each-append (SealStep base many task kept) files drafts (last.0 ∷ []) (drafts_seal base many task kept n text files drafts is each) (Place n text high is (λ same. differs (sym still ∙ same)) last.2, tt)),
      ap (λ s. get (last_of files s) (family_name base n)) last.1 ∙ ap (λ fs. get fs (family_name base n)) (last_of-append files drafts (last.0 ∷ [])) ∙ last.2.holds,
    )

rewritten_by : {T E : Type 0} (result : Result T E) (base : List ℕ) (many : Bool) (task : Parts) (kept : List Kept) (n : ℕ) (text : List ℕ) → n ≤ 9999 → text_at many task kept n ≡ Some text → (files : Files) (steps : List Files) →
    Rewrites result (part_name base) (family_name base n) text files steps → SealsBetween result base many task kept n (n + 1) files steps
rewritten_by (Ok x) base many task kept n text high is files steps (inl none) = (
  subst (Each (SealStep base many task kept) files) (sym none.0) tt,
  λ k low below. subst (λ i. get (last_of files steps) (family_name base i) ≡ text_at many task kept i) (one_number n k low below) (ap (λ s. get (last_of files s) (family_name base n)) none.0 ∙ none.1 ∙ sym is),
)
rewritten_by (Err e) base many task kept n text high is files steps (inl none) = (subst (Each (SealStep base many task kept) files) (sym none.0) tt, tt)
rewritten_by (Ok x) base many task kept n text high is files steps (inr places) =
    let placed = placed_seals base many task kept n text files places.1.0 steps high is places.0 places.1.1 places.1.2 in
    (placed.0, λ k low below. subst (λ i. get (last_of files steps) (family_name base i) ≡ text_at many task kept i) (one_number n k low below) (placed.1 ∙ sym is))
rewritten_by (Err e) base many task kept n text high is files steps (inr places) = (
  elim places.1.3 [
    | inl none ↦ subst (Each (SealStep base many task kept) files) (sym none) (drafts_seal base many task kept n text files places.1.0 is places.1.1)
    | inr last ↦ (placed_seals base many task kept n text files places.1.0 steps high is places.0 places.1.1 last).0
  ],
  tt,
)

pub rewritten_seals : {T E : Type 0} (a b : Told) (result : Result T E) (base : List ℕ) (many : Bool) (task : Parts) (kept : List Kept) (n : ℕ) (text : List ℕ) → n ≤ 9999 → text_at many task kept n ≡ Some text →
    Changes a b (Rewrites result (part_name base) (family_name base n) text) → Changes a b (SealsBetween result base many task kept n (n + 1))
rewritten_seals a b result base many task kept n text high is = changes_weaker a b (Rewrites result (part_name base) (family_name base n) text) (SealsBetween result base many task kept n (n + 1)) (rewritten_by result base many task kept n text high is)

-- which number has which plan
beyond : (kept : List Kept) (i : ℕ) → length kept ≤ i → slice_get kept i ≡ None
beyond [] i high = refl
beyond (plan ∷ kept) zero high = absurd (omega arith)
beyond (plan ∷ kept) (suc i) high = beyond kept i (omega arith)

pub plan_of_first : (many : Bool) (kept : List Kept) (first i : ℕ) → first ≡ (if many then 1 else 0) → (many ≡ false → length kept ≤ 1) → plan_at many kept (first + i) ≡ slice_get kept i
unfolding plan_at
plan_of_first true kept first i is single = let e : first + i ≡ suc i = omega (arith, is) in ap (plan_at true kept) e
plan_of_first false kept first zero is single = let e : first + 0 ≡ 0 = omega (arith, is) in ap (plan_at false kept) e
plan_of_first false kept first (suc i) is single =
    let e : first + suc i ≡ suc i = omega (arith, is) in
    let few : length kept ≤ 1 = single refl in
    ap (plan_at false kept) e ∙ sym (beyond kept (suc i) (omega arith))

pub none_before : (many : Bool) (kept : List Kept) (first k : ℕ) → first ≡ (if many then 1 else 0) → k < first → plan_at many kept k ≡ None
unfolding plan_at
none_before true kept first zero is low = refl
none_before true kept first (suc k) is low = absurd (omega (arith, is))
none_before false kept first k is low = absurd (omega (arith, is))

pub none_after : (many : Bool) (kept : List Kept) (first k : ℕ) → first ≡ (if many then 1 else 0) → (many ≡ false → length kept ≤ 1) → first + length kept ≤ k → plan_at many kept k ≡ None
none_after many kept first k is single high =
    let i = k - first in
    let e : k ≡ first + i = omega arith in
    ap (plan_at many kept) e ∙ plan_of_first many kept first i is single ∙ beyond kept i (omega arith)

-- and at last base.part
part_by : {T E : Type 0} (result : Result T E) (base : List ℕ) (many : Bool) (task : Parts) (kept : List Kept) (files : Files) (steps more : List Files) →
    Each (SealStep base many task kept) files steps × ((k : ℕ) → 0 ≤ k → k < 10000 → get (last_of files steps) (family_name base k) ≡ text_at many task kept k) →
    Once result (λ fs. remove fs (part_name base)) (last_of files steps) more → Seals result base many task kept files (steps ++ more)
part_by (Err e) base many task kept files steps more past step = (
  each-append (SealStep base many task kept) files steps more past.0 (each_once {T = Unit {0}} (Err e) (SealStep base many task kept) (λ fs. remove fs (part_name base)) (last_of files steps) more (TakePart refl) step),
  tt,
)
part_by {T} {E} (Ok x) base many task kept files steps more past step =
    let each = each_once {E = E} (Ok x) (SealStep base many task kept) (λ fs. remove fs (part_name base)) (last_of files steps) more (TakePart refl) step in
    let last : last_of (last_of files steps) more ≡ remove (last_of files steps) (part_name base) = ap (last_of (last_of files steps)) step.0 in (
      each-append (SealStep base many task kept) files steps more past.0 each,
      rw (last_of-append files steps more) (record {
        plans = λ k high. elim ((sealing_leaves base many task kept (last_of files steps) more each).family k high) [
          | inl same ↦ same ∙ past.1 k (omega arith) (omega arith)
          | inr text ↦ text
        ];
        part = ap (λ fs. get fs (part_name base)) last ∙ get-remove_same (last_of files steps) (part_name base);
      }),
    )

pub sealed : {T E U V : Type 0} (first before now : Told) (one : Result T E) (x : T) (two : Result U V) (base : List ℕ) (many : Bool) (task : Parts) (kept : List Kept) → one ≡ Ok x → before.busy ≡ first.busy →
    Changes first before (SealsBetween one base many task kept 0 10000) → Changes before now (Once two (λ files. remove files (part_name base))) → Changes first now (Seals two base many task kept)
sealed first before now one x two base many task kept ok busy so_far changes =
    changes_then first before now (SealsBetween one base many task kept 0 10000) (Once two (λ files. remove files (part_name base))) (Seals two base many task kept) busy so_far changes
    (λ files steps more past step. part_by two base many task kept files steps more (rw ok at past) step)

pub sealing_failed : {T E U V : Type 0} (a b : Told) (one : Result T E) (answer : Result U V) (base : List ℕ) (many : Bool) (task : Parts) (kept : List Kept) → IsErr answer → Changes a b (SealsBetween one base many task kept 0 10000) → Changes a b (Seals answer base many task kept)
sealing_failed a b one answer base many task kept failed = changes_weaker a b (SealsBetween one base many task kept 0 10000) (Seals answer base many task kept) (λ files steps seals. (seals.0, nothing_ok answer _ failed))
