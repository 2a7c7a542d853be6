-- What the calls leave, by their steps.
use Rattle.std.specs.Prelude.{◌≡◌, ℕ, List, None, ◌⊎◌, ◌≢◌, Some, ◌≤◌, Bool, [], ◌∷◌, true, false, Option, Result, Ok, Err, nat_eq}
use Rattle.std.specs.FinMap.{get, remove, get-remove}
use Rattle.lama_host.specs.Folder.{Files, last_of}
use Rattle.plan_manager.proofs.FamilyLaws.{SameBeside, family_same, family≢part}
use Rattle.plan_manager.specs.Family.{SameOutside, family_name}
use Rattle.sas_task.specs.declared.contents.Parts.{Parts}
use Rattle.sas_task.specs.declared.plans.Kept.{Kept}
use Rattle.plan_manager.specs.Sealing.{text_at, SealStep, Draft, Place, Take, TakePart}
use Rattle.std.proofs.Common.{refl, ap, sym, ◌∙◌, subst, inl, inr, arith, cond}
use Rattle.std.proofs.lemmas.Bool.Decides.{nat_tests}
use Rattle.std.specs.Cmp.Lexicographic.{slice_cmp, nat_list_cmp_total}
use Rattle.std.specs.Ordering.{nat_cmp, eq_by_cmp}
use Rattle.lama_host.proofs.FileLaws.{get-remove_same, get-remove_other}
use Rattle.lama_host.proofs.StepLaws.{each-whole, last_of-append}
use Rattle.lama_host.specs.Steps.{Each}
use Rattle.lama_num.specs.Names.{part_name}
use Rattle.plan_manager.specs.Clearing.{TakesPlan, TakesOne, Clears, ClearsFamily}
use Rattle.plan_manager.specs.Keeping.{IsDraft, IsPlaced, IsPlacedLast, Places}

-- a name holds what it held, or is gone
abbrev pub IsHeldOrGone : Files → Files → List ℕ → Type 0
IsHeldOrGone before after name = (get after name ≡ get before name) ⊎ (get after name ≡ None)

-- What stands where a family was cleared, and where clearing it failed.
pub record LeftByClearingFamily (base : List ℕ) (before after : Files) : Type 0 where
  pub each : (name : List ℕ) → IsHeldOrGone before after name
  pub beside : SameBeside base before after

-- What stands where a family and base.part were cleared, and where clearing them failed.
pub record LeftByClearing (base : List ℕ) (before after : Files) : Type 0 where
  pub each : (name : List ℕ) → IsHeldOrGone before after name
  pub outside : SameOutside base before after

-- What stands after a text was to be placed: the target holds what it held or the whole text.
pub record LeftByPlacing (draft target text : List ℕ) (before after : Files) : Type 0 where
  pub holds : (get after target ≡ get before target) ⊎ (get after target ≡ Some text)
  pub others : (other : List ℕ) → other ≢ draft → other ≢ target → get after other ≡ get before other

-- What stands after sealing, and where it failed: each name of the family holds what it held, or its plan's text (a
-- name without a plan: nothing).
pub record LeftBySealing (base : List ℕ) (many : Bool) (task : Parts) (kept : List Kept) (before after : Files) : Type 0 where
  pub family : (k : ℕ) → k ≤ 9999 → (get after (family_name base k) ≡ get before (family_name base k)) ⊎ (get after (family_name base k) ≡ text_at many task kept k)
  pub outside : SameOutside base before after

-- clearing

held_or_gone_by : (b : Bool) (before : Option (List ℕ)) → (cond b None before ≡ before) ⊎ (cond b None before ≡ None)
held_or_gone_by true before = inr refl
held_or_gone_by false before = inl refl

-- a name, after one was taken away
pub held_or_gone : (files : Files) (taken name : List ℕ) → IsHeldOrGone files (remove files taken) name
held_or_gone files taken name =
    let R = slice_cmp nat_cmp in
    let is : get (remove files taken) name ≡ cond (eq_by_cmp R name taken) None (get files name) = get-remove nat_list_cmp_total files taken name in
    elim (held_or_gone_by (eq_by_cmp R name taken) (get files name)) [ inl held ↦ inl (is ∙ held) | inr gone ↦ inr (is ∙ gone) ]

held_or_gone_then : (before mid after : Files) (name : List ℕ) → IsHeldOrGone before mid name → IsHeldOrGone mid after name → IsHeldOrGone before after name
held_or_gone_then before mid after name first second = elim second [
  | inl same ↦ elim first [ inl held ↦ inl (same ∙ held) | inr gone ↦ inr (same ∙ gone) ]
  | inr gone ↦ inr gone
]

taken_family : (base : List ℕ) (before after : Files) → TakesPlan base before after → LeftByClearingFamily base before after
taken_family base before after step = rw step.2 (record {
  each = λ name. held_or_gone before (family_name base step.0) name;
  beside = λ name other. get-remove_other before (family_name base step.0) name (other step.0 step.1);
})

taken_one : (base : List ℕ) (before after : Files) → TakesOne base before after → LeftByClearing base before after
taken_one base before after (inl step) =
    let left = taken_family base before after step in
    record { each = left.each; outside = λ name other part. left.beside name other }
taken_one base before after (inr is) = rw is (record {
  each = λ name. held_or_gone before (part_name base) name;
  outside = λ name other part. get-remove_other before (part_name base) name part;
})

family_then : (base : List ℕ) (before mid after : Files) → TakesPlan base before mid → LeftByClearingFamily base mid after → LeftByClearingFamily base before after
family_then base before mid after step rest =
    let first = taken_family base before mid step in
    record {
      each = λ name. held_or_gone_then before mid after name (first.each name) (rest.each name);
      beside = λ name other. rest.beside name other ∙ first.beside name other;
    }

one_then : (base : List ℕ) (before mid after : Files) → TakesOne base before mid → LeftByClearing base mid after → LeftByClearing base before after
one_then base before mid after step rest =
    let first = taken_one base before mid step in
    record {
      each = λ name. held_or_gone_then before mid after name (first.each name) (rest.each name);
      outside = λ name other part. rest.outside name other part ∙ first.outside name other part;
    }

-- where a family is cleared, a name holds what it held or is gone, and names beside it stay
pub clearing_family_leaves : {T E : Type 0} (result : Result T E) (base : List ℕ) (files : Files) (steps : List Files) → ClearsFamily result base files steps → LeftByClearingFamily base files (last_of files steps)
clearing_family_leaves result base files steps clears =
    each-whole (TakesPlan base) (LeftByClearingFamily base) (λ fs. record { each = λ name. inl refl; beside = λ name other. refl }) (family_then base) files steps clears.0

-- the same of a family and base.part
pub clearing_leaves : {T E : Type 0} (result : Result T E) (base : List ℕ) (files : Files) (steps : List Files) → Clears result base files steps → LeftByClearing base files (last_of files steps)
clearing_leaves result base files steps clears =
    each-whole (TakesOne base) (LeftByClearing base) (λ fs. record { each = λ name. inl refl; outside = λ name other part. refl }) (one_then base) files steps clears.0

-- placing a text

-- drafts change no other name
pub drafts_beside : (draft text : List ℕ) (files : Files) (drafts : List Files) → Each (IsDraft draft text) files drafts → (other : List ℕ) → other ≢ draft → get (last_of files drafts) other ≡ get files other
drafts_beside draft text = each-whole (IsDraft draft text) (λ before after. (other : List ℕ) → other ≢ draft → get after other ≡ get before other) (λ files other apart. refl)
    (λ before mid after step rest other apart. rest other apart ∙ step.others other apart)

-- so placing the text, after them, places it
pub placed_last : (draft target text : List ℕ) (files : Files) (drafts steps : List Files) → Each (IsDraft draft text) files drafts → IsPlacedLast draft target text files drafts steps → IsPlaced draft target text files (last_of files steps)
placed_last draft target text files drafts steps each last =
    let there : last_of files steps ≡ last.0 = ap (last_of files) last.1 ∙ last_of-append files drafts (last.0 ∷ []) in
    record {
      holds = ap (λ fs. get fs target) there ∙ last.2.holds;
      gone = ap (λ fs. get fs draft) there ∙ last.2.gone;
      others = λ other from_draft from_target. ap (λ fs. get fs other) there ∙ last.2.others other from_draft from_target ∙ drafts_beside draft text files drafts each other from_draft;
    }

left_when_placed : (draft target text : List ℕ) (before after : Files) → IsPlaced draft target text before after → LeftByPlacing draft target text before after
left_when_placed draft target text before after placed = record { holds = inr placed.holds; others = placed.others }

-- where a text is to be placed, the target holds what it held or the whole text, and other names stay
pub placing_leaves : {T E : Type 0} (result : Result T E) (draft target text : List ℕ) → target ≢ draft → (files : Files) (steps : List Files) → Places result draft target text files steps → LeftByPlacing draft target text files (last_of files steps)
placing_leaves (Ok x) draft target text apart files steps places = left_when_placed draft target text files (last_of files steps) (placed_last draft target text files places.0 steps places.1 places.2)
placing_leaves (Err e) draft target text apart files steps places = elim places.3 [
  | inl none ↦
      let beside = drafts_beside draft text files places.0 places.1 in
      record {
        holds = inl (ap (λ s. get (last_of files s) target) none ∙ beside target apart);
        others = λ other from_draft from_target. ap (λ s. get (last_of files s) other) none ∙ beside other from_draft;
      }
  | inr last ↦ left_when_placed draft target text files (last_of files steps) (placed_last draft target text files places.0 steps places.1 last)
]

-- where no call failed it is placed
pub placing_places : {T : Type 0} (E : Type 0) (x : T) (draft target text : List ℕ) (files : Files) (steps : List Files) → Places {T = T} {E = E} (Ok x) draft target text files steps → IsPlaced draft target text files (last_of files steps)
placing_places E x draft target text files steps places = placed_last draft target text files places.0 steps places.1 places.2

-- sealing

same_or_not : (j k : ℕ) → (j ≡ k) ⊎ (j ≢ k)
same_or_not j k = elim (nat_eq j k) as (λ b. nat_eq j k ≡ b → (j ≡ k) ⊎ (j ≢ k)) [
  | true ↦ λ is. inl (grind (arith, nat_tests, is))
  | false ↦ λ is. inr (λ same. grind (arith, nat_tests, is, same))
] refl

-- a change of base.part alone
part_alone : (base : List ℕ) (many : Bool) (task : Parts) (kept : List Kept) (before after : Files) → ((other : List ℕ) → other ≢ part_name base → get after other ≡ get before other) → LeftBySealing base many task kept before after
part_alone base many task kept before after same = record {
  family = λ k high. inl (same (family_name base k) (family≢part base k high));
  outside = λ name no_plan no_part. same name no_part;
}

-- a change of one name of the family, and perhaps of base.part
one_name : (base : List ℕ) (many : Bool) (task : Parts) (kept : List Kept) (k : ℕ) (before after : Files) → k ≤ 9999 → get after (family_name base k) ≡ text_at many task kept k →
    ((other : List ℕ) → other ≢ part_name base → other ≢ family_name base k → get after other ≡ get before other) → LeftBySealing base many task kept before after
one_name base many task kept k before after high is same = record {
  family = λ j low. elim (same_or_not j k) [
    | inl here ↦ inr (subst (λ i. get after (family_name base i) ≡ text_at many task kept i) (sym here) is)
    | inr other ↦ inl (same (family_name base j) (family≢part base j low) (λ e. other (family_same base j k low high e)))
  ];
  outside = λ name no_plan no_part. same name no_part (no_plan k high);
}

one_step : (base : List ℕ) (many : Bool) (task : Parts) (kept : List Kept) (before after : Files) → SealStep base many task kept before after → LeftBySealing base many task kept before after
one_step base many task kept before after (Draft k text is draft) = part_alone base many task kept before after draft.others
one_step base many task kept before after (Place k text high is differs placed) = one_name base many task kept k before after high (placed.holds ∙ sym is) placed.others
one_step base many task kept before after (Take k high none is) =
    one_name base many task kept k before after high (ap (λ fs. get fs (family_name base k)) is ∙ get-remove_same before (family_name base k) ∙ sym none)
    (λ other no_part apart. ap (λ fs. get fs other) is ∙ get-remove_other before (family_name base k) other apart)
one_step base many task kept before after (TakePart is) = part_alone base many task kept before after (λ other apart. ap (λ fs. get fs other) is ∙ get-remove_other before (part_name base) other apart)

step_then : (base : List ℕ) (many : Bool) (task : Parts) (kept : List Kept) (before mid after : Files) → SealStep base many task kept before mid → LeftBySealing base many task kept mid after → LeftBySealing base many task kept before after
step_then base many task kept before mid after step rest =
    let first = one_step base many task kept before mid step in
    record {
      family = λ k high. elim (rest.family k high) [
        | inl same ↦ elim (first.family k high) [ inl held ↦ inl (same ∙ held) | inr text ↦ inr (same ∙ text) ]
        | inr text ↦ inr text
      ];
      outside = λ name no_plan no_part. rest.outside name no_plan no_part ∙ first.outside name no_plan no_part;
    }

-- where a family is sealed, each name of it holds what it held or its plan's text, and names outside stay
pub sealing_leaves : (base : List ℕ) (many : Bool) (task : Parts) (kept : List Kept) (files : Files) (steps : List Files) → Each (SealStep base many task kept) files steps → LeftBySealing base many task kept files (last_of files steps)
sealing_leaves base many task kept = each-whole (SealStep base many task kept) (LeftBySealing base many task kept) (λ fs. record { family = λ k high. inl refl; outside = λ name no_plan no_part. refl }) (step_then base many task kept)
