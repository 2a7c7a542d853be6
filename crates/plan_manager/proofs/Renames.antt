-- A draft is renamed.
use Rattle.std.proofs.Common.{◌≡◌, ◌≢◌, ◌∙◌, sym, ap, subst, refl, ℕ, ◌≤◌, List, ◌++◌, Bool, true, false, Option, Some, None, is_some, IsSome, Result, Ok, Err, IsErr, OnErr, inl, inr, append-nil}
use Rattle.std.specs.FinMap.{get, insert, remove}
use Rattle.lama_num.specs.Names.{part_name}
use Rattle.plan_manager.specs.Family.{family_name}
use Rattle.plan_manager.proofs.FamilyLaws.{family≢part}
use Rattle.lama_host.proofs.FileLaws.{get-insert_same, get-insert_other, get-remove_same, get-remove_other}
use Rattle.lama_host.specs.Folder.{Told, Files, WhereTold, Changes, Keeps, Once, renamed, last_of}
use Rattle.plan_manager.specs.Keeping.{Drafts, IsPlaced, Places}
use Rattle.lama_host.proofs.StepLaws.{changes_then, changes_weaker, told_before}
use Rattle.plan_manager.proofs.RemovedNames.{nothing_ok}

on_err : {T E : Type 0} (result : Result T E) (P : Type 0) → P → OnErr result P
on_err (Ok x) P is = tt
on_err (Err e) P is = is

-- the draft failed
pub draft_failed : {T E U V : Type 0} (a b : Told) (result : Result T E) (answer : Result U V) (draft target text : List ℕ) → IsErr answer → Changes a b (Drafts result draft text) → Changes a b (Places answer draft target text)
draft_failed a b result answer draft target text failed = changes_weaker a b (Drafts result draft text) (Places answer draft target text)
    (λ files steps drafts. (steps, drafts.0, nothing_ok answer _ failed, on_err answer _ (inl refl)))

renamed_is : (draft target text : List ℕ) (files : Files) → get files draft ≡ Some text → renamed draft target files ≡ insert (remove files draft) target text
renamed_is draft target text files held = rw held refl

placed : (draft target text : List ℕ) (files : Files) → target ≢ draft → get files draft ≡ Some text → IsPlaced draft target text files (renamed draft target files)
placed draft target text files apart held =
    let is = renamed_is draft target text files held in
    let rest = remove files draft in
    record {
      holds = ap (λ fs. get fs target) is ∙ get-insert_same rest target text;
      gone = ap (λ fs. get fs draft) is ∙ get-insert_other rest target text draft (λ same. apart (sym same)) ∙ get-remove_same files draft;
      others = λ other from_draft from_target. ap (λ fs. get fs other) is ∙ get-insert_other rest target text other from_target ∙ get-remove_other files draft other from_draft;
    }

places_by : {T E U V : Type 0} (one : Result T E) (x : T) (two : Result U V) (draft target text : List ℕ) → target ≢ draft → one ≡ Ok x → (files : Files) (steps more : List Files) →
    Drafts one draft text files steps → Once two (renamed draft target) (last_of files steps) more → Places two draft target text files (steps ++ more)
places_by one x (Ok y) draft target text apart ok files steps more drafts once =
    let before = last_of files steps in
    (steps, drafts.0, (renamed draft target before, ap (λ m. steps ++ m) once.0, placed draft target text before apart (rw ok at drafts).1), tt)
places_by one x (Err e) draft target text apart ok files steps more drafts once =
    let before = last_of files steps in (
      steps,
      drafts.0,
      tt,
      elim once.1 [
        | inl none ↦ inl (ap (λ m. steps ++ m) none ∙ append-nil steps)
        | inr made ↦ inr (renamed draft target before, ap (λ m. steps ++ m) made, placed draft target text before apart (rw ok at drafts).1)
      ],
    )

-- or it was written, and is renamed
pub draft_renamed : {T E U V : Type 0} (a b c : Told) (one : Result T E) (x : T) (two : Result U V) (draft target text : List ℕ) → target ≢ draft → one ≡ Ok x → b.busy ≡ a.busy →
    Changes a b (Drafts one draft text) → Changes b c (Once two (renamed draft target)) → Changes a c (Places two draft target text)
draft_renamed a b c one x two draft target text apart ok busy drafts once =
    changes_then a b c (Drafts one draft text) (Once two (renamed draft target)) (Places two draft target text) busy drafts once (places_by one x two draft target text apart ok)

there : (one two : Option Files) (last files : Files) (draft text : List ℕ) → one ≡ Some last → two ≡ Some files → one ≡ two → get last draft ≡ Some text → IsSome (get files draft)
there one two last files draft text first second same held =
    let k : Some last ≡ Some files = sym first ∙ same ∙ second in
    let is : last ≡ files = cc in
    let has : get files draft ≡ Some text = ap (λ fs. get fs draft) (sym is) ∙ held in
    rw has refl

-- what was written is there
pub draft_there : {T E : Type 0} (a b : Told) (result : Result T E) (x : T) (draft text : List ℕ) → result ≡ Ok x → Keeps a b result → Changes a b (Drafts result draft text) → WhereTold b (λ files. IsSome (get files draft))
draft_there a b result x draft text ok keeps changes files idle held =
    let first = told_before a.content b.content files keeps.content held in
    let one = changes first.0 (sym keeps.busy ∙ idle) first.1 in
    there b.content b.content (last_of first.0 one.0) files draft text one.2.content held refl (rw ok at one.1).1

-- a name of the family isn't the draft's
pub apart : (base target draft : List ℕ) (number : ℕ) → number ≤ 9999 → target ≡ family_name base number → draft ≡ part_name base → target ≢ draft
apart base target draft number high first second same = family≢part base number high (sym first ∙ same ∙ second)

-- the same under other names
pub places_as : {T E : Type 0} (a b : Told) (result : Result T E) (draft target text part name : List ℕ) → draft ≡ part → target ≡ name → Changes a b (Places result draft target text) → Changes a b (Places result part name text)
places_as a b result draft target text part name first second changes =
    subst (λ d. Changes a b (Places result d name text)) first (subst (λ t. Changes a b (Places result draft t text)) second changes)
