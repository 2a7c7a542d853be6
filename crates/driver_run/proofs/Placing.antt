-- A plan that was placed changes nothing outside the family and base.part.
use Rattle.std.proofs.Common.{◌≡◌, ◌∙◌, ap, subst, refl, ℕ, ◌≤◌, List, [], Bool, true, false, Result, arith}
use Rattle.lama_host.specs.Folder.{Told, Changes, IsUntouched, last_of}
use Rattle.lama_host.proofs.StepLaws.{leaves_by}
use Rattle.lama_host.specs.Steps.{Leaves}
use Rattle.lama_num.specs.Names.{part_name}
use Rattle.candidates.specs.declared.reading.ReadError.{ReadError}
use Rattle.plan_manager.specs.Family.{SameOutside}
use Rattle.plan_manager.specs.Keeping.{PlacesPlan, plan_file, plan_number}
use Rattle.plan_manager.specs.Clearing.{Clears}
use Rattle.plan_manager.specs.Sealing.{Seals}
use Rattle.plan_manager.proofs.CallLaws.{placing_leaves, sealing_leaves, clearing_leaves}
use Rattle.plan_manager.proofs.FamilyLaws.{family≢part}
use Rattle.lama_host.specs.declared.files.Failed.{Failed}
use Rattle.sas_task.specs.declared.contents.Parts.{Parts}
use Rattle.sas_task.specs.declared.plans.Kept.{Kept}
use Rattle.driver_run.specs.Words.{base_name}

numbered_within : (many : Bool) (number : ℕ) → number ≤ 9999 → plan_number many number ≤ 9999
numbered_within true number most = most
numbered_within false number most = omega arith

pub kept_outside : (result : Result (Unit {0}) ReadError) (before now : Told) (base : List ℕ) (many : Bool) (number : ℕ) (text : List ℕ) → base ≡ base_name → number ≤ 9999 →
    Changes before now (PlacesPlan result base many number text) → Leaves before now (SameOutside base_name)
kept_outside result before now base many number text is most = leaves_by before now (PlacesPlan result base many number text) (SameOutside base_name)
    (λ files steps places.
    let within = numbered_within many number most in
    let left = placing_leaves result (part_name base) (plan_file base many number) text (family≢part base (plan_number many number) within) files steps places in
    subst (λ b. SameOutside b files (last_of files steps)) is (λ name other part. left.others name part (other (plan_number many number) within)))

-- where nothing was touched
pub same_outside : (before now : Told) → IsUntouched before now → Leaves before now (SameOutside base_name)
same_outside before now same = λ files idle held. (files, ap (λ t. t.content) same ∙ held, λ name other part. refl)

-- by a folder that was sealed, or wasn't where a call failed
pub sealed_outside : (result : Result (Unit {0}) Failed) (before now : Told) (parts : Parts) (many : Bool) (kept : List Kept) (base : List ℕ) → base ≡ base_name →
    Changes before now (Seals result base many parts kept) → Leaves before now (SameOutside base_name)
sealed_outside result before now parts many kept base is = leaves_by before now (Seals result base many parts kept) (SameOutside base_name)
    (λ files steps seals. subst (λ b. SameOutside b files (last_of files steps)) is (sealing_leaves base many parts kept files steps seals.0).outside)

-- the same of one that was cleared
pub cleared_outside : (result : Result (Unit {0}) Failed) (before now : Told) (base : List ℕ) → base ≡ base_name → Changes before now (Clears result base) → Leaves before now (SameOutside base_name)
cleared_outside result before now base is = leaves_by before now (Clears result base) (SameOutside base_name)
    (λ files steps clears. subst (λ b. SameOutside b files (last_of files steps)) is (clearing_leaves result base files steps clears).outside)

-- one change inside after another
pub outside_then : (before mid now : Told) → mid.busy ≡ [] → Leaves before mid (SameOutside base_name) → Leaves mid now (SameOutside base_name) → Leaves before now (SameOutside base_name)
outside_then before mid now quiet first second = λ files idle held.
    let one = first files idle held in
    let two = second one.0 quiet one.1 in
    (two.0, two.1, λ name other part. two.2 name other part ∙ one.2 name other part)
