-- What stands in the folder from call to call.
use Rattle.std.proofs.Common.{◌≡◌, ◌≢◌, ◌∙◌, sym, ap, subst, refl, ℕ, zero, suc, List, [], Bool, true, false, Option, Some, None, is_some, Ok, arith}
use Rattle.std.specs.FinMap.{get}
use Rattle.lama_host.specs.declared.files.Failed.{Failed}
use Rattle.lama_host.specs.Folder.{Told, Files, WhereTold, IsUntouched, Changes, last_of}
use Rattle.lama_num.specs.Names.{part_name}
use Rattle.sas_task.specs.declared.contents.Parts.{Parts}
use Rattle.sas_task.specs.declared.plans.Kept.{Kept}
use Rattle.plan_manager.specs.Clearing.{IsCleared, Clears}
use Rattle.plan_manager.proofs.CallLaws.{LeftByClearing}
use Rattle.plan_manager.specs.Family.{IsNoPlan, SameOutside}
use Rattle.plan_manager.proofs.FamilyLaws.{family_zero, family_numbered}
use Rattle.plan_manager.proofs.CallLaws.{clearing_leaves, sealing_leaves}
use Rattle.plan_manager.specs.Sealing.{HoldsPlans, Seals}
use Rattle.lama_host.specs.Steps.{Leaves}
use Rattle.lama_host.proofs.StepLaws.{leaves_by, told_before}
use Rattle.driver_run.specs.Leaves.{LeavesPlans}
use Rattle.driver_run.specs.Words.{is_own_name, base_name}
use Rattle.driver_run.proofs.OwnNames.{own_base, own_part, own_number}
use Rattle.lama_host.proofs.FileLaws.{same_files}

-- a folder that was sealed
pub sealed_plans : (before now : Told) (parts : Parts) (many : Bool) (kept : List Kept) (base : List ℕ) → base ≡ base_name →
    Changes before now (Seals {T = Unit {0}} {E = Failed} (Ok tt) base many parts kept) → Leaves before now (LeavesPlans (Some parts) many kept)
sealed_plans before now parts many kept base is = leaves_by before now (Seals {T = Unit {0}} {E = Failed} (Ok tt) base many parts kept) (LeavesPlans (Some parts) many kept)
    (λ files steps seals. record {
      holds = subst (λ b. HoldsPlans (last_of files steps) b many parts kept) is seals.1;
      outside = subst (λ b. SameOutside b files (last_of files steps)) is (sealing_leaves base many parts kept files steps seals.0).outside;
    })

-- a folder that was cleared
pub clear_leaves : (before now : Told) (base : List ℕ) → Changes before now (Clears {T = Unit {0}} {E = Failed} (Ok tt) base) → Leaves before now (λ files after. LeftByClearing base files after × IsCleared base after)
clear_leaves before now base = leaves_by before now (Clears {T = Unit {0}} {E = Failed} (Ok tt) base) (λ files after. LeftByClearing base files after × IsCleared base after)
    (λ files steps clears. (clearing_leaves {T = Unit {0}} {E = Failed} (Ok tt) base files steps clears, clears.1))

-- what was left after a change inside alone
pub plans_after : (before mid now : Told) (task : Option Parts) (many : Bool) (kept : List Kept) → mid.busy ≡ [] → Leaves before mid (SameOutside base_name) → Leaves mid now (LeavesPlans task many kept) → Leaves before now (LeavesPlans task many kept)
plans_after before mid now task many kept quiet first second = λ files idle held.
    let one = first files idle held in
    let two = second one.0 quiet one.1 in (
      two.0,
      two.1,
      record {
        holds = two.2.holds;
        outside = λ name other part. two.2.outside name other part ∙ one.2 name other part;
      },
    )

-- after nothing was touched
pub plans_untouched : (before mid now : Told) (task : Option Parts) (many : Bool) (kept : List Kept) → IsUntouched before mid → Leaves mid now (LeavesPlans task many kept) → Leaves before now (LeavesPlans task many kept)
plans_untouched before mid now task many kept same second = λ files idle held. second files (ap (λ t. t.busy) same ∙ idle) (ap (λ t. t.content) same ∙ held)

-- after clearing
pub plans_cleared : (before mid now : Told) (task : Option Parts) (many : Bool) (kept : List Kept) (base : List ℕ) → base ≡ base_name → mid.busy ≡ [] → Changes before mid (Clears {T = Unit {0}} {E = Failed} (Ok tt) base) → Leaves mid now (LeavesPlans task many kept) → Leaves before now (LeavesPlans task many kept)
plans_cleared before mid now task many kept base is quiet first second =
    plans_after before mid now task many kept quiet
    (λ files idle held. let one = clear_leaves before mid base first files idle held in (one.0, one.1, subst (λ b. SameOutside b files one.0) is one.2.0.outside))
    second

-- a cleared folder, where nothing was touched after that
pub still_cleared : (before now : Told) (many : Bool) (kept : List Kept) → IsUntouched before now → Leaves before before (λ first files. IsCleared base_name files) → Leaves before now (LeavesPlans None many kept)
still_cleared before now many kept same cleared = λ files idle held.
    let c = cleared files idle held in (
      files,
      ap (λ t. t.content) same ∙ held,
      record {
        holds = subst (IsCleared base_name) (same_files c.0 files (sym c.1 ∙ held)) c.2;
        outside = λ name other part. refl;
      },
    )

-- what clearing left is seen afterwards
pub cleared_now : (before now : Told) (base : List ℕ) → base ≡ base_name → before.busy ≡ [] → is_some now.content ≡ is_some before.content → Changes before now (Clears {T = Unit {0}} {E = Failed} (Ok tt) base) → Leaves now now (λ first files. IsCleared base_name files)
cleared_now before now base is quiet tells cleared = λ files idle held.
    let was = told_before before.content now.content files tells held in
    let c = clear_leaves before now base cleared was.0 quiet was.1 in
    (files, held, subst (λ b. IsCleared b files) is (subst (IsCleared base) (same_files c.0 files (sym c.1 ∙ held)) c.2.1))

name_apart : (base name other : List ℕ) → is_own_name base name ≡ false → is_own_name base other ≡ true → name ≢ other
name_apart base name other none own same = let k : false ≡ true = sym none ∙ ap (is_own_name base) same ∙ own in cc

-- a name that isn't one of the run's own
pub not_own : (base name : List ℕ) → is_own_name base name ≡ false → IsNoPlan base name
not_own base name none zero most same = name_apart base name base none (own_base base) (same ∙ family_zero base)
not_own base name none (suc k) most same = name_apart base name _ none (own_number base (suc k) (omega arith) most) (same ∙ family_numbered base (suc k) (omega arith))

pub not_part : (base name : List ℕ) → is_own_name base name ≡ false → name ≢ part_name base
not_part base name none = name_apart base name (part_name base) none (own_part base)

-- such a name holds after clearing what it held
pub held_after_clearing : (before now : Told) (base name : List ℕ) (P : Option (List ℕ) → Type 0) → base ≡ base_name → is_own_name base_name name ≡ false → now.busy ≡ [] → Changes before now (Clears {T = Unit {0}} {E = Failed} (Ok tt) base) →
    WhereTold now (λ files. P (get files name)) → WhereTold before (λ files. P (get files name))
held_after_clearing before now base name P is none quiet left told = λ files idle held.
    let one = clear_leaves before now base left files idle held in
    let own : is_own_name base name ≡ false = rw is none in
    subst P (one.2.0.outside name (not_own base name own) (not_part base name own)) (told one.0 quiet one.1)
