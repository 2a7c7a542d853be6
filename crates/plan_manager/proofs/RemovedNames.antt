-- Names that are taken away, one by one.
use Rattle.std.proofs.Common.{◌≡◌, ◌∙◌, refl, subst, ℕ, ◌+◌, ◌≤◌, ◌<◌, List, None, Result, Ok, Err, OnOk, IsErr, ◌⊎◌, inl, inr, arith}
use Rattle.std.specs.FinMap.{get, remove}
use Rattle.lama_host.proofs.FileLaws.{get-remove_same}
use Rattle.lama_host.specs.Folder.{Told, Files, Changes, Once, last_of}
use Rattle.lama_num.specs.Names.{part_name}
use Rattle.plan_manager.specs.Clearing.{TakesPlan, TakesOne, IsCleared, Clears, ClearsFamily, TakesBetween, HasNoneBetween, ClearsBetween}
use Rattle.plan_manager.proofs.CallLaws.{held_or_gone}
use Rattle.plan_manager.specs.Family.{family_name}
use Rattle.lama_host.proofs.StepLaws.{each-append, each-weaker, each-whole, last_of-append, each_once, last_once, changes_then, changes_weaker, changes_none}
use Rattle.lama_host.specs.Steps.{Each}

pub removed_as : {T E : Type 0} (a b : Told) (result : Result T E) (name other : List ℕ) → name ≡ other → Changes a b (Once result (λ files. remove files name)) → Changes a b (Once result (λ files. remove files other))
removed_as a b result name other same changes = subst (λ n. Changes a b (Once result (λ files. remove files n))) same changes

-- a name that isn't there stays away
pub gone_stays : (files : Files) (taken name : List ℕ) → get files name ≡ None → get (remove files taken) name ≡ None
gone_stays files taken name gone = elim (held_or_gone files taken name) [ inl held ↦ held ∙ gone | inr is ↦ is ]

pub nothing_ok : {T E : Type 0} (result : Result T E) (P : Type 0) → IsErr result → OnOk result P
nothing_ok {T} {E} (Ok x) P failed = let k : IsErr {T = T} {E = E} (Ok x) = failed in cc
nothing_ok (Err e) P failed = tt

-- the names from one number on are taken away, and are up to another
abbrev pub Taken : List ℕ → ℕ → ℕ → ℕ → Files → List Files → Type 0
Taken base from end n files steps = Each (TakesBetween base from end) files steps × HasNoneBetween base from n (last_of files steps)

takes_one : {T E : Type 0} (result : Result T E) (base : List ℕ) (from n end : ℕ) → from ≤ n → n < end → (files : Files) (steps : List Files) → Once result (λ fs. remove fs (family_name base n)) files steps → Each (TakesBetween base from end) files steps
takes_one result base from n end low high files steps step = each_once result (TakesBetween base from end) (λ fs. remove fs (family_name base n)) files steps (n, low, high, refl) step

-- one more
pub one_more : {T E : Type 0} (first before now : Told) (result : Result T E) (x : T) (base : List ℕ) (from n end : ℕ) → result ≡ Ok x → from ≤ n → n < end → before.busy ≡ first.busy →
    Changes first before (Taken base from end n) → Changes before now (Once result (λ files. remove files (family_name base n))) → Changes first now (Taken base from end (n + 1))
one_more {T} {E} first before now result x base from n end ok low high busy so_far changes =
    changes_then first before now (Taken base from end n) (Once result (λ files. remove files (family_name base n))) (Taken base from end (n + 1)) busy so_far changes
    (λ files steps more past step. (
      each-append (TakesBetween base from end) files steps more past.0 (takes_one result base from n end low high (last_of files steps) more step),
      λ k at_least below. rw (last_of-append files steps more, last_once result x (λ fs. remove fs (family_name base n)) (last_of files steps) more ok step)
          (elim (le_cases k n (omega arith)) [
            | inl earlier ↦ gone_stays (last_of files steps) (family_name base n) (family_name base k) (past.1 k at_least earlier)
            | inr here ↦ rw here (get-remove_same (last_of files steps) (family_name base n))
          ]),
    ))
  where
    le_cases : (k n : ℕ) → k ≤ n → (k < n) ⊎ (k ≡ n)
    le_cases k n le = grind arith

-- or a call failed
pub one_failed : {T E U V : Type 0} (first before now : Told) (result : Result T E) (answer : Result U V) (base : List ℕ) (from n end : ℕ) → IsErr answer → from ≤ n → n < end → before.busy ≡ first.busy →
    Changes first before (Taken base from end n) → Changes before now (Once result (λ files. remove files (family_name base n))) → Changes first now (ClearsBetween answer base from end)
one_failed first before now result answer base from n end failed low high busy so_far changes =
    changes_then first before now (Taken base from end n) (Once result (λ files. remove files (family_name base n))) (ClearsBetween answer base from end) busy so_far changes
    (λ files steps more past step. (each-append (TakesBetween base from end) files steps more past.0 (takes_one result base from n end low high (last_of files steps) more step), nothing_ok answer _ failed))

-- and in the end all are
pub all_taken : (first now : Told) (base : List ℕ) (from n end : ℕ) → end ≤ n → Changes first now (Taken base from end n) → Changes first now (Taken base from end end)
all_taken first now base from n end high = changes_weaker first now (Taken base from end n) (Taken base from end end) (λ files steps past. (past.0, λ k low below. past.1 k low (omega arith)))

pub none_taken : (told : Told) (base : List ℕ) (from end : ℕ) → Changes told told (Taken base from end from)
none_taken told base from end = changes_none told (Taken base from end from) (λ files. (tt, λ k low below. absurd (omega arith)))

-- All of the family, of a base.
taken_plans : {T E : Type 0} (result : Result T E) (base : List ℕ) (files : Files) (steps : List Files) → ClearsBetween result base 0 10000 files steps → ClearsFamily result base files steps
taken_plans (Ok x) base files steps taken = (each-weaker (TakesBetween base 0 10000) (TakesPlan base) (λ a b t. (t.0, omega (arith, t.2), t.3)) files steps taken.0, λ k high. taken.1 k (omega arith) (omega arith))
taken_plans (Err e) base files steps taken = (each-weaker (TakesBetween base 0 10000) (TakesPlan base) (λ a b t. (t.0, omega (arith, t.2), t.3)) files steps taken.0, tt)

pub clears_family : {T E : Type 0} (first now : Told) (result : Result T E) (base : List ℕ) → Changes first now (ClearsBetween result base 0 10000) → Changes first now (ClearsFamily result base)
clears_family first now result base = changes_weaker first now (ClearsBetween result base 0 10000) (ClearsFamily result base) (taken_plans result base)

takes_part : {T E : Type 0} (result : Result T E) (base : List ℕ) (files : Files) (steps : List Files) → Once result (λ fs. remove fs (part_name base)) files steps → Each (TakesOne base) files steps
takes_part result base files steps step = each_once result (TakesOne base) (λ fs. remove fs (part_name base)) files steps (inr refl) step

pub part_failed : {T E U V : Type 0} (first now : Told) (result : Result T E) (answer : Result U V) (base : List ℕ) → IsErr answer → Changes first now (Once result (λ files. remove files (part_name base))) → Changes first now (Clears answer base)
part_failed first now result answer base failed = changes_weaker first now (Once result (λ files. remove files (part_name base))) (Clears answer base)
    (λ files steps step. (takes_part result base files steps step, nothing_ok answer _ failed))

-- a name that isn't there stays away as others are taken
part_stays_gone : (base : List ℕ) (files : Files) (steps : List Files) → Each (TakesPlan base) files steps → get files (part_name base) ≡ None → get (last_of files steps) (part_name base) ≡ None
part_stays_gone base = each-whole (TakesPlan base) (λ before after. get before (part_name base) ≡ None → get after (part_name base) ≡ None) (λ files gone. gone)
    (λ before mid after step so gone. so (rw step.2 (gone_stays before (family_name base step.0) (part_name base) gone)))

part_then : {U V : Type 0} (base : List ℕ) (answer : Result U V) (before files : Files) (more : List Files) → files ≡ remove before (part_name base) → ClearsFamily answer base files more → OnOk answer (IsCleared base (last_of files more))
part_then base (Err e) before files more is cleared = tt
part_then base (Ok x) before files more is cleared = record {
  family = cleared.1;
  part = part_stays_gone base files more cleared.0 (rw is (get-remove_same before (part_name base)));
}

-- base.part was taken away, and then the family
pub clears_all : {T E U V : Type 0} (first mid now : Told) (result : Result T E) (x : T) (answer : Result U V) (base : List ℕ) → result ≡ Ok x → mid.busy ≡ first.busy →
    Changes first mid (Once result (λ files. remove files (part_name base))) → Changes mid now (ClearsBetween answer base 0 10000) → Changes first now (Clears answer base)
clears_all first mid now result x answer base ok busy part family =
    changes_then first mid now (Once result (λ files. remove files (part_name base))) (ClearsFamily answer base) (Clears answer base) busy part (clears_family mid now answer base family)
    (λ files steps more step cleared. (
      each-append (TakesOne base) files steps more (takes_part result base files steps step) (each-weaker (TakesPlan base) (TakesOne base) (λ a b t. inl t) (last_of files steps) more cleared.0),
      rw (last_of-append files steps more) (part_then base answer files (last_of files steps) more (last_once result x (λ fs. remove fs (part_name base)) files steps ok step) cleared),
    ))
