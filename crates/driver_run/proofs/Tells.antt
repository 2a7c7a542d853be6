-- What is told of the task's file and of the folder.
use Rattle.std.proofs.Common.{◌≡◌, ◌∙◌, ap, refl, ℕ, List, length, true, false, nat_le, Option, Some, None, Result, Ok, Err, IfOk, arith, take, sym, ◌≢◌}
use Rattle.std.proofs.lemmas.Bool.Decides.{nat_tests}
use Rattle.std.proofs.lemmas.List.{length-take-le, take_all}
use Rattle.sas_task.specs.declared.contents.Parts.{Parts}
use Rattle.sas_task.specs.declared.refusals.What.TheVariants.{Bytes}
use Rattle.sas_reader.specs.declared.faults.SasFault.TheVariants.{TooLarge}
use Rattle.sas_reader.specs.Walks.{task_of, parts_of}
use Rattle.candidates.specs.declared.reading.Whole.TheVariants as whole
use Rattle.driver_run.specs.declared.task_file.TaskFile.{TaskFile}
use Rattle.driver_run.specs.declared.task_file.TaskFile.TheVariants as file_
use Rattle.run_report.specs.declared.report.Why.{Why}
use Rattle.run_report.specs.declared.report.Why.TheVariants as why
use Rattle.driver_run.specs.Reports.{task_in, TellsBytes, TellsFile, TellsTask}
use Rattle.candidates.specs.Whole.{whole_of}
use Rattle.run_report.specs.Events.{IsRunToEnd}

too_long_text : (bytes : List ℕ) → length bytes ≡ 268435457 → task_of bytes ≡ Err (TooLarge Bytes 268435457)
unfolding task_of parts_of
too_long_text bytes is =
    let beyond : nat_le (length bytes) 268435456 ≡ false = grind (arith, nat_tests, is) in
    rw (beyond, is) refl

-- the first fault of a file that is too long is its length
pub too_long_is_refused : (held : Option (List ℕ)) → whole.TooLong ≡ whole_of held 268435456 → (bytes : List ℕ) × (held ≡ Some bytes) × (task_in bytes ≡ Err (TooLarge Bytes 268435457))
too_long_is_refused None is = let k : whole.TooLong ≡ whole.Missing = is in cc
too_long_is_refused (Some bytes) is =
    elim (nat_le (length bytes) 268435456) as (λ b. nat_le (length bytes) 268435456 ≡ b → (found : List ℕ) × (Some bytes ≡ Some found) × (task_in found ≡ Err (TooLarge Bytes 268435457))) [
      | true ↦ λ fits. let k : whole.TooLong ≡ whole.Bytes bytes = rw fits at is in cc
      | false ↦ λ long. (bytes, refl, too_long_text (take 268435457 bytes) (length-take-le 268435457 bytes (grind (arith, nat_tests, long))))
    ] refl

-- a file that was read whole is told of by its bytes
pub told_by_bytes : (held : Option (List ℕ)) (bytes : List ℕ) (found : TaskFile) → whole.Bytes bytes ≡ whole_of held 268435456 → TellsBytes (task_of bytes) found → TellsFile held found
told_by_bytes None bytes found is tells = let k : whole.Bytes bytes ≡ whole.Missing = is in cc
told_by_bytes (Some file) bytes found is tells =
    elim (nat_le (length file) 268435456) as (λ b. nat_le (length file) 268435456 ≡ b → TellsFile (Some file) found) [
      | true ↦ λ fits.
          let same_whole : whole.Bytes bytes ≡ whole.Bytes file = rw fits at is in
          let same : bytes ≡ file = cc in
          let all : take 268435457 file ≡ file = take_all 268435457 file (grind (arith, nat_tests, fits)) in
          let read : task_of bytes ≡ task_in file = ap task_of (same ∙ sym all) in
          told_of found read tells
      | false ↦ λ long. let k : whole.Bytes bytes ≡ whole.TooLong = rw long at is in cc
    ] refl
  where
    told_of : (found : TaskFile) → task_of bytes ≡ task_in file → TellsBytes (task_of bytes) found → TellsFile (Some file) found
    told_of (file_.Task parts) read tells = (file, refl, sym read ∙ tells)
    told_of file_.Missing read tells = absurd tells
    told_of (file_.Refused fault) read tells = (file, refl, sym read ∙ tells)
    told_of file_.Failed read tells = absurd tells

-- a fact on what was answered, from another
pub if_ok_weaker : {T E : Type 0} (P Q : T → Type 0) (result : Result T E) → ((x : T) → P x → Q x) → IfOk result P → IfOk result Q
if_ok_weaker P Q (Ok x) then_so is = then_so x is
if_ok_weaker P Q (Err e) then_so is = tt

-- from two facts
pub if_ok_from_both : {T E : Type 0} (P Q R : T → Type 0) (result : Result T E) → ((x : T) → P x → Q x → R x) → IfOk result P → IfOk result Q → IfOk result R
if_ok_from_both P Q R (Ok x) then_so one other = then_so x one other
if_ok_from_both P Q R (Err e) then_so one other = tt

-- what is told of the file's task is told by the report on it
pub told_when_solved : (held : Option (List ℕ)) (parts : Parts) (task : Option Parts) (end : Why) → TellsFile held (file_.Task parts) → task ≡ Some parts → (end ≢ why.Fault → IsRunToEnd end) → TellsTask held task end
told_when_solved held parts task why.Finished tells is ends = (tells.0, parts, tells.1, is, tells.2)
told_when_solved held parts task why.PlanLimit tells is ends = (tells.0, parts, tells.1, is, tells.2)
told_when_solved held parts task (why.Words fault) tells is ends = absurd (ends (λ e. cc))
told_when_solved held parts task (why.Config bad) tells is ends = absurd (ends (λ e. cc))
told_when_solved held parts task (why.NoFile input) tells is ends = absurd (ends (λ e. cc))
told_when_solved held parts task (why.Task fault) tells is ends = absurd (ends (λ e. cc))
told_when_solved held parts task why.Fault tells is ends = rw is (tells.0, tells.1, tells.2)
