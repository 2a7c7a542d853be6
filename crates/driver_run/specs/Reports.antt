-- What a report tells.
use Rattle.std.specs.Prelude.{◌≡◌, ◌≢◌, ℕ, ◌≤◌, List, [], ◌∷◌, take, Option, Some, None, IfSome, Result, Ok, Err, false}
use Rattle.sas_task.specs.declared.contents.Parts.{Parts}
use Rattle.sas_reader.specs.declared.faults.SasFault.{SasFault}
use Rattle.sas_reader.specs.Walks.{task_of}
use Rattle.run_report.specs.declared.report.Ended.{Ended}
use Rattle.run_report.specs.declared.report.Ended.TheVariants as ended
use Rattle.run_report.specs.declared.report.Report.{Report}
use Rattle.run_report.specs.declared.report.Why.{Why}
use Rattle.run_report.specs.declared.report.Why.TheVariants as why
use Rattle.run_report.specs.Complete.{IsComplete}
use Rattle.run_report.specs.Tells.{Turns}
use Rattle.run_report.specs.Runs.{TellsRun, TellsNothing}
use Rattle.driver_run.specs.declared.aims.Aim.{Aim}
use Rattle.driver_run.specs.declared.task_file.TaskFile.{TaskFile}
use Rattle.driver_run.specs.declared.task_file.TaskFile.TheVariants as file
use Rattle.driver_run.specs.Requests.{is_many, config_of_task, run_of}

-- a fact on the report, where there is one
abbrev pub IfDone : Ended → (Report → Type 0) → Type 0
IfDone (ended.Done report) P = P report
IfDone ended.NoMemory P = Unit {0}

-- the report on words that aren't accepted
abbrev pub refusal : Why → Report
refusal end = record { task = None; many = false; kept = []; candidates = []; ends = []; start = 0; why = end; code = 36 }

-- the words were accepted
abbrev pub IsAccepted : Why → Type 0
IsAccepted why.Finished = Unit {0}
IsAccepted why.PlanLimit = Unit {0}
IsAccepted (why.Words fault) = ⊥
IsAccepted (why.Config bad) = ⊥
IsAccepted (why.NoFile input) = Unit {0}
IsAccepted (why.Task bad) = Unit {0}
IsAccepted why.Fault = Unit {0}

-- what the bytes of a task's file give: the task whose text they are, or their first fault; of a file that is too long it is that of as many bytes as are read of it
abbrev pub task_in : List ℕ → Result Parts SasFault
task_in bytes = task_of (take 268435457 bytes)

-- the named file held the text of this task
abbrev pub IsTextOf : Option (List ℕ) → Option Parts → Type 0
IsTextOf held task = (bytes : List ℕ) × (parts : Parts) × (held ≡ Some bytes) × (task ≡ Some parts) × (task_in bytes ≡ Ok parts)

-- What the report says of what the named file held: that it isn't there, its first fault, or the task that it is the
-- text of. Where a call failed, the report has that task, or none.
abbrev pub TellsTask : Option (List ℕ) → Option Parts → Why → Type 0
TellsTask held task why.Finished = IsTextOf held task
TellsTask held task why.PlanLimit = IsTextOf held task
TellsTask held task (why.NoFile input) = (held ≡ None) × (task ≡ None)
TellsTask held task (why.Task fault) = (bytes : List ℕ) × (held ≡ Some bytes) × (task ≡ None) × (task_in bytes ≡ Err fault)
TellsTask held task (why.Words fault) = ⊥
TellsTask held task (why.Config bad) = ⊥
TellsTask held task why.Fault = IfSome task (λ parts. (bytes : List ℕ) × (held ≡ Some bytes) × (task_in bytes ≡ Ok parts))

-- what a run with this aim was: nothing where it came to no task, else these turns
abbrev pub Tells : Aim → Option Parts → Report → Turns → Type 0
Tells aim None report turns = TellsNothing report × (turns ≡ record { ended = []; present = None })
Tells aim (Some parts) report turns = TellsRun (run_of parts aim report.start) report turns

-- a run without a bound is complete
abbrev pub Completes : Aim → Option Parts → Report → Type 0
Completes aim None report = Unit {0}
Completes aim (Some parts) report = aim.bound ≡ None → IsComplete parts (config_of_task aim parts) report

-- What is told of a run that began at this moment.
pub record IsRunReport (aim : Aim) (moment : ℕ) (report : Report) (turns : Turns) : Type 0 where
  pub start : report.start ≡ moment
  pub accepted : IsAccepted report.why
  pub many : report.many ≡ is_many aim.chosen
  pub tells : Tells aim report.task report turns
  pub completes : Completes aim report.task report

-- what is told of bytes that were read
abbrev pub TellsBytes : Result Parts SasFault → TaskFile → Type 0
TellsBytes read (file.Task parts) = read ≡ Ok parts
TellsBytes read file.Missing = ⊥
TellsBytes read (file.Refused fault) = read ≡ Err fault
TellsBytes read file.Failed = ⊥

-- what is told of the task's file
abbrev pub TellsFile : Option (List ℕ) → TaskFile → Type 0
TellsFile held (file.Task parts) = (bytes : List ℕ) × (held ≡ Some bytes) × (task_in bytes ≡ Ok parts)
TellsFile held file.Missing = held ≡ None
TellsFile held (file.Refused fault) = (bytes : List ℕ) × (held ≡ Some bytes) × (task_in bytes ≡ Err fault)
TellsFile held file.Failed = Unit {0}
