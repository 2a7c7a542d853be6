-- A run of the planner.
use Rattle.std.specs.Prelude.{◌≡◌, ◌≢◌, ℕ, List, Option, Some, None, Ok, Err}
use Rattle.std.specs.FinMap.{get}
use Rattle.lama_host.specs.Folder.{Told, WhereTold, Rose}
use Rattle.lama_host.specs.Steps.{Leaves, Stays}
use Rattle.sas_task.specs.declared.contents.Parts.{Parts}
use Rattle.conf_text.specs.declared.faults.ConfBad.{ConfBad}
use Rattle.run_report.specs.declared.report.Ended.{Ended}
use Rattle.run_report.specs.declared.report.Ended.TheVariants.{Done}
use Rattle.run_report.specs.declared.report.Why.TheVariants.{Words, Config, Fault}
use Rattle.run_report.specs.declared.report.WordsFault.{WordsFault}
use Rattle.run_report.specs.Clocks.{AsksClock}
use Rattle.run_report.specs.Events.{code_of, IsRunToEnd}
use Rattle.run_report.specs.Plans.{KeepsPlans}
use Rattle.run_report.specs.Tells.{Turns}
use Rattle.plan_manager.specs.Family.{SameOutside}
use Rattle.driver_run.specs.Words.{line_of, base_name}
use Rattle.driver_run.specs.Requests.{Request, request_of, is_many}
use Rattle.driver_run.specs.Reports.{IfDone, refusal, IsAccepted, TellsTask, Tells, Completes, task_in}
use Rattle.driver_run.specs.Leaves.{LeavesPlans}

-- What a run on these words was, by what the folder tells before and now, what the clock answered, and how it ended.
pub record IsRun (words : List (List ℕ)) (before now : Told) (last_before last_now : ℕ) (answers_before answers_now : Option (List ℕ)) (ended : Ended) : Type 0 where
  -- words that aren't accepted are refused, with no other cause, and others are accepted, whatever the folder tells
  pub refused : (fault : WordsFault) → line_of words ≡ Err fault → (ended ≡ Done (refusal (Words fault))) × (now ≡ before)
  pub no_config : (bad : ConfBad) → request_of words ≡ Err (Config bad) → IfDone ended (λ report. report ≡ refusal (Config bad)) × (now ≡ before)
  pub accepted : (request : Request) → request_of words ≡ Ok request → IfDone ended (λ report. IsAccepted report.why)
  -- the report tells what the named file held
  pub request : (request : Request) → request_of words ≡ Ok request → WhereTold before (λ files. IfDone ended (λ report. TellsTask (get files request.task) report.task report.why))
  -- where that is the text of a task, and no call failed, the run comes to its end
  pub finishes : (request : Request) → request_of words ≡ Ok request → WhereTold before (λ files. IfDone ended (λ report.
      (bytes : List ℕ) (parts : Parts) → get files request.task ≡ Some bytes → task_in bytes ≡ Ok parts → report.why ≢ Fault → IsRunToEnd report.why))
  -- the plans are numbered where plan after plan is looked for
  pub many : (request : Request) → request_of words ≡ Ok request → IfDone ended (λ report. report.many ≡ is_many request.aim.chosen)
  -- each kept plan is a plan of the task, with its cost, and they are cheaper and cheaper, whatever ended the run
  pub plans : (request : Request) → request_of words ≡ Ok request → IfDone ended (λ report. KeepsPlans report.task request.aim.bound report.kept)
  -- Where no call failed, the folder holds just the plans. Where memory was wanting, nothing is said of the family here.
  pub files : (request : Request) → request_of words ≡ Ok request → IfDone ended (λ report. report.why ≢ Fault → Leaves before now (LeavesPlans report.task report.many report.kept))
  -- The report tells the turns of a run: the lists of plans, candidates and ends; the events, which are legal, with what was kept and the
  -- code; how each search went and ended, and what that shows. The clock is asked as the run begins and as each turn does.
  pub told : (request : Request) → request_of words ≡ Ok request → IfDone ended (λ report. (turns : Turns)
      × Tells request.aim report.task report turns × AsksClock last_before last_now answers_before answers_now report turns)
  -- without a bound, where its first phase has room, and unless a call of the folder failed, it finds a plan or that there is none
  pub complete : (request : Request) → request_of words ≡ Ok request → IfDone ended (λ report. Completes request.aim report.task report)
  -- the code is a function of what the report tells
  pub code : IfDone ended (λ report. report.code ≡ code_of report.why report.kept report.ends)
  -- a fault comes only from a call that failed
  pub fault : IfDone ended (λ report. report.why ≡ Fault → Rose before.faults now.faults)
  -- whatever ended the run, names outside the family and base.part hold what they held
  pub outside : Leaves before now (SameOutside base_name)
  -- no child was started, what the host tells it still tells, and it runs as many children as before
  pub stays : Stays before now
