-- What is left of a run at its end, and what it asked of the clock.
use Rattle.std.specs.Prelude.{◌≡◌, ◌≢◌, ℕ, ◌≤◌, Bool, true, nat_eq, if◌then◌else◌, List, ◌++◌, All, Option, Some}
use Rattle.std.specs.FinMap.{get}
use Rattle.lama_host.specs.Folder.{Told, WhereTold, Rose}
use Rattle.lama_host.specs.Steps.{Leaves}
use Rattle.sas_task.specs.declared.contents.Parts.{Parts}
use Rattle.run_report.specs.declared.report.Report.{Report}
use Rattle.run_report.specs.declared.report.Why.{Why}
use Rattle.run_report.specs.declared.report.Why.TheVariants.{Finished, PlanLimit, Fault}
use Rattle.run_report.specs.Clocks.{AsksClock, StandInOrder, moments_of, has_memory}
use Rattle.run_report.specs.Events.{IsRunToEnd}
use Rattle.run_report.specs.Runs.{TellsRun}
use Rattle.run_report.specs.Searches.{Run}
use Rattle.run_report.specs.Tells.{Turns}
use Rattle.run_report.specs.Turns.{ToldTurn}
use Rattle.driver_run.specs.declared.aims.Aim.{Aim}
use Rattle.driver_run.specs.declared.running.Left.{Left}
use Rattle.driver_run.specs.Leaves.{LeavesPlans}
use Rattle.driver_run.specs.Reports.{IsRunReport, TellsTask}
use Rattle.lama_num.specs.declared.names.TheConstants.{MOST_PLANS}

-- why a run ends that came to its end, by how many plans it kept
abbrev pub end_by : ℕ → Why
end_by kept = if nat_eq kept MOST_PLANS then PlanLimit else Finished

-- the report of a run on a task
abbrev pub report_by : Parts → Bool → ℕ → Left → Report
report_by parts many start left = record {
  task = Some parts;
  many = many;
  kept = left.kept;
  candidates = left.candidates;
  ends = left.ends;
  start = start;
  why = left.why;
  code = left.code;
}

-- What was left tells these turns of a run, which came to its end, or to a fault.
pub record IsLeft (run : Run) (many : Bool) (left : Left) (turns : Turns) : Type 0 where
  pub tells : TellsRun run (report_by run.parts many run.setting.start left) turns
  pub end : left.why ≢ Fault → IsRunToEnd left.why

-- From a moment on, the clock was asked as each of these turns began; and no more, but where memory was wanting.
pub record AsksAfter (start now : ℕ) (told_before told_now : Option (List ℕ)) (turns : Turns) : Type 0 where
  pub later : start ≤ now
  pub moments : All (λ moment. (start ≤ moment) × (moment ≤ now)) (moments_of turns)
  pub answers : (all : List ℕ) → told_now ≡ Some all → (past : List ℕ) × (added : List ℕ) × (told_before ≡ Some past) × (all ≡ past ++ added)
      × StandInOrder (moments_of turns) added × (All (λ (turn : ToldTurn). has_memory turn.end.outcome ≡ true) turns.ended → added ≡ moments_of turns)

-- Some turns are told, and the clock was asked for them.
abbrev pub IsLeftSo : Run → Bool → ℕ → ℕ → Option (List ℕ) → Option (List ℕ) → Left → Type 0
IsLeftSo run many before now told_before told_now left = (turns : Turns) × IsLeft run many left turns × AsksAfter before now told_before told_now turns

-- A run on accepted words: what it tells, leaves and asked.
pub record IsRunOn (aim : Aim) (name : List ℕ) (before now : Told) (last_before last_now : ℕ) (told_before told_now : Option (List ℕ)) (report : Report) : Type 0 where
  pub turns : Turns
  pub told : IsRunReport aim report.start report turns
  pub clock : AsksClock last_before last_now told_before told_now report turns
  pub files : report.why ≢ Fault → Leaves before now (LeavesPlans report.task report.many report.kept)
  pub fault : report.why ≡ Fault → Rose before.faults now.faults
  pub task : WhereTold before (λ files. TellsTask (get files name) report.task report.why)
