-- What the report of a run tells, and what a run keeps from turn to turn.
use Rattle.std.specs.Prelude.{◌≡◌, List, [], map}
use Rattle.sas_task.specs.declared.plans.Kept.{Kept}
use Rattle.candidates.specs.declared.offers.Candidate.{Candidate}
use Rattle.driver_core.specs.Keeping.{kept_costs}
use Rattle.driver_core.specs.Standing.{StandsFor}
use Rattle.driver_core.specs.States.{CoreState}
use Rattle.run_report.specs.declared.report.EntryEnd.{EntryEnd}
use Rattle.run_report.specs.declared.report.Report.{Report}
use Rattle.run_report.specs.Turns.{EachTurn}
use Rattle.run_report.specs.Tells.{Turns, AreOfTurns, TellsTurns, all_begun, events_of}
use Rattle.run_report.specs.Plans.{ArePlans}
use Rattle.run_report.specs.Searches.{Run, EndsAs}
use Rattle.run_report.specs.Events.{AreInOrder, TellsEvents, IsRunToEnd, code_of}

-- Its lists are those of these turns, whose events are those of a run; each turn ended as its search did; and the kept plans are plans, each
-- cheaper than the one before.
pub record TellsRun (run : Run) (report : Report) (turns : Turns) : Type 0 where
  pub lists : TellsTurns report turns
  pub events : TellsEvents run.setting report turns
  pub ends : EachTurn (EndsAs run) [] turns.ended
  pub plans : ArePlans run.parts run.setting.bound report.kept

-- A report of a run that came to no task: nothing was tried, and the run didn't come to its end.
pub record TellsNothing (report : Report) : Type 0 where
  pub kept : report.kept ≡ []
  pub candidates : report.candidates ≡ []
  pub ends : report.ends ≡ []
  pub refused : IsRunToEnd report.why → ⊥
  pub code : report.code ≡ code_of report.why report.kept report.ends

-- While a run is under way, the core stands for the events of its turns, and the lists are those of the turns.
pub record IsUnderWay (run : Run) (core : CoreState) (turns : Turns) (kept : List Kept) (candidates : List Candidate) (ends : List EntryEnd) : Type 0 where
  pub setting : core.setting ≡ run.setting
  pub stands : StandsFor core (events_of turns)
  pub lists : AreOfTurns turns kept candidates ends
  pub costs : kept_costs run.setting (events_of turns) ≡ map (λ (plan : Kept). plan.cost) kept
  pub order : AreInOrder run.setting (all_begun turns)
  pub ended : EachTurn (EndsAs run) [] turns.ended
  pub plans : ArePlans run.parts run.setting.bound kept
