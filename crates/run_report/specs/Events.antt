-- A run as a list of events, and its exit code.
use Rattle.std.specs.Prelude.{◌≡◌, ◌≢◌, ℕ, nat_lt, true, List, [], ◌∷◌, ◌++◌, length, map, take, None}
use Rattle.sas_task.specs.declared.plans.Kept.{Kept}
use Rattle.sas_reader.specs.declared.faults.SasFault.{SasFault}
use Rattle.sas_reader.specs.declared.faults.SasFault.TheVariants as fault
use Rattle.exit_codes.specs.declared.parts.Part.{Part}
use Rattle.exit_codes.specs.declared.parts.Part.TheVariants as part
use Rattle.exit_codes.specs.Parts.{codes_of}
use Rattle.exit_codes.specs.Combined.{combine_of}
use Rattle.driver_core.specs.declared.settings.Setting.{Setting}
use Rattle.driver_core.specs.Settings.{entries}
use Rattle.driver_core.specs.Keeping.{kept_costs}
use Rattle.driver_core.specs.Running.{is_over_after}
use Rattle.driver_core.specs.Legal.{IsLegal}
use Rattle.run_report.specs.declared.report.EntryEnd.{EntryEnd}
use Rattle.run_report.specs.declared.report.Why.{Why}
use Rattle.run_report.specs.declared.report.Why.TheVariants as why
use Rattle.run_report.specs.declared.report.Report.{Report}
use Rattle.run_report.specs.Turns.{BegunTurn, part_of}
use Rattle.run_report.specs.Tells.{Turns, all_begun, events_of}
use Rattle.lama_num.specs.declared.names.TheConstants.{MOST_PLANS}

-- the run came to its end, with no fault and nothing refused
abbrev pub IsRunToEnd : Why → Type 0
IsRunToEnd why.Finished = Unit {0}
IsRunToEnd why.PlanLimit = Unit {0}
IsRunToEnd (why.Words fault) = ⊥
IsRunToEnd (why.Config bad) = ⊥
IsRunToEnd (why.NoFile input) = ⊥
IsRunToEnd (why.Task fault) = ⊥
IsRunToEnd why.Fault = ⊥

-- the code of a run that came to its end, by how its entries ended and whether it kept as many plans as can be numbered
abbrev pub ended_code : List Part → List Kept → List EntryEnd → ℕ
ended_code limits kept ends = combine_of (codes_of (map (λ (end : EntryEnd). part_of end.outcome) ends ++ limits)) (nat_lt 0 (length kept))

-- a quantity above its limit, or a derived variable that isn't binary, is what this planner doesn't support
abbrev pub task_code : SasFault → ℕ
task_code (fault.TooLarge what count) = 34
task_code (fault.WideDerived var) = 34
task_code _ = 33

-- The exit code: a function of why the run ended, what it kept and how its entries ended.
abbrev pub code_of : Why → List Kept → List EntryEnd → ℕ
code_of why.Finished kept ends = ended_code [] kept ends
code_of why.PlanLimit kept ends = ended_code (part.PlanLimit ∷ []) kept ends
code_of (why.Words fault) kept ends = 36
code_of (why.Config bad) kept ends = 36
code_of (why.NoFile input) kept ends = 36
code_of (why.Task fault) kept ends = task_code fault
code_of why.Fault kept ends = 35

-- the turns are those of the entries of the one round, from the first on, with no gap
abbrev pub AreInOrder : Setting → List BegunTurn → Type 0
AreInOrder setting begun =
    (map (λ (turn : BegunTurn). turn.turn.entry) begun ≡ take (length begun) (entries setting))
    × (map (λ (turn : BegunTurn). turn.turn.round) begun ≡ map (λ (turn : BegunTurn). 1) begun)

-- The turns are in order. Their events are legal, and what is kept of the candidates are the kept plans. Where the run finished it is over,
-- and no turn is on. It ends at the limit of plans exactly where so many are kept.
pub record TellsEvents (setting : Setting) (report : Report) (turns : Turns) : Type 0 where
  pub start : setting.start ≡ report.start
  pub order : AreInOrder setting (all_begun turns)
  pub legal : IsLegal setting (events_of turns)
  pub kept : kept_costs setting (events_of turns) ≡ map (λ (plan : Kept). plan.cost) report.kept
  pub over : report.why ≡ why.Finished → is_over_after setting (events_of turns) ≡ true
  pub ended : report.why ≢ why.Fault → turns.present ≡ None
  pub full : report.why ≡ why.PlanLimit → length report.kept ≡ MOST_PLANS
  pub below : report.why ≡ why.Finished → length report.kept ≢ MOST_PLANS
  pub code : report.code ≡ code_of report.why report.kept report.ends
