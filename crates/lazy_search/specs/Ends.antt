-- What the answer of a search says.
use Rattle.std.specs.Prelude.{◌≡◌, ℕ, ◌≤◌, Bool, true, List, ◌++◌, Option, Some, None, is_some}
use Rattle.sas_task.specs.declared.contents.Parts.{Parts}
use Rattle.sas_task.specs.Runs.{IsPlanOf}
use Rattle.guide.specs.declared.seen.Seen.{Seen}
use Rattle.search_log.specs.declared.setting.Setting.{Setting}
use Rattle.search_log.specs.declared.turns.Pop.{Pop}
use Rattle.search_log.specs.Logs.{Content}
use Rattle.search_log.specs.Members.{Member}
use Rattle.search_log.specs.Phases.{Phase}
use Rattle.lama_num.specs.Bounds.{is_below}
use Rattle.search_log.specs.Places.{Node, Past, past_of}
use Rattle.search_log.specs.Lawful.{Lawful}
use Rattle.search_log.specs.Ends.{EndsInGoal, EndsExhausted, EndsAtLimit}
use Rattle.search_log.specs.Clocks.{AreAnswers, moment_of}
use Rattle.search_log.specs.Spaces.{IsExhausted, space_of, is_exact}
use Rattle.search_log.specs.Guided.{AllFit, TellsDead}
use Rattle.lazy_search.specs.declared.end.SearchEnd.{SearchEnd}
use Rattle.lazy_search.specs.declared.end.SearchEnd.TheVariants.{Plan, Unsolvable, Unsolved, Limit, NoMemory}

abbrev pub phase_by : Parts → Setting → ℕ → Bool → Phase
phase_by parts setting guides preferring = record { parts = parts; setting = setting; guides = guides; preferring = preferring }

-- what a log says came before its end
abbrev pub past_by : Phase → Content → Past
past_by phase log = past_of phase log.visits log.pops

-- The log is lawful; by the guide's meaning each answer fits the states of its visit's path; and what is called dead is.
pub record Tells (phase : Phase) (Fits : List (List ℕ) → Seen → Type 0) (log : Content) : Type 0 where
  pub lawful : Lawful phase log.visits log.pops
  pub fits : AllFit Fits (past_by phase log)
  pub dead : TellsDead phase (past_by phase log)

-- The log ends in a goal visit, whose path is a plan that costs less than the bound.
pub record EndsInPlan (phase : Phase) (ops : List ℕ) (cost : ℕ) (log : Content) : Type 0 where
  pub visit : Node
  pub goal : EndsInGoal phase (past_by phase log) visit
  pub path : ops ≡ visit.place.path
  pub plan : IsPlanOf phase.parts ops cost
  pub below : is_below phase.setting.bound cost ≡ true

-- The log ends with all lists empty, and the space is its own, and exhausted.
pub record EndsInSpace (phase : Phase) (space : List Member) (log : Content) : Type 0 where
  pub ends : EndsExhausted phase (past_by phase log)
  pub space_is : space ≡ space_of (past_by phase log)
  pub exhausted : IsExhausted phase.parts space phase.setting.bound (is_exact phase)

-- An end comes just where the log ends so.
abbrev pub EndsSo : Phase → Content → SearchEnd → Type 0
EndsSo phase whole (Plan ops cost log) = (log ≡ whole) × EndsInPlan phase ops cost whole
EndsSo phase whole (Unsolvable space log) = (log ≡ whole) × EndsInSpace phase space whole × (phase.setting.bound ≡ None)
EndsSo phase whole (Unsolved space log) = (log ≡ whole) × EndsInSpace phase space whole × (is_some phase.setting.bound ≡ true)
EndsSo phase whole (Limit hit log) = (log ≡ whole) × EndsAtLimit phase (past_by phase whole) hit
EndsSo phase whole NoMemory = ⊥

-- Each end comes just where the log ends so.
abbrev pub EndHolds : Phase → (List (List ℕ) → Seen → Type 0) → SearchEnd → Type 0
EndHolds phase Fits (Plan ops cost log) = Tells phase Fits log × EndsInPlan phase ops cost log
EndHolds phase Fits (Unsolvable space log) = Tells phase Fits log × EndsInSpace phase space log × (phase.setting.bound ≡ None)
EndHolds phase Fits (Unsolved space log) = Tells phase Fits log × EndsInSpace phase space log × (is_some phase.setting.bound ≡ true)
EndHolds phase Fits (Limit hit log) = Tells phase Fits log × EndsAtLimit phase (past_by phase log) hit
EndHolds phase Fits NoMemory = Unit {0}

-- What a clock tells afterwards are its answers before, and those that a log wants.
pub record IsAnswered (phase : Phase) (pops : List Pop) (moment : Option ℕ) (before after : Option (List ℕ)) : Type 0 where
  pub answered : (told : List ℕ) → after ≡ Some told → (earlier : List ℕ) × (answers : List ℕ) ×
      (before ≡ Some earlier) × (told ≡ earlier ++ answers) × AreAnswers phase pops moment answers

-- The clock was asked as the log says; a moment that ended the search is its last answer.
abbrev pub ClockHolds : Phase → Option (List ℕ) → Option (List ℕ) → SearchEnd → Type 0
ClockHolds phase before after (Plan ops cost log) = IsAnswered phase log.pops None before after
ClockHolds phase before after (Unsolvable space log) = IsAnswered phase log.pops None before after
ClockHolds phase before after (Unsolved space log) = IsAnswered phase log.pops None before after
ClockHolds phase before after (Limit hit log) = IsAnswered phase log.pops (moment_of hit) before after
ClockHolds phase before after NoMemory = Unit {0}

-- The clock tells its answers only where it told them before, and those stand in front.
pub record TellsOn (before after : Option (List ℕ)) : Type 0 where
  pub front : (told : List ℕ) → after ≡ Some told → (earlier : List ℕ) × (answers : List ℕ) × (before ≡ Some earlier) × (told ≡ earlier ++ answers)

-- the moment that ended a search, if time did
abbrev pub moment_by : SearchEnd → Option ℕ
moment_by (Plan ops cost log) = None
moment_by (Unsolvable space log) = None
moment_by (Unsolved space log) = None
moment_by (Limit hit log) = moment_of hit
moment_by NoMemory = None

-- a moment lies between two answers of the clock
abbrev pub IsBetween : ℕ → ℕ → Option ℕ → Type 0
IsBetween before after None = Unit {0}
IsBetween before after (Some moment) = (before ≤ moment) × (moment ≤ after)
