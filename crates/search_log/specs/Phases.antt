-- A phase of a search: what it is asked, how it counts costs, and which lists it has.
use Rattle.std.specs.Prelude.{ℕ, ◌*◌, ◌/◌, ◌%◌, ◌<◌, ◌≤◌, Bool, true, ◌&&◌, ◌==◌, nat_lt, if◌then◌else◌, Option, Some, None, IfSome}
use Rattle.sas_task.specs.declared.contents.Parts.{Parts}
use Rattle.sas_task.specs.WellFormed.{IsWellFormed}
use Rattle.sas_task.specs.Costs as costs
use Rattle.search_log.specs.declared.setting.Setting.{Setting}

pub record Phase : Type 0 where
  pub parts : Parts  -- the task
  pub setting : Setting
  pub guides : ℕ  -- how many guides there are
  pub preferring : Bool  -- whether some guide is preferred

-- what a phase may be asked
pub record IsSetting (setting : Setting) : Type 0 where
  pub bound : IfSome setting.bound (λ b. 0 < b)
  pub weight : IfSome setting.weight (λ w. (0 < w) × (w ≤ 1000))
  pub boost : setting.boost ≤ 1000000
  pub pops : setting.most_pops ≤ 1099511627776
  pub some_state : 0 < setting.most_states
  pub few_states : setting.most_states ≤ 2147483647

-- a task, one to three guides, and what a phase may be asked
pub record IsPhase (phase : Phase) : Type 0 where
  pub task : IsWellFormed phase.parts
  pub some_guide : 0 < phase.guides
  pub few_guides : phase.guides ≤ 3
  pub setting : IsSetting phase.setting

-- an operator's cost by the phase's kind of cost
abbrev pub adjusted_cost : Phase → ℕ → ℕ
adjusted_cost phase op = costs.adjusted_cost phase.parts op phase.setting.cost

-- Where some guide is preferred, guide j has list 2j for all entries and list 2j + 1 for preferred ones; else it has list j.
abbrev pub lists_of : Phase → ℕ
lists_of phase = if phase.preferring then 2 * phase.guides else phase.guides

abbrev pub guide_of : Phase → ℕ → ℕ
guide_of phase k = if phase.preferring then k / 2 else k

abbrev pub is_for_preferred : Phase → ℕ → Bool
is_for_preferred phase k = phase.preferring && (k % 2 == 1)
