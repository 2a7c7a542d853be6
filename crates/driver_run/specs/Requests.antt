-- What the words of a run ask for.
use Rattle.std.specs.Prelude.{◌≡◌, ℕ, ◌∷◌, [], List, Bool, true, false, Option, None, Result, Ok, Err}
use Rattle.sas_task.specs.declared.contents.Parts.{Parts}
use Rattle.sas_task.specs.Costs.{is_unit_cost}
use Rattle.driver_core.specs.declared.settings.Setting.{Setting}
use Rattle.conf_text.specs.declared.config.Config.{Config}
use Rattle.conf_text.specs.declared.faults.ConfBad.{ConfBad}
use Rattle.conf_text.specs.Accepted.{IsConfig}
use Rattle.conf_text.specs.AliasConfigs.{lama, lama_first}
use Rattle.conf_text.specs.Grammar.{config_of}
use Rattle.conf_text.specs.declared.alias_names.AliasName.TheVariants.{Lama, LamaFirst}
use Rattle.run_report.specs.declared.report.Why.{Why}
use Rattle.run_report.specs.declared.report.Why.TheVariants as why
use Rattle.run_report.specs.declared.report.WordsFault.{WordsFault}
use Rattle.run_report.specs.Searches.{Run}
use Rattle.driver_run.specs.declared.aims.Chosen.{Chosen}
use Rattle.driver_run.specs.declared.aims.Chosen.TheVariants as chosen
use Rattle.driver_run.specs.declared.aims.Aim.{Aim}
use Rattle.driver_run.specs.Words.{Work, Line, Alias, Search, line_of}

-- the task's name, and what the run searches by
pub record Request : Type 0 where
  pub task : List ℕ
  pub aim : Aim

-- what a line asks for, with its configuration read
abbrev pub chosen_of : Work → Result Chosen ConfBad
chosen_of (Alias name) = Ok (chosen.Alias name)
chosen_of (Search text) = by_text (config_of text)
  where
    by_text : Result Config ConfBad → Result Chosen ConfBad
    by_text (Ok config) = Ok (chosen.Search config)
    by_text (Err bad) = Err bad

abbrev pub request_by : Line → Result Chosen ConfBad → Result Request Why
request_by line (Ok chosen) = Ok (record { task = line.task; aim = record { chosen = chosen; bound = line.bound } })
request_by line (Err bad) = Err (why.Config bad)

abbrev pub request_in : Result Line WordsFault → Result Request Why
request_in (Ok line) = request_by line (chosen_of line.work)
request_in (Err fault) = Err (why.Words fault)

-- What the words ask for: a line, whose configuration is one where it has a text for it; or why they are refused.
abbrev pub request_of : List (List ℕ) → Result Request Why
request_of words = request_in (line_of words)

-- the configuration for a task, by whether its operators all cost 1
abbrev pub config_for : Chosen → Bool → Config
config_for (chosen.Alias Lama) unit_cost = lama unit_cost
config_for (chosen.Alias LamaFirst) unit_cost = lama_first
config_for (chosen.Search config) unit_cost = config

-- the plans are numbered, since plan after plan is looked for
abbrev pub is_many : Chosen → Bool
is_many (chosen.Alias Lama) = true
is_many (chosen.Alias LamaFirst) = false
is_many (chosen.Search config) = config.iterated

-- its configuration is within the limits
abbrev pub IsChosen : Chosen → Type 0
IsChosen (chosen.Alias name) = Unit {0}
IsChosen (chosen.Search config) = IsConfig config

-- one entry, one round, no limit of time, and the bound that is asked for
abbrev pub setting_of : Option ℕ → ℕ → Setting
setting_of bound start = record { shares = 1 ∷ []; start = start; limit = None; bound = bound; single = false; rounds = false }

abbrev pub config_of_task : Aim → Parts → Config
config_of_task aim parts = config_for aim.chosen (is_unit_cost parts)

-- what the turns of the run go by, for a task
abbrev pub run_of : Parts → Aim → ℕ → Run
run_of parts aim start = record { parts = parts; setting = setting_of aim.bound start; config_of = λ entry. config_of_task aim parts }
