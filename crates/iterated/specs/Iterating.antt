-- What contracts see of the phases of a configuration.
use Rattle.std.specs.Prelude.{◌≢◌, ℕ, Option, None}
use Rattle.sas_task.specs.declared.contents.Parts.{Parts}
use Rattle.conf_text.specs.declared.config.Config.{Config}
use Rattle.phase_guide.specs.Guides.{Guiding, IsFor as GuideIsFor}

-- The configuration, the place of the phase that is next, if one is, and the guide of the phase before.
pub record Iterating : Type 0 where
  pub config : Config
  pub next : Option ℕ
  pub guide : Guiding

-- they are phases of a task, as long as one is next
abbrev pub IsFor : Iterating → Parts → Type 0
IsFor phases parts = phases.next ≢ None → GuideIsFor phases.guide parts
