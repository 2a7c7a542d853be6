-- A phase as its log sees it.
use Rattle.sas_task.specs.declared.contents.Parts.{Parts}
use Rattle.search_log.specs.declared.setting.Setting.{Setting}
use Rattle.search_log.specs.Phases.{Phase}
use Rattle.lazy_search.specs.declared.shape.Shape.{Shape}

abbrev pub phase_of : Parts → Setting → Shape → Phase
phase_of parts setting shape = record { parts = parts; setting = setting; guides = shape.guides; preferring = shape.preferring }
