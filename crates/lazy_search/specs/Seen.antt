-- What contracts see of a phase.
use Rattle.search_log.specs.Phases.{Phase}
use Rattle.lazy_search.specs.declared.phase.Phase.{Phase as ThePhase}
use Rattle.lazy_search.specs.Phases.{phase_of}

abbrev pub seen : ThePhase → Phase
seen phase = phase_of phase.task.now phase.setting.now phase.shape
