-- What a phase of a configuration asks of its search, and what the search answers.
use Rattle.std.specs.Prelude.{ℕ, nat_lt, length, Option}
use Rattle.sas_task.specs.declared.contents.Parts.{Parts}
use Rattle.conf_text.specs.declared.config.Phase.{Phase}
use Rattle.lm_graph.specs.Graphs.{Content as LandmarkGraph}
use Rattle.phase_guide.specs.Fits.{Fits}
use Rattle.search_log.specs.declared.setting.Setting.{Setting}
use Rattle.search_log.specs.declared.setting.Stop.{Stop}
use Rattle.search_log.specs.Phases.{Phase as SearchPhase}
use Rattle.lazy_search.specs.declared.end.SearchEnd.{SearchEnd}
use Rattle.lazy_search.specs.Ends.{EndHolds, phase_by}

-- what a phase asks, under a bound on the cost of plans, and with a moment to stop at, if there are such
abbrev pub asked : Phase → Option ℕ → Option Stop → Setting
asked phase bound stop = record {
  cost = phase.cost;
  weight = phase.weight;
  reopen = phase.reopen;
  boost = phase.boost;
  bound = bound;
  most_pops = phase.most_pops;
  most_states = phase.most_states;
  stop = stop;
}

-- the phase as its log sees it
abbrev pub search_phase : Parts → Phase → Option ℕ → Option Stop → SearchPhase
search_phase parts phase bound stop = phase_by parts (asked phase bound stop) (length phase.guides) (nat_lt 0 (length phase.preferred))

-- The search of a phase ended so, guided by the phase's guides, by one graph of landmarks.
pub record IsSearched (parts : Parts) (phase : Phase) (bound : Option ℕ) (stop : Option Stop) (end : SearchEnd) : Type 0 where
  pub graph : LandmarkGraph
  pub holds : EndHolds (search_phase parts phase bound stop) (Fits parts phase graph) end
