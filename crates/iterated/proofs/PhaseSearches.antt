-- What the search of a phase owes, and what it answers.
use Rattle.std.proofs.Common.{◌≡◌, ℕ, Option, length, subst}
use Rattle.std.specs.Prelude.{nat_lt}
use Rattle.sas_task.specs.declared.contents.Parts.{Parts}
use Rattle.conf_text.specs.declared.config.Phase.{Phase}
use Rattle.lm_graph.specs.Graphs.{Content as LandmarkGraph}
use Rattle.phase_guide.specs.Fits.{Fits}
use Rattle.search_log.specs.declared.setting.Setting.{Setting}
use Rattle.search_log.specs.declared.setting.Stop.{Stop}
use Rattle.lazy_search.specs.declared.end.SearchEnd.{SearchEnd}
use Rattle.lazy_search.specs.Ends.{EndHolds, phase_by}
use Rattle.iterated.specs.Searches.{asked, IsSearched}

-- A search by the guide of the phase is one of the phase.
pub searched_so : (parts : Parts) (own phase : Phase) (bound : Option ℕ) (stop : Option Stop) (setting : Setting) (graph : LandmarkGraph) (end : SearchEnd) → own ≡ phase → setting ≡ asked phase bound stop →
    EndHolds (phase_by parts setting (length own.guides) (nat_lt 0 (length own.preferred))) (Fits parts own graph) end → IsSearched parts phase bound stop end
searched_so parts own phase bound stop setting graph end is same holds = record {
  graph = graph;
  holds = subst (λ (p : Phase). EndHolds (phase_by parts (asked phase bound stop) (length p.guides) (nat_lt 0 (length p.preferred))) (Fits parts p graph) end) is (
      subst (λ (s : Setting). EndHolds (phase_by parts s (length own.guides) (nat_lt 0 (length own.preferred))) (Fits parts own graph) end) same holds
      );
}
