-- What a phase takes over from the one before.
use Rattle.std.proofs.Common.{◌≡◌, ◌∙◌, sym, ap, subst, true, map}
use Rattle.sas_task.specs.declared.contents.Parts.{Parts}
use Rattle.conf_text.specs.Grammar.{has_guide}
use Rattle.conf_text.specs.declared.config.GuideKind.TheVariants.{Lm}
use Rattle.conf_text.specs.declared.config.Phase.{Phase}
use Rattle.lm_graph.specs.Graphs.{Content}
use Rattle.lm_status.specs.Estimates.{weight_of}
use Rattle.lm_status.specs.Statuses.{Charted, IsStatusOf}
use Rattle.phase_guide.specs.Landmarks.{IsLandmarkGraph, AreLandmarksFor}

-- the graph of the phase before, with the weights of a phase, which has no landmarks if that one had none
pub landmarks_after : (parts : Parts) (phase had : Phase) (status next : Charted) → AreLandmarksFor parts had status →
    (has_guide phase.guides Lm ≡ true → has_guide had.guides Lm ≡ true) → IsStatusOf parts status.graph phase.estimate next → AreLandmarksFor parts phase next
landmarks_after parts phase had status next for has of = record {
  graph = λ is. subst (IsLandmarkGraph parts) (sym of.graph) (for.graph (has is));
  weights = of.weights ∙ ap (λ (graph : Content). map (weight_of parts phase.estimate) graph.nodes) (sym of.graph);
}
