-- The graph of landmarks of a phase.
use Rattle.std.specs.Prelude.{◌≡◌, true, map}
use Rattle.sas_task.specs.declared.contents.Parts.{Parts}
use Rattle.conf_text.specs.Grammar.{has_guide}
use Rattle.conf_text.specs.declared.config.GuideKind.TheVariants.{Lm}
use Rattle.conf_text.specs.declared.config.Phase.{Phase}
use Rattle.lm_graph.specs.Graphs.{Content}
use Rattle.lm_backchain.specs.Backchain.{Backchain}
use Rattle.lm_orders.specs.Reasonable.{AddsReasonable}
use Rattle.lm_status.specs.Estimates.{weight_of}
use Rattle.lm_status.specs.Statuses.{Charted}

-- a graph by backchaining, with its reasonable orders added
pub record IsLandmarkGraph (parts : Parts) (graph : Content) : Type 0 where
  pub backchained : Content
  pub backchain : Backchain parts backchained
  pub reasonable : AddsReasonable parts backchained graph

-- such a graph, where the phase goes by landmarks, with the weights of the phase's estimates
pub record AreLandmarksFor (parts : Parts) (phase : Phase) (status : Charted) : Type 0 where
  pub graph : has_guide phase.guides Lm ≡ true → IsLandmarkGraph parts status.graph
  pub weights : status.weights ≡ map (weight_of parts phase.estimate) status.graph.nodes
