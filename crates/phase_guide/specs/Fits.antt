-- Which answers of a phase's guide fit which path.
use Rattle.std.specs.Prelude.{◌≡◌, ℕ, List, [], ◌∷◌, Bool, true, false, ◌⊎◌, filter, map}
use Rattle.std.specs.List.{list_any}
use Rattle.lama_num.specs.declared.estimates.Estimate.TheVariants.{Finite}
use Rattle.sas_task.specs.declared.contents.CostKind.{CostKind}
use Rattle.sas_task.specs.declared.contents.Parts.{Parts}
use Rattle.relaxed_task.specs.Reached.{IsDead}
use Rattle.h_add.specs.Values.{IsValueOfGoals}
use Rattle.h_ff.specs.RelaxedPlans.{HasPlan}
use Rattle.conf_text.specs.Grammar.{has_guide}
use Rattle.conf_text.specs.declared.config.GuideKind.{GuideKind}
use Rattle.conf_text.specs.declared.config.GuideKind.TheVariants.{Add, Ff, Lm}
use Rattle.conf_text.specs.declared.config.Phase.{Phase}
use Rattle.lm_graph.specs.Graphs.{Content}
use Rattle.lm_status.specs.Accepted.{accepted}
use Rattle.lm_status.specs.Estimates.{landmark_estimate, weight_of}
use Rattle.lm_status.specs.Preferred.{leads_on}
use Rattle.guide.specs.declared.seen.Seen.{Seen}
use Rattle.guide.specs.Operators.{applicable_operators, is_among}
use Rattle.phase_guide.specs.Kinds.{is_relaxing, three_of}
use Rattle.phase_guide.specs.Landmarks.{IsLandmarkGraph}

-- What guides find of a state: the estimate of each, and a relaxed plan with those of its operators that are applicable.
pub record Found : Type 0 where
  pub values : GuideKind → ℕ
  pub plan : List ℕ
  pub helpful : List ℕ

-- What a guide finds of a state at the end of a path, by the landmarks that are accepted along it: the additive estimate, what a relaxed
-- plan costs, or the landmark estimate.
abbrev pub Finds : Parts → CostKind → Content → (ℕ → Bool) → List ℕ → Found → GuideKind → Type 0
Finds parts kind graph taken state found Add = IsValueOfGoals parts kind state (Finite (found.values Add))
Finds parts kind graph taken state found Ff = HasPlan parts kind state (found.values Ff) found.plan found.helpful
Finds parts kind graph taken state found Lm = found.values Lm ≡ landmark_estimate graph (map (weight_of parts kind) graph.nodes) taken state

-- whether a guide prefers an operator there
abbrev pub prefers : Parts → Content → (ℕ → Bool) → List ℕ → Found → ℕ → GuideKind → Bool
prefers parts graph taken state found op Add = false
prefers parts graph taken state found op Ff = is_among found.helpful op
prefers parts graph taken state found op Lm = leads_on parts graph taken state op

-- The answer for a state that isn't dead, as far as the phase's guides find that: the estimates of the guides in their order, and the
-- applicable operators that some preferred guide prefers.
pub record SaysAlive (parts : Parts) (phase : Phase) (graph : Content) (taken : ℕ → Bool) (state : List ℕ) (seen : Seen) : Type 0 where
  pub alive : is_relaxing phase ≡ true → IsDead parts state → ⊥
  pub found : Found
  pub finds : (guide : GuideKind) → has_guide phase.guides guide ≡ true → Finds parts phase.estimate graph taken state found guide
  pub dead : seen.dead ≡ false
  pub estimates : seen.estimates ≡ three_of (map found.values phase.guides)
  pub preferred : seen.preferred ≡ filter (λ op. list_any (prefers parts graph taken state found op) phase.preferred) (applicable_operators parts state)

-- The answer for a dead state, where a guide of the phase goes by the relaxation.
pub record SaysDead (parts : Parts) (phase : Phase) (state : List ℕ) (seen : Seen) : Type 0 where
  pub relaxing : is_relaxing phase ≡ true
  pub is_dead : IsDead parts state
  pub dead : seen.dead ≡ true
  pub estimates : seen.estimates ≡ 0 ∷ 0 ∷ 0 ∷ []
  pub preferred : seen.preferred ≡ []

abbrev pub Answers : Parts → Phase → Content → (ℕ → Bool) → List ℕ → Seen → Type 0
Answers parts phase graph taken state seen = SaysDead parts phase state seen ⊎ SaysAlive parts phase graph taken state seen

-- the last of a list of states
abbrev pub last_of : List (List ℕ) → List ℕ
last_of [] = []
last_of (state ∷ []) = state
last_of (state ∷ other ∷ states) = last_of (other ∷ states)

-- An answer fits a path, given as its states, by a graph of landmarks: it speaks of the last state.
pub record Fits (parts : Parts) (phase : Phase) (graph : Content) (states : List (List ℕ)) (seen : Seen) : Type 0 where
  pub landmarks : has_guide phase.guides Lm ≡ true → IsLandmarkGraph parts graph
  pub answer : Answers parts phase graph (accepted graph states) (last_of states) seen
