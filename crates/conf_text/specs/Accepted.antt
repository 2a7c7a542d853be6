-- What holds of every configuration that is read.
use Rattle.std.specs.Prelude.{◌≡◌, ◌≤◌, ◌<◌, List, [], ◌∷◌, ◌++◌, length, Bool, true, false, not, ◌&&◌, All, IfSome}
use Rattle.conf_text.specs.Grammar.{has_guide, every_guide, may_prefer, most_phases, highest_weight, highest_boost, greatest_pops, greatest_states}
use Rattle.conf_text.specs.declared.config.Config.{Config}
use Rattle.conf_text.specs.declared.config.GuideKind.{GuideKind}
use Rattle.conf_text.specs.declared.config.Phase.{Phase}

-- each guide is allowed, and stands neither in front nor twice
abbrev pub each_once : List GuideKind → List GuideKind → List GuideKind → Bool
each_once allowed front [] = true
each_once allowed front (g ∷ gs) = (not (has_guide front g) && has_guide allowed g) && each_once allowed (front ++ g ∷ []) gs

-- one to three guides, some of them preferred, and numbers within their ranges
pub record IsPhase (phase : Phase) : Type 0 where
  pub some : 0 < length phase.guides
  pub guides : each_once every_guide [] phase.guides ≡ true
  pub preferred : each_once (may_prefer phase.guides) [] phase.preferred ≡ true
  pub weight : IfSome phase.weight (λ w. (1 ≤ w) × (w ≤ highest_weight))
  pub boost : phase.boost ≤ highest_boost
  pub most_pops : phase.most_pops ≤ greatest_pops
  pub most_states : (1 ≤ phase.most_states) × (phase.most_states ≤ greatest_states)

-- one to a hundred phases; without `iterated` there is one, and nothing is repeated
pub record IsConfig (config : Config) : Type 0 where
  pub phases : All IsPhase config.phases
  pub some : 0 < length config.phases
  pub few : length config.phases ≤ most_phases
  pub single : config.iterated ≡ false → (length config.phases ≡ 1) × (config.repeat_last ≡ false)
