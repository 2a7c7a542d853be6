-- What the relaxation of a task reaches, by rounds, and dead states.
use Rattle.std.specs.Prelude.{◌≡◌, ℕ, List, [], ◌++◌, Bool, false, ◌&&◌, ◌||◌, slice_get, Some, IsTrue}
use Rattle.std.specs.List.{list_all, list_any}
use Rattle.sas_task.specs.Facts.{same_fact}
use Rattle.sas_task.specs.declared.contents.Fact.{Fact}
use Rattle.sas_task.specs.declared.contents.Effect.{Effect}
use Rattle.sas_task.specs.declared.contents.Operator.{Operator}
use Rattle.sas_task.specs.declared.contents.Rule.{Rule}
use Rattle.sas_task.specs.declared.contents.Parts.{Parts}
use Rattle.relaxed_task.specs.Facts.{over_facts, start_facts}
use Rattle.relaxed_task.specs.Relaxing.{has, in_round}

-- the effect gives the fact, where the operator's conditions and its own are reached
abbrev pub effect_gives : (Fact → Bool) → Fact → Operator → Effect → Bool
effect_gives reached fact operator effect = same_fact effect.fact fact && list_all reached (operator.pre ++ effect.conds)

abbrev pub rule_gives : (Fact → Bool) → Fact → Rule → Bool
rule_gives reached fact rule = same_fact rule.head fact && list_all reached rule.conds

-- given by an effect or a rule whose conditions are reached
abbrev pub is_given : Parts → (Fact → Bool) → Fact → Bool
is_given parts reached fact = list_any (λ o. list_any (effect_gives reached fact o) o.effects) parts.operators || list_any (rule_gives reached fact) parts.rules

-- in a round from a state without some facts
abbrev pub is_reached_in : Parts → List ℕ → List Fact → ℕ → Fact → Bool
is_reached_in parts state without = in_round (is_given parts) (has over_facts (start_facts parts state)) (has over_facts without)

-- in some round
pub record IsReached (parts : Parts) (state : List ℕ) (without : List Fact) (fact : Fact) : Type 0 where
  pub round : ℕ
  pub reached : IsTrue (is_reached_in parts state without round fact)

-- some goal fact is in no round, with nothing left out
pub record IsDead (parts : Parts) (state : List ℕ) : Type 0 where
  pub place : ℕ
  pub goal : Fact
  pub at : slice_get parts.goal place ≡ Some goal
  pub unreached : (n : ℕ) → is_reached_in parts state [] n goal ≡ false
