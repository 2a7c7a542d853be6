-- Possible first achievers, as they are found.
use Rattle.std.specs.Prelude.{◌≡◌, ℕ, ◌<◌, List, ◌⊎◌, true}
use Rattle.sas_task.specs.Runs.{start_of}
use Rattle.sas_task.specs.declared.contents.CostKind.TheVariants.{One}
use Rattle.sas_task.specs.declared.contents.Effect.{Effect}
use Rattle.sas_task.specs.declared.contents.Fact.{Fact}
use Rattle.sas_task.specs.declared.contents.Operator.{Operator}
use Rattle.sas_task.specs.declared.contents.Parts.{Parts}
use Rattle.relaxed_task.specs.Numbers.{is_among}
use Rattle.relaxed_task.specs.Reached.{IsReached}
use Rattle.relaxed_task.specs.Relaxations.{IsRelaxed}
use Rattle.h_add.specs.Values.{Evaluator, IsEvaluated}
use Rattle.lm_backchain.specs.Backchain.{has, conditions_of, Among, IsPossibleFirst}

-- the initial state was evaluated without the node's facts
pub record Knows (parts : Parts) (node : List Fact) (add : Evaluator) : Type 0 where
  pub relaxed : IsRelaxed parts One add.relaxed
  pub evaluated : IsEvaluated parts One (start_of parts) node add.costs

-- all are reached without the node's facts
abbrev pub AreReached : Parts → List Fact → List Fact → Type 0
AreReached parts node facts = (fact : Fact) → has facts fact ≡ true → IsReached parts (start_of parts) node fact

-- the effect gives one of the node's facts, and all conditions are reached without them
pub record Achieves (parts : Parts) (node : List Fact) (operator : Operator) (effect : Effect) : Type 0 where
  pub gives : has node effect.fact ≡ true
  pub reached : AreReached parts node (conditions_of operator effect)

-- it is an effect of one of some operators, or of another before a place
abbrev pub IsIn : List ℕ → ℕ → ℕ → ℕ → ℕ → Type 0
IsIn done end_op end_place op place = (is_among done op ≡ true) ⊎ ((op ≡ end_op) × (place < end_place))

-- the conditions of the possible first achievers among these
pub record HasFirsts (parts : Parts) (node : List Fact) (done : List ℕ) (op place : ℕ) (lists : List (List Fact)) : Type 0 where
  pub each : (conds : List Fact) → Among lists conds → IsPossibleFirst parts node conds
  pub all : (conds : List Fact) (first : IsPossibleFirst parts node conds) → IsIn done op place first.op first.place → Among lists conds

-- the conditions of all
pub record AreFirsts (parts : Parts) (node : List Fact) (lists : List (List Fact)) : Type 0 where
  pub each : (conds : List Fact) → Among lists conds → IsPossibleFirst parts node conds
  pub all : (conds : List Fact) → IsPossibleFirst parts node conds → Among lists conds
