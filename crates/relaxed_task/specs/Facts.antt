-- Facts of a task, and the unary operators over them: each effect and each rule with all its conditions.
use Rattle.std.specs.Prelude.{◌≡◌, ℕ, List, ◌++◌, map, filter, true, Option, Some, None}
use Rattle.std.specs.List.{enumerate_from, flat_map}
use Rattle.std.proofs.lemmas.Bool.{eqb-true, eq-eqb, and_from, and_parts}
use Rattle.std.proofs.Common.{refl}
use Rattle.sas_task.specs.Costs.{adjusted_cost}
use Rattle.sas_task.specs.Facts.{same_fact}
use Rattle.sas_task.specs.WellFormed.{is_derived}
use Rattle.sas_task.specs.declared.contents.CostKind.{CostKind}
use Rattle.sas_task.specs.declared.contents.Effect.{Effect}
use Rattle.sas_task.specs.declared.contents.Fact.{Fact}
use Rattle.sas_task.specs.declared.contents.Operator.{Operator}
use Rattle.sas_task.specs.declared.contents.Parts.{Parts}
use Rattle.sas_task.specs.declared.contents.Rule.{Rule}
use Rattle.relaxed_task.specs.Relaxing.{UnaryOver, each_once}
use Rattle.sas_task.proofs.FactLists.{same-true as facts_equal}

-- the fact that a variable has a value
abbrev pub fact_at : ℕ → ℕ → Fact
fact_at var val = record { var = var; val = val }

-- the facts of a state
abbrev pub facts_of : List ℕ → List Fact
facts_of state = map (λ p. fact_at p.0 p.1) (enumerate_from 0 state)

-- the default facts of derived variables
abbrev pub default_facts : Parts → List Fact
default_facts parts = map (λ p. fact_at p.0 p.1) (filter (λ p. is_derived parts.variables p.0) (enumerate_from 0 parts.init))

-- what is there at the start: the facts of a state, and every default fact of a derived variable
abbrev pub start_facts : Parts → List ℕ → List Fact
start_facts parts state = facts_of state ++ default_facts parts

-- It gives one fact where its conditions are there. A rule has no operator.
pub record UnaryOperator : Type 0 where
  pub op : Option ℕ
  pub conds : List Fact
  pub gives : Fact
  pub cost : ℕ

abbrev pub over_facts : UnaryOver Fact UnaryOperator
over_facts = record {
  same = same_fact;
  equal = facts_equal;
  itself = λ a. and_from _ _ (eq-eqb a.var a.var refl) (eq-eqb a.val a.val refl);
  conds = λ u. u.conds;
  gives = λ u. u.gives;
  cost = λ u. u.cost;
}

-- each once, in order of first occurrence
abbrev pub distinct_facts : List Fact → List Fact
distinct_facts facts = each_once over_facts facts

-- what an effect of an operator gives, from the operator's conditions and its own
abbrev pub from_effect : Parts → CostKind → ℕ → Operator → Effect → UnaryOperator
from_effect parts kind op operator effect = record {
  op = Some op;
  conds = distinct_facts (operator.pre ++ effect.conds);
  gives = effect.fact;
  cost = adjusted_cost parts op kind;
}

-- what a rule gives, at no cost
abbrev pub from_rule : Rule → UnaryOperator
from_rule rule = record { op = None; conds = distinct_facts rule.conds; gives = rule.head; cost = 0 }

-- one for each operator and effect, in order, and after these one for each rule
abbrev pub unary_operators : Parts → CostKind → List UnaryOperator
unary_operators parts kind =
    flat_map (λ p. map (from_effect parts kind p.0 p.1) p.1.effects) (enumerate_from 0 parts.operators) ++ map from_rule parts.rules
