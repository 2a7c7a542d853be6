-- Parts that nothing refuses, piece by piece.
use Rattle.std.specs.Prelude.{◌≡◌, ℕ, ◌≤◌, List, length, Bool, false, ◌&&◌, nat_eq, nat_le, IsTrue}
use Rattle.std.specs.List.{list_all}
use Rattle.sas_task.specs.Limits.{most_variables, most_facts, most_operators, most_rules, highest_cost}
use Rattle.sas_task.specs.Order.{has_few_prevail}
use Rattle.sas_task.specs.WellFormed.{is_short, is_few, is_variable, is_fact, are_facts, is_effect, starts, fact_count}
use Rattle.sas_task.specs.Refusals.{is_good_rule}
use Rattle.sas_task.specs.declared.contents.Variable.{Variable}
use Rattle.sas_task.specs.declared.contents.Operator.{Operator}
use Rattle.sas_task.specs.declared.contents.Rule.{Rule}
use Rattle.sas_task.specs.declared.contents.Parts.{Parts}

-- an operator whose preconditions stand in any order
abbrev pub is_admissible_operator : List Variable → Operator → Bool
is_admissible_operator variables operator =
    is_short operator.name
    && (has_few_prevail operator
    && (list_all (is_fact variables) operator.pre
    && (is_few operator.effects && (list_all (is_effect variables) operator.effects && nat_le operator.cost highest_cost))))

-- a rule that may give a default
abbrev pub is_admissible_rule : List Variable → List ℕ → Rule → Bool
is_admissible_rule variables init rule = are_facts variables rule.conds && (is_fact variables rule.head && is_good_rule variables init rule)

-- The parts are those of a task, up to the order of preconditions and rules that give a default.
pub record IsAdmissible (parts : Parts) : Type 0 where
  pub few_variables : IsTrue (nat_le (length parts.variables) most_variables)
  pub variables : IsTrue (list_all is_variable parts.variables)
  pub few_facts : fact_count parts.variables ≤ most_facts
  pub few_groups : IsTrue (is_few parts.groups)
  pub groups : IsTrue (list_all (are_facts parts.variables) parts.groups)
  pub init : IsTrue (starts parts.variables parts.init)
  pub goal : IsTrue (are_facts parts.variables parts.goal)
  pub few_operators : length parts.operators ≤ most_operators
  pub operators : IsTrue (list_all (is_admissible_operator parts.variables) parts.operators)
  pub costs : parts.metric ≡ false → IsTrue (list_all (λ o. nat_eq o.cost 1) parts.operators)
  pub few_rules : length parts.rules ≤ most_rules
  pub rules : IsTrue (list_all (is_admissible_rule parts.variables parts.init) parts.rules)
