-- When the parts of a task are well formed.
use Rattle.std.specs.Prelude.{◌≡◌, ℕ, ◌+◌, ◌≤◌, List, length, Bool, true, false, nat_lt, nat_le, nat_eq, ◌&&◌, not, if◌then◌else◌, slice_index, slice_get, sum_by, IsTrue, Option, Some, None, is_some}
use Rattle.std.specs.List.{list_all, zip}
use Rattle.sas_task.specs.Limits.{most_variables, most_facts, most_operators, most_rules, most_listed, highest_layer, highest_cost, longest_name}
use Rattle.sas_task.specs.Order.{has_few_prevail, IsInOrder}
use Rattle.sas_task.specs.declared.contents.Fact.{Fact}
use Rattle.sas_task.specs.declared.contents.Variable.{Variable}
use Rattle.sas_task.specs.declared.contents.Effect.{Effect}
use Rattle.sas_task.specs.declared.contents.Operator.{Operator}
use Rattle.sas_task.specs.declared.contents.Rule.{Rule}
use Rattle.sas_task.specs.declared.contents.Parts.{Parts}

-- the number of values of a variable; 0 where there is no such variable
abbrev pub range_of : List Variable → ℕ → ℕ
range_of variables var = values_of (slice_get variables var)
  where
    values_of : Option Variable → ℕ
    values_of None = 0
    values_of (Some v) = length v.values

-- the layer of a variable that is derived
abbrev pub layer_of : List Variable → ℕ → Option ℕ
layer_of variables var = layer (slice_get variables var)
  where
    layer : Option Variable → Option ℕ
    layer None = None
    layer (Some v) = v.layer

abbrev pub is_derived : List Variable → ℕ → Bool
is_derived variables var = is_some (layer_of variables var)

-- a name fits a line
abbrev pub is_short : List ℕ → Bool
is_short name = nat_le (length name) longest_name

-- a list within the limit
abbrev pub is_few : {A : Type 0} → List A → Bool
is_few xs = nat_le (length xs) most_listed

-- a layer is within its limit, and a derived variable has two values
abbrev pub is_layered : Option ℕ → ℕ → Bool
is_layered None range = true
is_layered (Some layer) range = nat_le layer highest_layer && nat_eq range 2

abbrev pub is_variable : Variable → Bool
is_variable v = is_short v.name && (is_layered v.layer (length v.values) && (nat_lt 0 (length v.values) && (is_few v.values && list_all is_short v.values)))

-- the variable is there and has the value
abbrev pub is_fact : List Variable → Fact → Bool
is_fact variables fact = nat_lt fact.val (range_of variables fact.var)

abbrev pub are_facts : List Variable → List Fact → Bool
are_facts variables facts = is_few facts && list_all (is_fact variables) facts

-- its facts are in range, and it changes no derived variable
abbrev pub is_effect : List Variable → Effect → Bool
is_effect variables effect = are_facts variables effect.conds && (is_fact variables effect.fact && not (is_derived variables effect.fact.var))

-- Each effect may stand for one of the preconditions; of the others, the prevail conditions, there are few.
abbrev pub has_few_conditions : Operator → Bool
has_few_conditions operator = nat_le (length operator.pre) (most_listed + length operator.effects)

abbrev pub is_operator : List Variable → Operator → Bool
is_operator variables operator =
    is_short operator.name
    && (has_few_conditions operator
    && (list_all (is_fact variables) operator.pre
    && (is_few operator.effects && (list_all (is_effect variables) operator.effects && nat_le operator.cost highest_cost))))

-- one initial value for each variable, below its range
abbrev pub starts : List Variable → List ℕ → Bool
starts variables init = nat_eq (length init) (length variables) && list_all (λ p. nat_lt p.0 (length p.1.values)) (zip init variables)

abbrev pub is_default : List ℕ → Fact → Bool
is_default init fact = nat_eq fact.val (slice_index init fact.var)

-- A condition of a rule may be on a derived variable of at most the head's layer, and of a lower one where it is a default.
abbrev pub is_layered_below : List Variable → List ℕ → ℕ → Fact → Bool
is_layered_below variables init layer fact = below (layer_of variables fact.var)
  where
    below : Option ℕ → Bool
    below None = true
    below (Some own) = if is_default init fact then nat_lt own layer else nat_le own layer

-- the head is of a derived variable, and the conditions lie in its layer or below
abbrev pub is_layered_rule : List Variable → List ℕ → Rule → Bool
is_layered_rule variables init rule = layered (layer_of variables rule.head.var)
  where
    layered : Option ℕ → Bool
    layered None = false
    layered (Some layer) = list_all (is_layered_below variables init layer) rule.conds

-- it gives no default
abbrev pub is_rule : List Variable → List ℕ → Rule → Bool
is_rule variables init rule = are_facts variables rule.conds && (is_fact variables rule.head && (not (is_default init rule.head) && is_layered_rule variables init rule))

abbrev pub fact_count : List Variable → ℕ
fact_count variables = sum_by (λ v. length v.values) variables

pub record IsWellFormed (parts : Parts) : Type 0 where
  pub few_variables : IsTrue (nat_le (length parts.variables) most_variables)
  pub variables : IsTrue (list_all is_variable parts.variables)
  pub few_facts : fact_count parts.variables ≤ most_facts
  pub few_groups : IsTrue (is_few parts.groups)
  pub groups : IsTrue (list_all (are_facts parts.variables) parts.groups)
  pub init : IsTrue (starts parts.variables parts.init)
  pub goal : IsTrue (are_facts parts.variables parts.goal)
  pub few_operators : length parts.operators ≤ most_operators
  pub operators : IsTrue (list_all (is_operator parts.variables) parts.operators)
  pub conditions : IsTrue (list_all has_few_prevail parts.operators)
  pub order : (op : ℕ) (operator : Operator) → slice_get parts.operators op ≡ Some operator → IsInOrder operator
  -- without a metric every operator costs 1
  pub costs : parts.metric ≡ false → IsTrue (list_all (λ o. nat_eq o.cost 1) parts.operators)
  pub few_rules : length parts.rules ≤ most_rules
  pub rules : IsTrue (list_all (is_rule parts.variables parts.init) parts.rules)
