-- Which parts are refused, and what is made of the others.
use Rattle.std.specs.Prelude.{ℕ, List, [], ◌∷◌, ◌++◌, length, Bool, ◌&&◌, not, nat_eq, nat_lt, map, filter, filter_map, flat_map, find, position, Option, Some, None, is_some, option_map, Result, Ok, Err, if◌then◌else◌}
use Rattle.std.specs.List.{list_all}
use Rattle.sas_task.specs.Costs.{is_unit_cost}
use Rattle.sas_task.specs.Limits.{most_variables, most_facts, most_operators, most_rules, most_listed, highest_layer, highest_cost, longest_name}
use Rattle.sas_task.specs.Order.{in_order, prevail_count}
use Rattle.sas_task.specs.WellFormed.{is_derived, is_fact, is_default, is_layered_rule, starts, fact_count}
use Rattle.sas_task.specs.declared.contents.Variable.{Variable}
use Rattle.sas_task.specs.declared.contents.Effect.{Effect}
use Rattle.sas_task.specs.declared.contents.Operator.{Operator}
use Rattle.sas_task.specs.declared.contents.Rule.{Rule}
use Rattle.sas_task.specs.declared.contents.Parts.{Parts}
use Rattle.sas_task.specs.declared.refusals.What.{What}
use Rattle.sas_task.specs.declared.refusals.What.TheVariants.{Variables, Range, Layer, Facts, Groups, GroupFacts, Goals, Operators, Conditions, Effects, Rules, Cost, Name}
use Rattle.sas_task.specs.declared.refusals.TaskError.{TaskError}
use Rattle.sas_task.specs.declared.refusals.TaskError.TheVariants.{TooLarge, WideDerived, BadFact, BadCost, BadRule}

-- the first count that is above a limit
abbrev pub above : ℕ → List ℕ → Option ℕ
above most counts = find (λ count. nat_lt most count) counts

abbrev pub too_large : What → ℕ → List ℕ → Option TaskError
too_large what most counts = option_map (λ count. TooLarge what count) (above most counts)

-- the numbers of conditions: of the operators, each with its prevail conditions and then with its effects, and of the rules
abbrev pub conditions_of : Operator → List ℕ
conditions_of operator = prevail_count operator ∷ map (λ e. length e.conds) operator.effects

abbrev pub condition_counts : Parts → List ℕ
condition_counts parts = flat_map conditions_of parts.operators ++ map (λ r. length r.conds) parts.rules

-- the lengths of names: of the variables, each with its own and then with its values', and of the operators
abbrev pub names_of : Variable → List ℕ
names_of variable = length variable.name ∷ map (λ name. length name) variable.values

abbrev pub name_lengths : Parts → List ℕ
name_lengths parts = flat_map names_of parts.variables ++ map (λ o. length o.name) parts.operators

-- a derived variable that hasn't two values
abbrev pub is_wide : Variable → Bool
is_wide variable = is_some variable.layer && not (nat_eq (length variable.values) 2)

-- facts in range, and no effect on a derived variable
abbrev pub is_sound_effect : List Variable → Effect → Bool
is_sound_effect variables effect = list_all (is_fact variables) effect.conds && (is_fact variables effect.fact && not (is_derived variables effect.fact.var))

abbrev pub is_sound_operator : List Variable → Operator → Bool
is_sound_operator variables operator = list_all (is_fact variables) operator.pre && list_all (is_sound_effect variables) operator.effects

abbrev pub is_sound_rule : List Variable → Rule → Bool
is_sound_rule variables rule = list_all (is_fact variables) rule.conds && is_fact variables rule.head

-- every variable has a value and one of them initially, every fact is in range, and no effect is on a derived variable
abbrev pub is_sound : Parts → Bool
is_sound parts =
    list_all (λ v. nat_lt 0 (length v.values)) parts.variables
    && (list_all (λ group. list_all (is_fact parts.variables) group) parts.groups
    && (starts parts.variables parts.init
    && (list_all (is_fact parts.variables) parts.goal
    && (list_all (is_sound_operator parts.variables) parts.operators
    && list_all (is_sound_rule parts.variables) parts.rules))))

-- the head is of a derived variable, and where it isn't a default, the conditions lie in its layer or below
abbrev pub is_good_rule : List Variable → List ℕ → Rule → Bool
is_good_rule variables init rule = if is_default init rule.head then is_derived variables rule.head.var else is_layered_rule variables init rule

abbrev pub wide_derived : List Variable → Option TaskError
wide_derived variables = option_map (λ var. WideDerived var) (position is_wide variables)

abbrev pub bad_fact : Parts → Option TaskError
bad_fact parts = if is_sound parts then None else Some BadFact

abbrev pub bad_cost : Parts → Option TaskError
bad_cost parts = if not parts.metric && not (is_unit_cost parts) then Some BadCost else None

abbrev pub bad_rule : Parts → Option TaskError
bad_rule parts = option_map (λ rule. BadRule rule) (position (λ r. not (is_good_rule parts.variables parts.init r)) parts.rules)

-- the first cause of a list that is there
abbrev pub first_cause : List (Option TaskError) → Option TaskError
first_cause [] = None
first_cause (None ∷ causes) = first_cause causes
first_cause (Some cause ∷ causes) = Some cause

-- The causes of a refusal, in order. Of a quantity that occurs often, the first in the order of the parts that is above its limit is named; variables, operators and rules are numbered from 0.
abbrev pub causes : Parts → List (Option TaskError)
causes parts =
    too_large Variables most_variables (length parts.variables ∷ [])
    ∷ too_large Range most_listed (map (λ v. length v.values) parts.variables)
    ∷ too_large Layer highest_layer (filter_map (λ v. v.layer) parts.variables)
    ∷ too_large Facts most_facts (fact_count parts.variables ∷ [])
    ∷ too_large Groups most_listed (length parts.groups ∷ [])
    ∷ too_large GroupFacts most_listed (map (λ group. length group) parts.groups)
    ∷ too_large Goals most_listed (length parts.goal ∷ [])
    ∷ too_large Operators most_operators (length parts.operators ∷ [])
    ∷ too_large Conditions most_listed (condition_counts parts)
    ∷ too_large Effects most_listed (map (λ o. length o.effects) parts.operators)
    ∷ too_large Rules most_rules (length parts.rules ∷ [])
    ∷ too_large Cost highest_cost (map (λ o. o.cost) parts.operators)
    ∷ too_large Name longest_name (name_lengths parts)
    ∷ wide_derived parts.variables
    ∷ bad_fact parts
    ∷ bad_cost parts
    ∷ bad_rule parts
    ∷ []

-- why parts are refused, if they are
unfoldable pub refusal_of : Parts → Option TaskError
refusal_of parts = first_cause (causes parts)

-- Rules that give a default are left out, and preconditions stand in their order.
abbrev pub canonical_parts : Parts → Parts
canonical_parts parts = record parts { operators = map in_order parts.operators; rules = filter (λ r. not (is_default parts.init r.head)) parts.rules }

-- a value, unless there is a cause to refuse it
abbrev pub unless : {A : Type 0} → Option TaskError → A → Result A TaskError
unless None value = Ok value
unless (Some cause) value = Err cause
