-- States of a task, and what effects and rules make of them.
use Rattle.std.specs.Prelude.{◌≡◌, ℕ, ◌+◌, ◌<◌, List, [], ◌∷◌, length, Bool, false, nat_eq, ◌&&◌, map, filter, slice_index, slice_get, Option, Some, None, if◌then◌else◌, zero, suc, max, count_by}
use Rattle.std.specs.List.{list_all, enumerate_from}
use Rattle.sas_task.specs.WellFormed.{range_of, layer_of, is_derived}
use Rattle.sas_task.specs.declared.contents.Fact.{Fact}
use Rattle.sas_task.specs.declared.contents.Variable.{Variable}
use Rattle.sas_task.specs.declared.contents.Effect.{Effect}
use Rattle.sas_task.specs.declared.contents.Operator.{Operator}
use Rattle.sas_task.specs.declared.contents.Rule.{Rule}
use Rattle.sas_task.specs.declared.contents.Parts.{Parts}

-- one value for each variable, below its range
pub record IsState (variables : List Variable) (state : List ℕ) : Type 0 where
  pub long : length state ≡ length variables
  pub in_range : (var : ℕ) → var < length variables → slice_index state var < range_of variables var

-- the variable has the value
abbrev pub holds : List ℕ → Fact → Bool
holds state fact = nat_eq (slice_index state fact.var) fact.val

abbrev pub all_hold : List ℕ → List Fact → Bool
all_hold state facts = list_all (holds state) facts

-- the conditions of an effect hold
abbrev pub fires : List ℕ → Effect → Bool
fires state effect = all_hold state effect.conds

-- the values that effects give to a variable, in the order of the list
abbrev pub given : List ℕ → List Effect → ℕ → List ℕ
given state effects var = map (λ e. e.fact.val) (filter (λ e. fires state e && nat_eq e.fact.var var) effects)

-- the last of a list, or a value where it is empty
abbrev pub last_or : ℕ → List ℕ → ℕ
last_or value [] = value
last_or value (x ∷ xs) = last_or x xs

-- Each variable has the value of the last listed effect on it that fires in the state; else it keeps its own.
abbrev pub written : List ℕ → List Effect → List ℕ
written state effects = map (λ p. last_or p.1 (given state effects p.0)) (enumerate_from 0 state)

abbrev pub is_layer : Option ℕ → ℕ → Bool
is_layer None k = false
is_layer (Some layer) k = nat_eq layer k

-- a rule as an effect on its head
abbrev pub as_effect : Rule → Effect
as_effect rule = record { conds = rule.conds; fact = rule.head }

-- the rules whose heads are of a layer
abbrev pub rules_of : List Variable → ℕ → List Rule → List Effect
rules_of variables layer rules = map as_effect (filter (λ r. is_layer (layer_of variables r.head.var) layer) rules)

-- A round gives every head of the layer whose conditions hold before the round.
abbrev pub round_of : Parts → ℕ → List ℕ → List ℕ
round_of parts layer state = written state (rules_of parts.variables layer parts.rules)

-- so many rounds
abbrev pub rounds_of : Parts → ℕ → ℕ → List ℕ → List ℕ
rounds_of parts layer zero state = state
rounds_of parts layer (suc n) state = round_of parts layer (rounds_of parts layer n state)

-- how many variables a layer has
abbrev pub size_of : List Variable → ℕ → ℕ
size_of variables layer = count_by (λ v. is_layer v.layer layer) variables

-- the layers below one, upwards, each with as many rounds as it has variables
abbrev pub settled_below : Parts → ℕ → List ℕ → List ℕ
settled_below parts zero state = state
settled_below parts (suc layer) state = rounds_of parts layer (size_of parts.variables layer) (settled_below parts layer state)

-- the default of a derived variable, or the value of another
abbrev pub default_or : Parts → ℕ → ℕ → ℕ
default_or parts var value = if is_derived parts.variables var then slice_index parts.init var else value

-- derived variables have their defaults
abbrev pub reset : Parts → List ℕ → List ℕ
reset parts state = map (λ p. default_or parts p.0 p.1) (enumerate_from 0 state)

abbrev pub above : Option ℕ → ℕ
above None = 0
above (Some layer) = layer + 1

-- one more than the highest layer
abbrev pub top_of : List Variable → ℕ
top_of [] = 0
top_of (v ∷ variables) = max (above v.layer) (top_of variables)

-- Derived variables have their defaults, and then what the rules give, layer by layer upwards; the others stay.
abbrev pub settled : Parts → List ℕ → List ℕ
settled parts state = settled_below parts (top_of parts.variables) (reset parts state)

-- a step: the operator's conditions hold, its effects are written, and derived variables are settled
abbrev pub step : Parts → List ℕ → ℕ → Option (List ℕ)
step parts state op = taken (slice_get parts.operators op)
  where
    taken : Option Operator → Option (List ℕ)
    taken None = None
    taken (Some o) = if all_hold state o.pre then Some (settled parts (written state o.effects)) else None

-- there is such an operator, and its conditions hold
abbrev pub is_applicable : Parts → List ℕ → ℕ → Bool
is_applicable parts state op = allowed (slice_get parts.operators op)
  where
    allowed : Option Operator → Bool
    allowed None = false
    allowed (Some o) = all_hold state o.pre
