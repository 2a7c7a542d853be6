-- The rules of a task in flat tables.
use Rattle.std.specs.Prelude.{◌≡◌, ℕ, ◌<◌, ◌≤◌, List, length, Bool, true, not, nat_eq, nat_lt, ◌&&◌, slice_index, slice_index_or, slice_get, Some, IsTrue}
use Rattle.std.specs.List.{list_all, list_any}
use Rattle.lama_num.specs.Rows.{row_at}
use Rattle.sas_task.specs.declared.contents.Fact.{Fact}
use Rattle.sas_task.specs.declared.contents.Rule.{Rule}
use Rattle.sas_task.specs.declared.contents.Parts.{Parts}
use Rattle.sas_task.specs.WellFormed.{layer_of}
use Rattle.sas_task.specs.Within.{is_within}
use Rattle.sas_task.specs.States.{all_hold}
use Rattle.axiom_eval.specs.Layers.{is_of}
use Rattle.axiom_eval.specs.declared.tables.Head.{Head}
use Rattle.axiom_eval.specs.declared.tables.Rules.{Rules}

abbrev pub head_at : List Head → ℕ → Head
head_at heads place = slice_index_or heads place (record { layer = 0; fact = record { var = 0; val = 0 } })

abbrev pub layer_at : Rules → ℕ → ℕ
layer_at rules place = (head_at rules.heads place).layer

abbrev pub given_at : Rules → ℕ → Fact
given_at rules place = (head_at rules.heads place).fact

abbrev pub conds_at : Rules → ℕ → List Fact
conds_at rules place = row_at rules.conds place

-- a condition is on the variable
abbrev pub is_on : List Fact → ℕ → Bool
is_on facts var = list_any (λ f. nat_eq f.var var) facts

-- the rule at a place would change the values
abbrev pub is_due : Rules → ℕ → List ℕ → Bool
is_due rules place values = not (nat_eq (slice_index values (given_at rules place).var) (given_at rules place).val) && all_hold values (conds_at rules place)

-- the place stands among those that watch the variable
abbrev pub is_watching : Rules → ℕ → ℕ → Bool
is_watching rules var place = list_any (nat_eq place) (row_at rules.watchers var)

-- the tables are of one length, and their variables and places are there
pub record AreWithin (n : ℕ) (rules : Rules) : Type 0 where
  pub conds : length rules.conds ≡ length rules.heads
  pub watchers : length rules.watchers ≡ n
  pub heads_within : IsTrue (list_all (λ h. nat_lt h.fact.var n) rules.heads)
  pub conds_within : IsTrue (list_all (list_all (is_within n)) rules.conds)
  pub watchers_within : IsTrue (list_all (list_all (λ place. nat_lt place (length rules.heads))) rules.watchers)

-- a rule of the task stands at a place
pub record StandsAt (parts : Parts) (rules : Rules) (rule : Rule) (place : ℕ) : Type 0 where
  pub layer : layer_of parts.variables rule.head.var ≡ Some (layer_at rules place)
  pub given : given_at rules place ≡ rule.head
  pub conds : conds_at rules place ≡ rule.conds

pub record HasRule (parts : Parts) (rules : Rules) (place : ℕ) : Type 0 where
  pub number : ℕ
  pub rule : Rule
  pub at : slice_get parts.rules number ≡ Some rule
  pub stands : StandsAt parts rules rule place

pub record HasPlace (parts : Parts) (rules : Rules) (rule : Rule) : Type 0 where
  pub place : ℕ
  pub within : place < length rules.heads
  pub stands : StandsAt parts rules rule place

-- the tables have the rules of the task, and no other
pub record AreRules (parts : Parts) (rules : Rules) : Type 0 where
  pub within : AreWithin (length parts.variables) rules
  pub upwards : (low high : ℕ) → low ≤ high → high < length rules.heads → layer_at rules low ≤ layer_at rules high
  pub sound : (place : ℕ) → place < length rules.heads → HasRule parts rules place
  pub complete : (number : ℕ) (rule : Rule) → slice_get parts.rules number ≡ Some rule → HasPlace parts rules rule
  pub watched : (place var : ℕ) → place < length rules.heads → is_on (conds_at rules place) var ≡ true → is_of parts (layer_at rules place) var ≡ true → is_watching rules var place ≡ true
