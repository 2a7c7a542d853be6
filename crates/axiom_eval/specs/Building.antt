-- How the tables of rules are made.
use Rattle.std.specs.Prelude.{◌≡◌, ℕ, ◌<◌, List, length, Bool, true, false, not, nat_eq, nat_lt, slice_get, Option, Some, None, IsTrue, []}
use Rattle.std.specs.List.{list_all, list_any}
use Rattle.lama_num.specs.Rows.{row_at}
use Rattle.sas_task.specs.declared.contents.Fact.{Fact}
use Rattle.sas_task.specs.declared.contents.Variable.{Variable}
use Rattle.sas_task.specs.declared.contents.Rule.{Rule}
use Rattle.sas_task.specs.declared.contents.Parts.{Parts}
use Rattle.sas_task.specs.WellFormed.{layer_of}
use Rattle.sas_task.specs.States.{is_layer}
use Rattle.axiom_eval.specs.Rules.{head_at, is_on}
use Rattle.axiom_eval.specs.declared.building.Slot.{Slot}
use Rattle.axiom_eval.specs.declared.tables.Head.{Head}

-- a slot has the number of a rule and its layer
abbrev pub is_slot : Parts → Slot → Bool
is_slot parts slot = fits (slice_get parts.rules slot.rule)
  where
    fits : Option Rule → Bool
    fits None = false
    fits (Some rule) = is_layer (layer_of parts.variables rule.head.var) slot.layer

-- each rule has a slot, and there is no other slot
pub record AreSlots (parts : Parts) (slots : List Slot) : Type 0 where
  pub long : length slots ≡ length parts.rules
  pub sound : list_any (λ s. not (is_slot parts s)) slots ≡ false
  pub complete : (number : ℕ) → number < length parts.rules → list_any (λ s. nat_eq s.rule number) slots ≡ true

abbrev pub is_rule_below : ℕ → Slot → Bool
is_rule_below n slot = nat_lt slot.rule n

-- the head and the conditions of the rule of a slot
abbrev pub head_of : List Rule → Slot → Head
head_of rules slot = record { layer = slot.layer; fact = given (slice_get rules slot.rule) }
  where
    given : Option Rule → Fact
    given None = record { var = 0; val = 0 }
    given (Some rule) = rule.head

abbrev pub conds_of : List Rule → Slot → List Fact
conds_of rules slot = conds (slice_get rules slot.rule)
  where
    conds : Option Rule → List Fact
    conds None = []
    conds (Some rule) = rule.conds

-- a place was added to the lists of those conditions that are in the layer
pub record AddsWatcher (variables : List Variable) (layer place : ℕ) (facts : List Fact) (old new : List (List ℕ)) : Type 0 where
  pub long : length new ≡ length old
  pub kept : (var other : ℕ) → list_any (nat_eq other) (row_at old var) ≡ true → list_any (nat_eq other) (row_at new var) ≡ true
  pub added : (var : ℕ) → is_on facts var ≡ true → is_layer (layer_of variables var) layer ≡ true → list_any (nat_eq place) (row_at new var) ≡ true
  pub within : (n : ℕ) → place < n → list_all (list_all (λ p. nat_lt p n)) old ≡ true → list_all (list_all (λ p. nat_lt p n)) new ≡ true

-- the first rules stand in the lists of those of their conditions that are in their layer
pub record AreWatchers (variables : List Variable) (heads : List Head) (conds : List (List Fact)) (places : ℕ) (lists : List (List ℕ)) : Type 0 where
  pub long : length lists ≡ length variables
  pub watched : (place var : ℕ) → place < places → is_on (row_at conds place) var ≡ true → is_layer (layer_of variables var) (head_at heads place).layer ≡ true → list_any (nat_eq place) (row_at lists var) ≡ true
  pub within : IsTrue (list_all (list_all (λ p. nat_lt p (length heads))) lists)
