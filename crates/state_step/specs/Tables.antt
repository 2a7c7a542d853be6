-- The operators of a task in flat tables.
use Rattle.std.specs.Prelude.{◌≡◌, ℕ, ◌<◌, ◌≤◌, List, [], map, length, Bool, nat_lt, IsTrue}
use Rattle.std.specs.List.{list_all}
use Rattle.sas_task.specs.declared.contents.Fact.{Fact}
use Rattle.sas_task.specs.declared.contents.Effect.{Effect}
use Rattle.sas_task.specs.declared.contents.Operator.{Operator}
use Rattle.lama_num.specs.Rows.{row_at}
use Rattle.state_step.specs.declared.tables.Change.{Change}
use Rattle.state_step.specs.declared.tables.Operators.{Operators}

-- the effect that a change stands for
abbrev pub effect_of : List (List Fact) → Change → Effect
effect_of conds change = record { conds = row_at conds change.conds; fact = change.fact }

-- its row is among so many
abbrev pub is_row : ℕ → Change → Bool
is_row n change = nat_lt change.conds n

-- the rows stand for the effects of the operators
pub record AreEffects (operators : List Operator) (changes : List (List Change)) (conds : List (List Fact)) : Type 0 where
  pub effects : map (map (effect_of conds)) changes ≡ map (λ o. o.effects) operators
  pub rows : IsTrue (list_all (list_all (is_row (length conds))) changes)
  pub none : row_at conds 0 ≡ []

pub record AreTables (operators : List Operator) (tables : Operators) : Type 0 where
  pub pre : tables.pre ≡ map (λ o. o.pre) operators
  pub effects : AreEffects operators tables.changes tables.conds

-- rows behind those that are there
pub record Grows (old new : List (List Fact)) : Type 0 where
  pub long : length old ≤ length new
  pub same : (i : ℕ) → i < length old → row_at new i ≡ row_at old i

-- a change that stands for an effect, as rows grow for it
pub record AddsChange (effect : Effect) (change : Change) (old new : List (List Fact)) : Type 0 where
  pub grows : Grows old new
  pub is : effect_of new change ≡ effect
  pub row : change.conds < length new

pub record AddsChanges (effects : List Effect) (changes : List Change) (old new : List (List Fact)) : Type 0 where
  pub grows : Grows old new
  pub are : map (effect_of new) changes ≡ effects
  pub rows : IsTrue (list_all (is_row (length new)) changes)
