-- A layer that is being settled.
use Rattle.std.specs.Prelude.{◌≡◌, ℕ, ◌+◌, ◌-◌, ◌<◌, ◌≤◌, List, length, Bool, true, nat_lt, ◌&&◌, slice_index, IsTrue}
use Rattle.std.proofs.Common.{◌⊎◌}
use Rattle.std.specs.List.{list_all, list_any}
use Rattle.sas_task.specs.declared.contents.Fact.{Fact}
use Rattle.sas_task.specs.declared.contents.Parts.{Parts}
use Rattle.sas_task.specs.States.{all_hold, rounds_of, size_of}
use Rattle.axiom_eval.specs.Layers.{is_of, Below, open_of}
use Rattle.axiom_eval.specs.Rules.{layer_at, given_at, conds_at, is_on}
use Rattle.axiom_eval.specs.declared.tables.Rules.{Rules}

-- a condition is on one of the variables
abbrev pub is_awaited : List ℕ → List Fact → Bool
is_awaited waiting facts = list_any (is_on facts) waiting

-- a rule of the layer whose conditions hold was heard, or one of them waits to be looked at, or the rule is still to be tried
abbrev pub IsHeard : Rules → List ℕ → List ℕ → (ℕ → Bool) → ℕ → Type 0
IsHeard rules values waiting later place = (slice_index values (given_at rules place).var ≡ (given_at rules place).val) ⊎ ((is_awaited waiting (conds_at rules place) ≡ true) ⊎ (later place ≡ true))

pub record IsHearing (parts : Parts) (rules : Rules) (layer : ℕ) (values waiting : List ℕ) (later : ℕ → Bool) : Type 0 where
  pub long : length values ≡ length parts.variables
  pub room : length waiting + open_of parts layer values ≤ length parts.variables
  pub known : IsTrue (list_all (λ var. nat_lt var (length parts.variables) && is_of parts layer var) waiting)
  pub heard : (place : ℕ) → place < length rules.heads → layer_at rules place ≡ layer → all_hold values (conds_at rules place) ≡ true → IsHeard rules values waiting later place

-- the values lie between the start and what the rounds give
pub record IsBetween (parts : Parts) (layer : ℕ) (start values : List ℕ) : Type 0 where
  pub grown : Below parts layer start values
  pub reached : Below parts layer values (rounds_of parts layer (size_of parts.variables layer - open_of parts layer values) start)
