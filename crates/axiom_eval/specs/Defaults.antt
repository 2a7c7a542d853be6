-- The derived variables of a task in a flat table.
use Rattle.std.specs.Prelude.{◌≡◌, ℕ, List, length, Bool, true, nat_eq, nat_lt, slice_index, IsTrue}
use Rattle.std.specs.List.{list_all, list_any}
use Rattle.sas_task.specs.declared.contents.Parts.{Parts}
use Rattle.sas_task.specs.WellFormed.{is_derived}
use Rattle.axiom_eval.specs.declared.tables.Derived.{Derived}

-- the variable is among them
abbrev pub is_listed : List Derived → ℕ → Bool
is_listed derived var = list_any (λ d. nat_eq d.var var) derived

abbrev pub has_default : Parts → Derived → Bool
has_default parts d = nat_eq d.default (slice_index parts.init d.var)

-- they are the derived variables, each with its default
pub record AreDerived (parts : Parts) (derived : List Derived) : Type 0 where
  pub those : (var : ℕ) → is_listed derived var ≡ is_derived parts.variables var
  pub defaults : IsTrue (list_all (has_default parts) derived)
  pub within : IsTrue (list_all (λ d. nat_lt d.var (length parts.variables)) derived)
