-- What the evaluator keeps for a task.
use Rattle.std.specs.Prelude.{◌≡◌, ℕ, ◌≤◌, List, [], length}
use Rattle.sas_task.specs.declared.contents.Parts.{Parts}
use Rattle.axiom_eval.specs.declared.tables.Derived.{Derived}
use Rattle.axiom_eval.specs.declared.tables.Rules.{Rules}
use Rattle.axiom_eval.specs.Defaults.{AreDerived}
use Rattle.axiom_eval.specs.Rules.{AreRules}

-- the tables, the variables that wait, and for how many there is room
pub record Tables : Type 0 where
  pub derived : List Derived
  pub rules : Rules
  pub waiting : List ℕ
  pub room : ℕ

-- The evaluator was made for the task. Callers hand this on, and need no more of it.
pub record IsFor (axioms : Tables) (parts : Parts) : Type 0 where
  pub derived : AreDerived parts axioms.derived
  pub rules : AreRules parts axioms.rules
  pub none : axioms.waiting ≡ []
  pub room : length parts.variables ≤ axioms.room
