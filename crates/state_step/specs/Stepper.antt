-- What the stepper keeps for a task.
use Rattle.sas_task.specs.declared.contents.Parts.{Parts}
use Rattle.sas_task.specs.WellFormed.{IsWellFormed}
use Rattle.axiom_eval.specs.Axioms as axioms
use Rattle.axiom_eval.specs.Axioms.{Tables}
use Rattle.state_step.specs.declared.tables.Operators.{Operators}
use Rattle.state_step.specs.Tables.{AreTables}

-- the tables for derived variables, and those of the operators
pub record Steps : Type 0 where
  pub axioms : Tables
  pub operators : Operators

-- The stepper was made for the task. Callers hand this on, and need no more of it.
pub record IsFor (stepper : Steps) (parts : Parts) : Type 0 where
  pub axioms : axioms.IsFor stepper.axioms parts
  pub operators : AreTables parts.operators stepper.operators
  pub well_formed : IsWellFormed parts
