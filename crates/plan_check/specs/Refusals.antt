-- What is wrong with a plan file, where it isn't memory that was wanting.
use Rattle.std.specs.Prelude.{Option, Some, None}
use Rattle.plan_check.specs.declared.refusals.Refusal.{Refusal}
use Rattle.plan_check.specs.declared.refusals.Refusal.TheVariants.{Bad, NoMemory}
use Rattle.plan_check.specs.declared.verdicts.PlanFault.{PlanFault}

abbrev pub fault_of : Refusal → Option PlanFault
fault_of (Bad fault) = Some fault
fault_of NoMemory = None
