use Rattle.std.proofs.Common.{take}
use Rattle.succ_gen.specs.Conditions.{AreConditions}
use Rattle.succ_gen.proofs.conditions.conditions_of.Given as goal

abbrev pub invariant-loop-operator : goal.invariant-loop-operator
invariant-loop-operator l = AreConditions (take l.operator-index l.operators) l.conditions
