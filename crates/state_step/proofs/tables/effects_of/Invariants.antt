use Rattle.std.proofs.Common.{◌<◌, length, take}
use Rattle.state_step.specs.Tables.{AreEffects}
use Rattle.state_step.proofs.tables.effects_of.Given as goal

abbrev pub invariant-loop-operator : goal.invariant-loop-operator
invariant-loop-operator l = record {
  are : AreEffects (take l.operator-index l.operators) l.rows l.conds;
  some : 0 < length l.conds;
}
