use Rattle.std.proofs.Common.{◌≡◌, take, map}
use Rattle.sas_task.specs.States.{written}
use Rattle.state_step.specs.Tables.{effect_of}
use Rattle.state_step.proofs.effects.write_changes.Given as goal

abbrev pub invariant-loop-change : goal.invariant-loop-change
invariant-loop-change l = l.out ≡ written l.state (take l.change-index (map (effect_of l.conds) l.changes))
