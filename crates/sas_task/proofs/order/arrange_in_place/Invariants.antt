use Rattle.std.proofs.Common.{take}
use Rattle.sas_task.proofs.MovedPreconditions.{Arranges}
use Rattle.sas_task.proofs.order.arrange_in_place.Given as goal

abbrev pub invariant-loop-effect : goal.invariant-loop-effect
invariant-loop-effect l = Arranges l.initial.pre l.pre l.front (take l.effect-index l.effects)
