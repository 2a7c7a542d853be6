use Rattle.succ_gen.proofs.Levels.{ArePlaced}
use Rattle.succ_gen.proofs.growing.place_all.Given as goal

abbrev pub invariant-loop-operator : goal.invariant-loop-operator
invariant-loop-operator l = ArePlaced l.conditions l.operator l.homes.items l.steps.items
