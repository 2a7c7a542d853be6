use Rattle.succ_gen.specs.Growing.{IsLevel}
use Rattle.succ_gen.proofs.growing.grow.Given as goal

abbrev pub invariant-loop-depth : goal.invariant-loop-depth
invariant-loop-depth l = IsLevel l.conditions l.depth l.branches.items l.homes.items l.steps.items
