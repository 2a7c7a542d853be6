use Rattle.std.proofs.Common.{length}
use Rattle.succ_gen.proofs.Levels.{IsBetween}
use Rattle.succ_gen.proofs.growing.place_steps.Given as goal

abbrev pub invariant-loop-step : goal.invariant-loop-step
invariant-loop-step l = IsBetween l.conditions l.depth l.steps (length l.initial.branches.items) l.step-index l.branches.items l.homes.items l.next.items
