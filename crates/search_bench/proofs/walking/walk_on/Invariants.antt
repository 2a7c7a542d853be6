use Rattle.state_step.specs.Stepper as steps
use Rattle.succ_gen.specs.Trees as trees
use Rattle.search_bench.specs.Walks.{IsRoom}
use Rattle.search_bench.proofs.walking.walk_on.Given as goal

abbrev pub invariant-loop-step : goal.invariant-loop-step
invariant-loop-step l = trees.IsFor l.tree l.task × (steps.IsFor l.stepper l.task × IsRoom l.room l.task)
