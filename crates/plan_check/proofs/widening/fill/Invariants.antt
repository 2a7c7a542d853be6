use Rattle.plan_check.specs.Walking.{IsWalker}
use Rattle.plan_check.proofs.LayerPairs.{IsPart}
use Rattle.plan_check.proofs.widening.fill.Given as goal

abbrev pub invariant-loop-place : goal.invariant-loop-place
invariant-loop-place l = record {
  ready : IsWalker l.walker l.setup.task.now;
  part : IsPart l.setup.task.now l.setup.layout l.names l.initial.links.items l.links.items l.count l.place l.layer;
}
