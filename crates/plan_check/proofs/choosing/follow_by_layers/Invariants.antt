use Rattle.std.proofs.Common.{◌≡◌, ◌≤◌, length, None}
use Rattle.plan_check.specs.Verdicts.{first_fault}
use Rattle.plan_check.specs.Layers.{IsAfter}
use Rattle.plan_check.specs.Walking.{IsWalker}
use Rattle.plan_check.proofs.choosing.follow_by_layers.Given as goal

abbrev pub invariant-loop-count : goal.invariant-loop-count
invariant-loop-count l = record {
  ready : IsWalker l.walker l.setup.task.now;
  together : length l.links.items ≤ 67108864;
  after : IsAfter l.setup.task.now l.setup.layout l.names l.links.items l.last.first l.count l.last.layer;
  no_fault : first_fault l.setup.task.now l.names l.count ≡ None;
}
