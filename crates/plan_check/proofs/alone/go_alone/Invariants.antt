use Rattle.std.proofs.Common.{◌≤◌, ◌*◌}
use Rattle.plan_check.specs.Layers.{IsAlone}
use Rattle.plan_check.specs.Walking.{IsWalker}
use Rattle.plan_check.proofs.alone.go_alone.Given as goal

abbrev pub invariant-loop-i : goal.invariant-loop-i
invariant-loop-i l = record {
  ready : IsWalker l.walker l.setup.task.now;
  alone : IsAlone l.setup.task.now l.names l.links.items l.i l.walker.here.items l.cost;
  cost_fits : l.cost ≤ 4294967295 * l.i;
}
