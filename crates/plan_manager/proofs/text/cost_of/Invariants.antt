use Rattle.std.proofs.Common.{◌≡◌, ◌≤◌, ◌*◌, take}
use Rattle.sas_task.specs.Runs.{cost_of}
use Rattle.plan_manager.proofs.text.cost_of.Given as goal

abbrev pub invariant-loop-op : goal.invariant-loop-op
invariant-loop-op l = record {
  sum : l.cost ≡ cost_of l.task (take l.op-index l.ops);
  fits : l.cost ≤ 4294967295 * l.op-index;
}
