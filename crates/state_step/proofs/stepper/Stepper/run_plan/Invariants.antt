use Rattle.std.proofs.Common.{◌≡◌, ◌≤◌, ◌*◌, take, length, Some}
use Rattle.sas_task.specs.Runs.{start_of, end_of, cost_of}
use Rattle.state_step.specs.Stepper.{IsFor}
use Rattle.state_step.proofs.stepper.Stepper.run_plan.Given as goal

abbrev pub invariant-loop-i : goal.invariant-loop-i
invariant-loop-i l = record {
  same_task : IsFor l.self l.task;
  leads : end_of l.task (start_of l.task) (take l.i l.ops) ≡ Some l.here;
  here_long : length l.here ≡ length l.task.variables;
  next_long : length l.next ≡ length l.task.variables;
  cost_is : l.cost ≡ cost_of l.task (take l.i l.ops);
  cost_fits : l.cost ≤ 2147483647 * l.i;
}
