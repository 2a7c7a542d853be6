use Rattle.std.proofs.Common.{◌≡◌, ◌≤◌, ◌*◌, take}
use Rattle.sas_task.specs.Runs.{cost_of}
use Rattle.plan_text.proofs.Growth.{steps_text}
use Rattle.plan_text.proofs.writing.write.Given as goal

abbrev pub invariant-loop-op : goal.invariant-loop-op
invariant-loop-op l = record {
  text_is : l.text.items ≡ steps_text l.task (take l.op-index l.ops);
  cost_is : l.cost ≡ cost_of l.task (take l.op-index l.ops);
  cost_fits : l.cost ≤ 4294967295 * l.op-index;
}
