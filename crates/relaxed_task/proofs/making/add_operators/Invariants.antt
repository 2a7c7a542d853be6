use Rattle.std.specs.Prelude.{◌≡◌, ◌++◌, [], take, length}
use Rattle.relaxed_task.specs.Making.{AreMarked, operators_by}
use Rattle.relaxed_task.proofs.making.add_operators.Given as goal

abbrev pub invariant-loop-op : goal.invariant-loop-op
invariant-loop-op l = record {
  made : l.unaries.items ≡ l.initial.unaries.items ++ operators_by l.task l.kind l.offsets (take l.op l.task.operators);
  clear : AreMarked l.marks [];
  long : length l.marks ≡ length l.initial.marks;
}
