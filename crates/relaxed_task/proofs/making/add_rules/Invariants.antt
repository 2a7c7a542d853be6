use Rattle.std.specs.Prelude.{◌≡◌, ◌++◌, [], map, take, length}
use Rattle.relaxed_task.specs.Making.{AreMarked, rule_by}
use Rattle.relaxed_task.proofs.making.add_rules.Given as goal

abbrev pub invariant-loop-rule : goal.invariant-loop-rule
invariant-loop-rule l = record {
  made : l.unaries.items ≡ l.initial.unaries.items ++ map (rule_by l.offsets) (take l.rule-index l.rules);
  clear : AreMarked l.marks [];
  long : length l.marks ≡ length l.initial.marks;
}
