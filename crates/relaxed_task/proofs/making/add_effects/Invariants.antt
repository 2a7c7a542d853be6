use Rattle.std.specs.Prelude.{◌≡◌, ◌++◌, [], map, take, length}
use Rattle.relaxed_task.specs.Making.{AreMarked, effect_by}
use Rattle.relaxed_task.proofs.making.add_effects.Given as goal

abbrev pub invariant-loop-effect : goal.invariant-loop-effect
invariant-loop-effect l = record {
  made : l.unaries.items ≡ l.initial.unaries.items ++ map (effect_by l.offsets l.op l.cost l.operator.pre) (take l.effect-index l.operator.effects);
  clear : AreMarked l.marks [];
  long : length l.marks ≡ length l.initial.marks;
}
