use Rattle.std.specs.Prelude.{◌≡◌, take}
use Rattle.relaxed_task.specs.Making.{defaults_by}
use Rattle.relaxed_task.proofs.making.make_defaults.Given as goal

abbrev pub invariant-loop-var : goal.invariant-loop-var
invariant-loop-var l = l.defaults.items ≡ defaults_by l.offsets l.variables (take l.var l.init)
