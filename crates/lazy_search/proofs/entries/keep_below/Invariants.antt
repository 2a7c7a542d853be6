use Rattle.std.proofs.Common.{◌≡◌, take}
use Rattle.lazy_search.specs.Entries.{operators_below}
use Rattle.lazy_search.proofs.entries.keep_below.Given as goal

abbrev pub invariant-loop-op : goal.invariant-loop-op
invariant-loop-op l = l.kept.items ≡ operators_below l.task l.bound l.real (take l.op-index l.operators)
