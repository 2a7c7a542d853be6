use Rattle.std.proofs.Common.{◌≡◌}
use Rattle.open_lists.proofs.Places.{Fallen}
use Rattle.open_lists.proofs.lists.OpenLists.boost.Given as goal

abbrev pub invariant-loop-i : goal.invariant-loop-i
invariant-loop-i l = record {
  done : Fallen l.fn.self.lists.items l.self.lists.items l.fn.self.boost l.i;
  boost : l.self.boost ≡ l.fn.self.boost;
}
