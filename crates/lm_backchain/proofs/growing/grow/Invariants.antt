use Rattle.std.proofs.Common.{◌≡◌, ◌≤◌, ◌-◌, [], length}
use Rattle.lm_backchain.specs.Growth.{Works}
use Rattle.lm_backchain.specs.Singles.{AreKept}
use Rattle.lm_backchain.proofs.growing.grow.Given as goal

abbrev pub invariant-places : goal.invariant-places
invariant-places l = record {
  works : Works l.task l.graph l.place [];
  long : length l.singles.items ≡ l.place;
  kept : AreKept l.task l.graph l.singles.items;
  relaxed : l.add.relaxed ≡ l.initial.add.relaxed;
  within : l.place ≤ length l.graph.nodes;
}

abbrev pub decreases-places : goal.decreases-places
decreases-places l = 65536 - l.place
