use Rattle.std.proofs.Common.{◌≡◌, take, true}
use Rattle.std.specs.List.{list_all}
use Rattle.h_add.specs.UnderWay.{is_settled, IsLater}
use Rattle.h_add.proofs.settling.Settling.settle_goals.Given as goal

abbrev pub invariant-loop-goal : goal.invariant-loop-goal
invariant-loop-goal l = record {
  later : IsLater l.network.unaries l.fn.self l.self;
  settled : list_all (is_settled l.self) (take l.goal-index l.goal-items) ≡ true;
}
