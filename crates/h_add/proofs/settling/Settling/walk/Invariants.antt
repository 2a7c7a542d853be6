use Rattle.std.proofs.Common.{drop}
use Rattle.h_add.specs.UnderWay.{IsUnderWay, HasCounted}
use Rattle.h_add.proofs.settling.Settling.walk.Given as goal

abbrev pub invariant-loop-place : goal.invariant-loop-place
invariant-loop-place l = record {
  way : IsUnderWay l.network.unaries l.value (drop l.place-index l.places) l.self;
  counted : HasCounted l.fn.self l.self;
}
