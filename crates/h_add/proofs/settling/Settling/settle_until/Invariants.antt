use Rattle.h_add.specs.UnderWay.{IsLater, left_to_do}
use Rattle.h_add.proofs.settling.Settling.settle_until.Given as goal

abbrev pub invariant-steps : goal.invariant-steps
invariant-steps l = IsLater l.network.unaries l.fn.self l.self

abbrev pub decreases-steps : goal.decreases-steps
decreases-steps l = left_to_do l.self
