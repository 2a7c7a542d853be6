use Rattle.std.proofs.Common.{◌≡◌, take, map}
use Rattle.h_add.specs.Networks.{open_at_start}
use Rattle.h_add.proofs.network.opens_of.Given as goal

abbrev pub invariant-loop-unary : goal.invariant-loop-unary
invariant-loop-unary l = l.opens.items ≡ map open_at_start (take l.unary-index l.unaries)
