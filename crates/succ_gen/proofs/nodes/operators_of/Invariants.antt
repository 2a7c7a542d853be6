use Rattle.std.proofs.Common.{◌≡◌, take}
use Rattle.succ_gen.specs.Growing.{operators_at}
use Rattle.succ_gen.proofs.nodes.operators_of.Given as goal

abbrev pub invariant-loop-home : goal.invariant-loop-home
invariant-loop-home l = l.operators.items ≡ operators_at (take l.home-index l.homes)
