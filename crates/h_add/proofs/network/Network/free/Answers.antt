use Rattle.h_add.proofs.ListGrowth.{row_within}
use Rattle.h_add.proofs.network.Network.free.Goals as goal

pub returns-clause-within : goal.returns-clause-within
returns-clause-within c = rw (← c.self.view_is, c.row.ensures) (row_within _ _ _ _ (c.self.invariant.needs_are _))
