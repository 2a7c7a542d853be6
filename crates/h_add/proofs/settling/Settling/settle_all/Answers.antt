use Rattle.h_add.proofs.Steps.{later_more}
use Rattle.h_add.proofs.settling.Settling.settle_all.Goals as goal

pub steps-preserved : goal.steps-preserved
steps-preserved c = later_more _ _ _ _ c.steps.invariant c.steps-test.ensures.later

pub returns-clause-later : goal.returns-clause-later
returns-clause-later c = later_more _ _ _ _ c.steps.invariant c.steps-test.ensures.later
