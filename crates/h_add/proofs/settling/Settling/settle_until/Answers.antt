use Rattle.h_add.proofs.Steps.{later_more}
use Rattle.h_add.proofs.settling.Settling.settle_until.Goals as goal

pub steps-preserved : goal.steps-preserved
steps-preserved c = later_more _ _ _ _ c.steps.invariant c.if-not-step.ensures.later

pub returns-then-not-step-clause-later : goal.returns-then-not-step-clause-later
returns-then-not-step-clause-later c = later_more _ _ _ _ c.steps.invariant c.if-not-step.ensures.later
