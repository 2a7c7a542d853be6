use Rattle.sas_task.specs.Runs.{start_of}
use Rattle.sas_task.specs.declared.contents.CostKind.TheVariants.{One}
use Rattle.lm_backchain.proofs.firsts.is_reached.Goals as goal

pub returns-in-Finite : goal.returns-in-Finite
returns-in-Finite c parts node knows there = c.in-Finite.ensures.finite parts One (start_of parts) node knows.relaxed knows.evaluated there

pub returns-in-Infinite : goal.returns-in-Infinite
returns-in-Infinite c parts node knows there = c.in-Infinite.ensures.finite parts One (start_of parts) node knows.relaxed knows.evaluated there
