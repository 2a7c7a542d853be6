use Rattle.plan_check.proofs.Good.{good_by}
use Rattle.plan_check.proofs.judging.judge.Goals as goal

pub returns-in-Ok-clause-good : goal.returns-in-Ok-clause-good
returns-in-Ok-clause-good c = rw c.from.ensures (good_by c.args.task.now c.args.bytes.now c.args.bound c.in-Ok.plan.ops.items c.in-Ok.plan.cost c.in-Ok.ensures.plan)
