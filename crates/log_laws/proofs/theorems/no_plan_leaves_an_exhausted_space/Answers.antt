use Rattle.log_laws.proofs.SpaceLaws.{no_plan}
use Rattle.log_laws.proofs.theorems.no_plan_leaves_an_exhausted_space.Goals as goal

pub returns : goal.returns
returns c parts space exact formed is ops plan = no_plan parts space exact formed is ops plan
