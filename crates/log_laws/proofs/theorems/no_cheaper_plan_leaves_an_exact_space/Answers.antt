use Rattle.log_laws.proofs.SpaceLaws.{no_cheaper_plan}
use Rattle.log_laws.proofs.theorems.no_cheaper_plan_leaves_an_exact_space.Goals as goal

pub returns : goal.returns
returns c parts space bound formed is ops plan = no_cheaper_plan parts space bound formed is ops plan
