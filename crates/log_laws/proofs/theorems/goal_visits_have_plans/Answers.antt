use Rattle.log_laws.proofs.SpaceLaws.{goal_plan}
use Rattle.log_laws.proofs.theorems.goal_visits_have_plans.Goals as goal

pub returns : goal.returns
returns c phase visits pops n is lawful ends = goal_plan phase visits pops n is lawful ends
