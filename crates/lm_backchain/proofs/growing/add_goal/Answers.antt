use Rattle.lm_backchain.proofs.GoalFacts.{goals_more}
use Rattle.lm_backchain.proofs.growing.add_goal.Goals as goal

pub returns : goal.returns
returns c goals h = goals_more c.args.task.now goals c.args.fact _ _ _ h c.in_ok-add_node.ensures.ok
