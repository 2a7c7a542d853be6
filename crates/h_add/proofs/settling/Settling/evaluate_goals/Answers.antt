use Rattle.h_add.proofs.Steps.{goals_evaluated}
use Rattle.h_add.proofs.settling.Settling.evaluate_goals.Goals as goal

pub returns-clause-goals : goal.returns-clause-goals
returns-clause-goals c parts kind is of =
    goals_evaluated parts kind c.args.network.now c.args.state.now c.args.network.now.goals c.settle_goals.new.self is c.settle_goals.ensures.goals c.settle_goals.ensures.later.way (c.settle_goals.ensures.later.from _ _ (c.begin.ensures.from parts kind _ is of c.clear.ensures.none))
