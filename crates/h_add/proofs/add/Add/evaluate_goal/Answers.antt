use Rattle.std.proofs.Common.{ap, subst, sym}
use Rattle.relaxed_task.specs.Relaxations.{IsRelaxed}
use Rattle.relaxed_task.specs.declared.relaxation.Lists.{Lists}
use Rattle.h_add.proofs.EvaluatedLaws.{goals_by_number, value_of_goals, dead_by_goals}
use Rattle.h_add.specs.Values.{Evaluator}
use Rattle.h_add.proofs.add.Add.evaluate_goal.Goals as goal

pub returns-clause-value : goal.returns-clause-value
returns-clause-value c parts kind is of =
    let own : IsRelaxed parts kind c.self.inside.network = subst (λ (l : Lists). IsRelaxed parts kind l) (sym (ap (λ (e : Evaluator). e.relaxed) c.self.view_is)) is in
    value_of_goals parts kind c.self.inside.network c.args.state.now c.evaluate_goals.new.self.costs _ own (goals_by_number parts kind c.self.inside.network c.args.state.now c.evaluate_goals.new.self.costs own of (c.evaluate_goals.ensures.goals parts kind own of)) c.goal_sum.ensures

pub returns-clause-dead : goal.returns-clause-dead
returns-clause-dead c parts kind is of =
    let own : IsRelaxed parts kind c.self.inside.network = subst (λ (l : Lists). IsRelaxed parts kind l) (sym (ap (λ (e : Evaluator). e.relaxed) c.self.view_is)) is in
    dead_by_goals parts kind c.self.inside.network c.args.state.now c.evaluate_goals.new.self.costs _ own (goals_by_number parts kind c.self.inside.network c.args.state.now c.evaluate_goals.new.self.costs own of (c.evaluate_goals.ensures.goals parts kind own of)) c.goal_sum.ensures
