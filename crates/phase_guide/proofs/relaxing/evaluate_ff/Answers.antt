use Rattle.std.proofs.Common.{◌∙◌, sym, subst, List, ℕ, []}
use Rattle.relaxed_task.specs.Relaxations.{IsRelaxed}
use Rattle.relaxed_task.specs.declared.relaxation.Lists.{Lists}
use Rattle.h_add.specs.Values.{IsEvaluated}
use Rattle.phase_guide.proofs.EvaluatorAnswers.{of_goals, tells_planning}
use Rattle.phase_guide.proofs.relaxing.evaluate_ff.Goals as goal

pub returns-clause-tells : goal.returns-clause-tells
returns-clause-tells c is =
    let kind = c.args.ff.now.kind in
    let relaxed : IsRelaxed c.args.task.now kind c.additive.result.now.relaxed = subst (λ (l : Lists). IsRelaxed c.args.task.now kind l) (sym (c.additive.ensures.task ∙ c.evaluate-value.ensures.task)) is in
    let evaluated : IsEvaluated c.args.task.now kind c.args.state.now [] c.additive.result.now.costs = subst (λ (costs : List ℕ). IsEvaluated c.args.task.now kind c.args.state.now [] costs) (sym c.additive.ensures.costs) (c.evaluate-value.ensures.costs is c.requires) in
    tells_planning c.args.task.now kind c.args.state.now c.evaluate-value.new.self c.goal_value.result c.evaluate-value.result c.both.result c.both.ensures.alive c.both.ensures.dead
    (of_goals c.args.task.now kind c.args.state.now c.goal_value.result is.well_formed (c.goal_value.ensures.value c.args.task.now kind c.args.state.now [] relaxed evaluated))
    (c.goal_value.ensures.dead c.args.task.now kind c.args.state.now relaxed evaluated)
    (c.evaluate-value.ensures.answer is c.requires)
