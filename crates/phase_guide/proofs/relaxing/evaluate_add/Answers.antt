use Rattle.phase_guide.proofs.EvaluatorAnswers.{tells_additive}
use Rattle.phase_guide.proofs.relaxing.evaluate_add.Goals as goal

pub returns-clause-tells : goal.returns-clause-tells
returns-clause-tells c kind is =
    tells_additive c.args.task.now kind c.args.state.now c.evaluate_goal.new.self c.evaluate_goal.result c.both.result c.both.ensures.alive c.both.ensures.dead
    (c.evaluate_goal.ensures.value c.args.task.now kind is c.requires) (c.evaluate_goal.ensures.dead c.args.task.now kind is c.requires)
