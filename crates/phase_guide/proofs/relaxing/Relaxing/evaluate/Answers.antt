use Rattle.phase_guide.proofs.EvaluatorAnswers.{tells_nothing}
use Rattle.phase_guide.proofs.relaxing.Relaxing.evaluate.Goals as goal

pub returns-in-Nothing-clause-tells : goal.returns-in-Nothing-clause-tells
returns-in-Nothing-clause-tells c kind is = tells_nothing c.args.task.now kind c.args.state.now (record { add = 0; ff = 0 }) c.args.self.now c.in-Nothing.is
