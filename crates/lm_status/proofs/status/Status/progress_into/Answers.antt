use Rattle.lm_status.proofs.Loops.{next_stands}
use Rattle.lm_status.proofs.status.Status.progress_into.Goals as goal

pub returns : goal.returns
returns c = λ states stands. next_stands c.args.self.now.graph c.args.parent.now c.accept.new.out states c.args.state.now stands c.accept.ensures
