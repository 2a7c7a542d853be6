use Rattle.lm_status.proofs.Loops.{first_stands}
use Rattle.lm_status.proofs.status.Status.first_into.Goals as goal

pub returns : goal.returns
returns c = first_stands c.args.self.now.graph c.accept.new.out c.args.state.now c.accept.ensures
