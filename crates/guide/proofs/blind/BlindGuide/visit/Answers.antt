use Rattle.guide.proofs.OperatorLaws.{none_preferred}
use Rattle.guide.proofs.blind.BlindGuide.visit.Goals as goal

pub returns-clause-preferred : goal.returns-clause-preferred
returns-clause-preferred c = none_preferred c.new.result c.args._applicable.now c.new.ensures
