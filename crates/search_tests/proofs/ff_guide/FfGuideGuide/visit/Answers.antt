use Rattle.guide.proofs.OperatorLaws.{none_preferred}
use Rattle.search_tests.proofs.ff_guide.FfGuideGuide.visit.Goals as goal

pub returns-in-Finite-clause-preferred : goal.returns-in-Finite-clause-preferred
returns-in-Finite-clause-preferred c = none_preferred c.new.result c.args._applicable.now c.new.ensures

pub returns-in-Infinite-clause-preferred : goal.returns-in-Infinite-clause-preferred
returns-in-Infinite-clause-preferred c = none_preferred c.new.result c.args._applicable.now c.new.ensures
