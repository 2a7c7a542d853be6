use Rattle.sas_reader.proofs.Known.{facts_more, facts_stop, facts_end}
use Rattle.sas_reader.specs.declared.numbers.Pair.{Pair}
use Rattle.sas_reader.proofs.facts.facts_of.Goals as goal

abbrev nothing : Pair
nothing = record { var = 0; val = 0 }

pub loop-pair-preserved : goal.loop-pair-preserved
loop-pair-preserved c =
    rw c.in_ok-push-in-Some.ensures.items (facts_more c.args.variables.now c.args.pairs.now c.loop-pair.facts.items c.loop-pair.pair-index nothing c.in-Some.fact c.loop-pair-test.true c.loop-pair.invariant c.in-Some.ensures)

pub returns-in-None : goal.returns-in-None
returns-in-None c = facts_stop c.args.variables.now c.args.pairs.now c.loop-pair.pair-index nothing c.loop-pair-test.true c.in-None.ensures

pub returns : goal.returns
returns c = facts_end c.args.variables.now c.args.pairs.now c.loop-pair.facts.items c.loop-pair.pair-index c.loop-pair-test.false c.loop-pair.invariant
