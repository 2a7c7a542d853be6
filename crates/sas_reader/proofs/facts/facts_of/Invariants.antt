use Rattle.sas_reader.proofs.Known.{AreFirst}
use Rattle.sas_reader.proofs.facts.facts_of.Given as goal

abbrev pub invariant-loop-pair : goal.invariant-loop-pair
invariant-loop-pair l = AreFirst l.variables l.pairs l.facts.items l.pair-index
