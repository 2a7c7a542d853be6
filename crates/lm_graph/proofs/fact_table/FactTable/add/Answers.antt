use Rattle.std.proofs.Common.{refl, get_or}
use Rattle.sas_task.specs.declared.contents.Fact.{Fact}
use Rattle.lm_graph.proofs.NumbersOfFacts.{adds_none, adds_more}
use Rattle.lm_graph.proofs.fact_table.FactTable.add.Goals as goal

pub loop-fact-init : goal.loop-fact-init
loop-fact-init c = adds_none c.args.self.now c.args.number

pub loop-fact-preserved : goal.loop-fact-preserved
loop-fact-preserved c =
    let d : Fact = record { var = 0; val = 0 } in
    adds_more _ _ _ c.args.facts.now c.loop-fact.fact-index (get_or c.args.facts.now c.loop-fact.fact-index d) d c.args.number c.loop-fact-test.true refl c.loop-fact.invariant c.in_ok-put.ensures
