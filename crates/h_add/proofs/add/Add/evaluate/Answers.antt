use Rattle.std.proofs.Common.{rules, refl, []}
use Rattle.h_add.proofs.EvaluatedLaws.{evaluated_facts}
use Rattle.h_add.specs.Values.{IsEvaluatedByNumber}
use Rattle.h_add.proofs.add.Add.evaluate.Goals as goal

pub returns-clause-costs : goal.returns-clause-costs
returns-clause-costs c parts kind is of =
    let each : IsEvaluatedByNumber parts kind c.args.state.now [] c.evaluate.new.self.costs = search rules in
    evaluated_facts parts kind c.args.state.now [] c.evaluate.new.self.costs is.well_formed of refl each
