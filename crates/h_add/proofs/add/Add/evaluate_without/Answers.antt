use Rattle.std.proofs.Common.{rules}
use Rattle.relaxed_task.specs.Numbers.{numbers_of}
use Rattle.h_add.proofs.EvaluatedLaws.{evaluated_facts}
use Rattle.h_add.specs.Values.{IsEvaluatedByNumber}
use Rattle.h_add.proofs.add.Add.evaluate_without.Goals as goal

pub returns-clause-costs : goal.returns-clause-costs
returns-clause-costs c parts kind is of there =
    let each : IsEvaluatedByNumber parts kind c.args.state.now (numbers_of parts.variables c.args.excluded.now) c.evaluate.new.self.costs = search rules in
    evaluated_facts parts kind c.args.state.now c.args.excluded.now c.evaluate.new.self.costs is.well_formed of there each
