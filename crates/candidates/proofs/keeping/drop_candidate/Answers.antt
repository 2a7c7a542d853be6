use Rattle.std.proofs.Common.{subst}
use Rattle.driver_core.specs.Turns.{turn_of, offers}
use Rattle.candidates.specs.Judging.{real_cost}
use Rattle.candidates.proofs.Gathered.{Stands, plan_dropped}
use Rattle.candidates.proofs.keeping.drop_candidate.Goals as goal

pub returns-clause-core : goal.returns-clause-core
returns-clause-core c events kept bound is keeps above =
    let turn = turn_of c.args.round c.args.entry in
    plan_dropped c.args.core.now c.step.new.self events turn kept bound (real_cost c.args.fault) c.step.ensures.setting
    (subst (λ cost. Stands c.args.core.now c.step.new.self events (offers turn cost)) c.real_cost-cost.ensures (c.step.ensures.stands events))
    is keeps above
