use Rattle.std.proofs.Common.{◌∙◌, ap, [], List, refl}
use Rattle.sas_task.specs.declared.contents.Fact.{Fact}
use Rattle.relaxed_task.specs.Numbers.{numbers_of, is_among}
use Rattle.h_add.proofs.Steps.{all_evaluated, order_of}
use Rattle.h_add.proofs.settling.Settling.evaluate.Goals as goal

pub returns-clause-evaluated : goal.returns-clause-evaluated
returns-clause-evaluated c parts kind is of there =
    all_evaluated parts kind c.args.network.now c.args.state.now (numbers_of parts.variables c.args.excluded.now) c.settle_all.new.self is c.settle_all.ensures.idle c.settle_all.ensures.later.way
    (c.settle_all.ensures.later.from _ _ (c.begin.ensures.from parts kind _ is of (c.leave_all_out.ensures.out parts kind is there c.clear.ensures.none)))

pub returns-clause-order : goal.returns-clause-order
returns-clause-order c parts kind is of none =
    let flags = c.leave_all_out.ensures.out parts kind is (rw none refl) c.clear.ensures.none in
    order_of _ _ c.settle_all.new.self c.settle_all.ensures.idle c.settle_all.ensures.later.way
    (c.settle_all.ensures.later.from _ _ (c.begin.ensures.from parts kind [] is of (λ fact. flags fact ∙ ap (λ (facts : List Fact). is_among (numbers_of parts.variables facts) fact) none)))
