use Rattle.std.proofs.Common.{◌∙◌, ap, arith}
use Rattle.cost_queue.specs.Queues.{price_of}
use Rattle.h_add.specs.UnderWay.{Settlement}
use Rattle.h_add.proofs.ReachedSums.{met_all, met_some, counts_some, counts_idle}
use Rattle.h_add.proofs.settling.Settling.meet.Goals as goal

pub count-requires-clause-some : goal.count-requires-clause-some
count-requires-clause-some c = (counts_some _ _ _ c.args.self.now c.requires.place _ c.requires.way.way).0

pub count-requires-clause-small : goal.count-requires-clause-small
count-requires-clause-small c = (counts_some _ _ _ c.args.self.now c.requires.place _ c.requires.way.way).1

pub offer-requires-clause-idle : goal.offer-requires-clause-idle
offer-requires-clause-idle c = ap (λ (s : Settlement). price_of s.waiting c.args.place) c.in-Some.ensures.counted ∙ counts_idle _ _ _ c.args.self.now c.requires.place _ c.requires.way.way

pub returns-in-Some-clause-way : goal.returns-in-Some-clause-way
returns-in-Some-clause-way c owed way =
    (met_all _ _ _ c.args.self.now c.requires.place owed way _ _ _ _ c.gives.ensures.gives (omega (arith, c.gives.ensures.below, c.requires.facts)) c.in-Some.ensures.long c.in-Some.ensures.counted c.in-Some.ensures.price c.offer.ensures).0

pub returns-in_default-clause-way : goal.returns-in_default-clause-way
returns-in_default-clause-way c owed way = (met_some _ _ _ c.args.self.now c.requires.place owed way _ c.in_default.ensures.counted c.in_default.ensures.price).0
