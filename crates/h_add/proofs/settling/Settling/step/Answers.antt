use Rattle.std.proofs.Common.{◌∙◌, sym}
use Rattle.h_add.proofs.Steps.{taken_within, step_given, given_later, given_less, none_later, passed_later, passed_less}
use Rattle.h_add.proofs.settling.Settling.step.Goals as goal

pub returns-in_default-clause-later : goal.returns-in_default-clause-later
returns-in_default-clause-later c = none_later _ _ _ c.in_default.ensures.rest c.in_default.ensures.popped.0 c.requires.way

pub gives-fact-requires : goal.gives-fact-requires
gives-fact-requires c = taken_within _ c.args.self.now c.pop.new.self c.in-Some.entry c.in-Some.ensures.popped c.in-Some.ensures.places c.requires.way

pub walk-requires-clause-way : goal.walk-requires-clause-way
walk-requires-clause-way c =
    (step_given _ _ c.args.self.now c.pop.new.self c.give.new.self _ _ c.in-Some.entry c.requires.facts c.in-Some.ensures.facts c.in-Some.ensures.places c.in-Some.ensures.rest c.in-Some.ensures.popped c.gives-fact.ensures.gives c.gives-fact.ensures.below
    (sym c.is_settled.ensures ∙ c.if-not-is_settled.true) c.give.ensures c.needs.ensures.needs c.requires.way).way

pub returns-then-not-is_settled-clause-later : goal.returns-then-not-is_settled-clause-later
returns-then-not-is_settled-clause-later c =
    given_later _ _ _ _ _ _ _ (step_given _ _ c.args.self.now c.pop.new.self c.give.new.self _ _ c.in-Some.entry c.requires.facts c.in-Some.ensures.facts c.in-Some.ensures.places c.in-Some.ensures.rest c.in-Some.ensures.popped c.gives-fact.ensures.gives c.gives-fact.ensures.below
    (sym c.is_settled.ensures ∙ c.if-not-is_settled.true) c.give.ensures c.needs.ensures.needs c.requires.way) c.walk.ensures.way c.walk.ensures.counted

pub returns-then-not-is_settled-clause-less : goal.returns-then-not-is_settled-clause-less
returns-then-not-is_settled-clause-less c =
    given_less _ _ _ _ _ _ _ (step_given _ _ c.args.self.now c.pop.new.self c.give.new.self _ _ c.in-Some.entry c.requires.facts c.in-Some.ensures.facts c.in-Some.ensures.places c.in-Some.ensures.rest c.in-Some.ensures.popped c.gives-fact.ensures.gives c.gives-fact.ensures.below
    (sym c.is_settled.ensures ∙ c.if-not-is_settled.true) c.give.ensures c.needs.ensures.needs c.requires.way) c.walk.ensures.counted

pub returns-else-not-is_settled-clause-later : goal.returns-else-not-is_settled-clause-later
returns-else-not-is_settled-clause-later c =
    passed_later _ c.args.self.now c.pop.new.self _ c.in-Some.entry c.in-Some.ensures.places c.in-Some.ensures.rest c.in-Some.ensures.popped c.gives-fact.ensures.gives (sym c.is_settled.ensures ∙ c.if-not-is_settled.false) c.requires.way

pub returns-else-not-is_settled-clause-less : goal.returns-else-not-is_settled-clause-less
returns-else-not-is_settled-clause-less c = passed_less c.args.self.now c.pop.new.self c.in-Some.entry c.in-Some.ensures.rest c.in-Some.ensures.popped
