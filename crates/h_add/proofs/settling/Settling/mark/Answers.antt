use Rattle.std.proofs.Common.{◌∙◌, sym, ap, length, arith}
use Rattle.h_add.proofs.Steps.{there_way, there_marked, old_marked}
use Rattle.h_add.proofs.settling.Settling.mark.Goals as goal
use Rattle.h_add.proofs.settling.Settling.mark.Goals.{else-fact-costs-via-then-fact-costs+else-not-is_settled, else-fact-costs-via-else-fact-costs}

pub walk-requires-clause-way : goal.walk-requires-clause-way
walk-requires-clause-way c =
    there_way _ _ c.args.self.now c.be_there.new.self c.args.fact _ c.requires.facts c.be_there.ensures.facts (omega (arith, ap length c.costs.ensures)) (sym c.is_settled.ensures ∙ c.if-not-is_settled.true) c.be_there.ensures.there c.needs.ensures.needs c.requires.way

pub returns-then-not-is_settled : goal.returns-then-not-is_settled
returns-then-not-is_settled c = there_marked _ c.args.self.now _ _ c.args.fact c.be_there.ensures.facts (omega (arith, ap length c.costs.ensures)) (sym c.is_settled.ensures ∙ c.if-not-is_settled.true) c.be_there.ensures.there c.walk.ensures.way c.walk.ensures.counted

pub returns-else-fact-costs : goal.returns-else-fact-costs
returns-else-fact-costs c = old_marked _ c.args.self.now c.args.fact (λ within. elim c.else-fact-costs.branch [
  | else-fact-costs-via-then-fact-costs+else-not-is_settled w ↦ sym w.is_settled.ensures ∙ w.if-not-is_settled.false
  | else-fact-costs-via-else-fact-costs w ↦ absurd (omega (arith, ap length c.costs.ensures))
]) c.requires.way
