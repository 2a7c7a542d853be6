use Rattle.std.proofs.Common.{◌∙◌, sym}
use Rattle.sas_task.specs.Facts.{same_fact}
use Rattle.lm_backchain.specs.Asked.{all_have}
use Rattle.lm_backchain.specs.Backchain.{has}
use Rattle.lm_backchain.proofs.SharedConditions.{and_yes, and_no}
use Rattle.lm_backchain.proofs.taking_back.put_shared.Goals as goal

pub returns-in_ok-put_fact-clause-has : goal.returns-in_ok-put_fact-clause-has
returns-in_ok-put_fact-clause-has c other = c.in_ok-put_fact.ensures.has other ∙ and_yes (same_fact other c.args.fact) (all_have c.args.lists.now c.args.fact) (has c.args.facts.now.items other) (sym c.all_have.ensures ∙ c.if-all_have.true)

pub returns-else-all_have-clause-has : goal.returns-else-all_have-clause-has
returns-else-all_have-clause-has c other = and_no (same_fact other c.args.fact) (all_have c.args.lists.now c.args.fact) (has c.args.facts.now.items other) (sym c.all_have.ensures ∙ c.if-all_have.false)
