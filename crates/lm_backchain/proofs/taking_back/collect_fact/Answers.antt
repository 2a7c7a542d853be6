use Rattle.std.proofs.Common.{◌∙◌, sym, ap, arith}
use Rattle.std.proofs.lemmas.Bool.{both_ways}
use Rattle.sas_task.specs.Facts.{predicate_of}
use Rattle.lm_backchain.specs.Asked.{IsFactOf}
use Rattle.lm_backchain.proofs.SharedConditions.{collects_full, collects_one, collects_none}
use Rattle.lm_backchain.proofs.taking_back.collect_fact.Goals as goal

pub returns-then-len-gt4 : goal.returns-then-len-gt4
returns-then-len-gt4 c = collects_full c.args.set.now.items (IsFactOf c.args.task.now c.args.predicate.now c.args.fact) c.requires (omega arith)

pub returns-in_ok-put_fact : goal.returns-in_ok-put_fact
returns-in_ok-put_fact c = collects_one c.args.task.now c.args.predicate.now c.args.set.now.items _ c.args.fact c.requires c.in_ok-put_fact.ensures.ascending c.in_ok-put_fact.ensures.has (c.has_predicate.ensures.0 c.if-has_predicate.true)

pub returns-else-has_predicate : goal.returns-else-has_predicate
returns-else-has_predicate c = collects_none c.args.set.now.items (IsFactOf c.args.task.now c.args.predicate.now c.args.fact) c.requires
    (λ f w. both_ways _ c.if-has_predicate.false (c.has_predicate.ensures.1 (ap (predicate_of c.args.task.now) (sym w.0) ∙ w.1)))
