use Rattle.std.proofs.Common.{◌∙◌, sym, None}
use Rattle.std.proofs.lemmas.Bool.{both_ways}
use Rattle.lm_backchain.proofs.SharedConditions.{taken_back_closed}
use Rattle.lm_backchain.proofs.FirstAchievers.{knows_from, start_long}
use Rattle.lm_backchain.proofs.Sound.{first_facts}
use Rattle.lm_backchain.proofs.taking_back.taken_back.Goals as goal

pub returns-then-not-is_open-clause-sets : goal.returns-then-not-is_open-clause-sets
returns-then-not-is_open-clause-sets c = rw c.new.ensures.items (taken_back_closed c.args.task.now c.args.node.now (sym c.is_open.ensures ∙ c.if-not-is_open.true))

pub is_open-requires-clause-long : goal.is_open-requires-clause-long
is_open-requires-clause-long c = start_long c.args.task.now c.args.start.now c.requires.add.well_formed c.requires.start

pub back_from-requires-clause-long : goal.back_from-requires-clause-long
back_from-requires-clause-long c = start_long c.args.task.now c.args.start.now c.requires.add.well_formed c.requires.start

pub firsts_of-requires-clause-knows : goal.firsts_of-requires-clause-knows
firsts_of-requires-clause-knows c = knows_from c.args.task.now c.args.node.now c.args.start.now c.args.add.now c.evaluate_without.new.self c.requires.start c.requires.add c.evaluate_without.ensures.task c.requires.node c.evaluate_without.ensures.costs

pub back_from-requires-clause-facts : goal.back_from-requires-clause-facts
back_from-requires-clause-facts c = rw c.deref.ensures.value (λ conds m. first_facts c.args.task.now c.args.node.now conds c.requires.add.well_formed (c.in_ok-firsts.ensures.each conds m))

pub returns-clause-sets : goal.returns-clause-sets
returns-clause-sets c = (rw c.deref.ensures.value at c.in_ok-sets.ensures) c.args.node.now (sym c.is_open.ensures ∙ c.if-not-is_open.false) c.in_ok-firsts.ensures

pub returns-then-not-is_open-clause-keeps : goal.returns-then-not-is_open-clause-keeps
returns-then-not-is_open-clause-keeps c = record { single = None; singles = c.in_ok-push.ensures.items; kept = λ s. both_ways _ (sym c.is_open.ensures ∙ c.if-not-is_open.true) s.are_open }

pub returns-clause-keeps : goal.returns-clause-keeps
returns-clause-keeps c =
    let free = sym c.is_open.ensures ∙ c.if-not-is_open.false in
    let knows = knows_from c.args.task.now c.args.node.now c.args.start.now c.args.add.now c.evaluate_without.new.self c.requires.start c.requires.add c.evaluate_without.ensures.task c.requires.node c.evaluate_without.ensures.costs in
    record { single = c.in_ok-kept.kept; singles = c.in_ok-push-2.ensures.items; kept = c.in_ok-kept.ensures c.args.task.now knows c.requires.node free }
