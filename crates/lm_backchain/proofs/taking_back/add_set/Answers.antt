use Rattle.std.proofs.lemmas.Bool.{both_ways}
use Rattle.lm_backchain.proofs.SharedConditions.{adds_set, adds_none, collected_facts}
use Rattle.lm_backchain.proofs.taking_back.add_set.Goals as goal

pub is_set_for-requires-clause-facts : goal.is_set_for-requires-clause-facts
is_set_for-requires-clause-facts c = rw c.deref.ensures.value (collected_facts c.args.task.now c.args.predicate.now c.args.lists.now c.in_ok-set.set.items c.requires.facts c.in_ok-set.ensures)

pub is_set_for-requires-clause-collected : goal.is_set_for-requires-clause-collected
is_set_for-requires-clause-collected c = rw c.deref.ensures.value c.in_ok-set.ensures

pub returns-in_ok-put_set : goal.returns-in_ok-put_set
returns-in_ok-put_set c = adds_set c.args.task.now c.args.lists.now c.args.predicate.now c.args.sets.now.items _ c.in_ok-set.set.items c.in_ok-set.ensures ((rw c.deref.ensures.value at c.is_set_for.ensures).0 c.if-is_set_for.true) c.in_ok-put_set.ensures

pub returns-else-is_set_for : goal.returns-else-is_set_for
returns-else-is_set_for c = adds_none c.args.task.now c.args.lists.now c.args.predicate.now c.args.sets.now.items c.in_ok-set.set.items c.in_ok-set.ensures (λ s. both_ways _ c.if-is_set_for.false ((rw c.deref.ensures.value at c.is_set_for.ensures).1 s))
