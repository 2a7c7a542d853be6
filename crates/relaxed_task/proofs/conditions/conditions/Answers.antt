use Rattle.std.proofs.Common.{◌∙◌}
use Rattle.relaxed_task.proofs.Marks.{marked-below, two_lists}
use Rattle.relaxed_task.proofs.conditions.conditions.Goals as goal

pub clear-requires-clause-within : goal.clear-requires-clause-within
clear-requires-clause-within c = rw c.deref.ensures.value (marked-below _ _ c.in_ok-add_facts-2.ensures.marked)

pub returns-clause-facts : goal.returns-clause-facts
returns-clause-facts c = two_lists c.args.offsets.now c.args.first.now c.args.second.now _ _ _ c.in_ok-facts.ensures.items c.in_ok-add_facts.ensures.facts (c.from.ensures ∙ c.in_ok-add_facts-2.ensures.facts)
