use Rattle.std.proofs.Common.{◌≡◌, length, drop}
use Rattle.relaxed_task.specs.Making.{AreMarked, with_all, all_numbers_by}
use Rattle.relaxed_task.proofs.conditions.add_facts.Given as goal

abbrev pub invariant-loop-fact : goal.invariant-loop-fact
invariant-loop-fact l =
    (with_all l.facts.items (all_numbers_by l.offsets (drop l.fact-index l.more)) ≡ with_all l.initial.facts.items (all_numbers_by l.offsets l.more))
    × AreMarked l.marks l.facts.items
    × (length l.marks ≡ length l.initial.marks)
