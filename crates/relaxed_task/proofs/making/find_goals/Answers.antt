use Rattle.std.proofs.Common.{◌∙◌, ap, ◌++◌, []}
use Rattle.relaxed_task.specs.Numbers.{distinct}
use Rattle.relaxed_task.specs.Making.{all_numbers_by}
use Rattle.relaxed_task.proofs.TaskNumbers.{goals_numbered, goals_same}
use Rattle.relaxed_task.proofs.making.find_goals.Goals as goal

pub conditions-requires-clause-first : goal.conditions-requires-clause-first
conditions-requires-clause-first c =
    let same = c.deref.ensures ∙ ap (λ p. p.goal) c.parts-parts.ensures.parts in
    rw same (goals_numbered c.args.task.now c.args.offsets.now _ c.parts-parts.ensures.well_formed c.requires.offsets c.requires.marks)

pub returns : goal.returns
returns c =
    let same = c.deref.ensures ∙ ap (λ p. p.goal) c.parts-parts.ensures.parts in
    goals_same c.args.task.now c.args.offsets.now _ c.parts-parts.ensures.well_formed c.requires.offsets
    (c.in_ok-goals.ensures.facts ∙ ap (λ fs. distinct (all_numbers_by c.args.offsets.now (fs ++ []))) same)
