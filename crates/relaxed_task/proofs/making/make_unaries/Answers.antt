use Rattle.std.proofs.Common.{◌∙◌, ap, ◌++◌, map}
use Rattle.relaxed_task.specs.Making.{rule_by}
use Rattle.relaxed_task.proofs.TaskNumbers.{operators_numbered, rules_numbered, unaries_same}
use Rattle.relaxed_task.proofs.making.make_unaries.Goals as goal

pub add_operators-requires-clause-operators : goal.add_operators-requires-clause-operators
add_operators-requires-clause-operators c = operators_numbered c.args.task.now c.args.offsets.now _ c.parts-parts.ensures.well_formed c.requires.offsets c.requires.marks

pub add_rules-requires-clause-rules : goal.add_rules-requires-clause-rules
add_rules-requires-clause-rules c =
    let same = c.deref.ensures ∙ ap (λ p. p.rules) c.parts-parts.ensures.parts in
    rw same (rules_numbered c.args.task.now c.args.offsets.now _ c.parts-parts.ensures.well_formed c.requires.offsets (c.in_ok-add_operators.ensures.long ∙ c.requires.marks))

pub returns-clause-unaries : goal.returns-clause-unaries
returns-clause-unaries c =
    let same = c.deref.ensures ∙ ap (λ p. p.rules) c.parts-parts.ensures.parts in
    unaries_same c.args.task.now c.args.kind c.args.offsets.now _ _ _ c.parts-parts.ensures.well_formed c.requires.offsets c.new-unaries.ensures.items c.in_ok-add_operators.ensures.unaries (c.in_ok-add_rules.ensures.unaries ∙ ap (λ rs. c.add_operators.new.unaries.items ++ map (rule_by c.args.offsets.now) rs) same)
