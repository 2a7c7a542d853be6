use Rattle.std.proofs.Common.{◌∷◌, [], ◌++◌}
use Rattle.sas_reader.specs.Reading.{begin_of, end_of}
use Rattle.sas_reader.specs.declared.sections.Section.TheVariants.{Rule}
use Rattle.task_gen.specs.Printed.{fact_lines, head_line, rule_lines}
use Rattle.task_gen.proofs.Grown.{printed_then, on_ok}
use Rattle.task_gen.proofs.printing.push_rule.Goals as goal

pub returns : goal.returns
unfolding rule_lines
returns c =
    let r = c.args.rule.now in
    let text = c.args.text.now.items in
    let start = begin_of Rule in
    let conds = fact_lines r.conds in
    let head = head_line c.args.init.now r.head in
    let facts = rw c.deref.ensures at c.in_ok-push_facts.ensures in
    let a = printed_then text (start ∷ []) conds _ _ c.in_ok-push_line.ensures facts in
    let b = printed_then text (start ∷ conds) (head ∷ []) _ _ a c.in_ok-push_head.ensures in
    on_ok c.push_line-2.result (λ last. printed_then text (start ∷ (conds ++ head ∷ [])) (end_of Rule ∷ []) _ _ b last) c.push_line-2.ensures
