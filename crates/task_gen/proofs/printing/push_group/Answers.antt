use Rattle.std.proofs.Common.{◌∷◌, []}
use Rattle.sas_reader.specs.Reading.{begin_of, end_of}
use Rattle.sas_reader.specs.declared.sections.Section.TheVariants.{MutexGroup}
use Rattle.task_gen.specs.Printed.{group_lines, fact_lines}
use Rattle.task_gen.proofs.Grown.{printed_then, on_ok}
use Rattle.task_gen.proofs.printing.push_group.Goals as goal

pub returns : goal.returns
unfolding group_lines
returns c =
    on_ok c.push_line-2.result
    (λ last. printed_then c.args.text.now.items (begin_of MutexGroup ∷ (fact_lines c.args.group.now)) (end_of MutexGroup ∷ []) _ _
    (printed_then c.args.text.now.items (begin_of MutexGroup ∷ []) (fact_lines c.args.group.now) _ _ c.in_ok-push_line.ensures c.in_ok-push_facts.ensures) last)
    c.push_line-2.ensures
