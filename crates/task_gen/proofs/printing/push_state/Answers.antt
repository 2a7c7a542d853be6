use Rattle.std.proofs.Common.{◌∷◌, [], map}
use Rattle.std.specs.Prelude.{decimal}
use Rattle.sas_reader.specs.Reading.{begin_of, end_of}
use Rattle.sas_reader.specs.declared.sections.Section.TheVariants.{State}
use Rattle.task_gen.specs.Printed.{state_lines}
use Rattle.task_gen.proofs.Grown.{printed_then, on_ok}
use Rattle.task_gen.proofs.printing.push_state.Goals as goal

pub returns : goal.returns
unfolding state_lines
returns c =
    on_ok c.push_line-2.result
    (λ last. printed_then c.args.text.now.items (begin_of State ∷ (map decimal c.args.init.now)) (end_of State ∷ []) _ _
    (printed_then c.args.text.now.items (begin_of State ∷ []) (map decimal c.args.init.now) _ _ c.in_ok-push_line.ensures c.in_ok-push_values.ensures) last)
    c.push_line-2.ensures
