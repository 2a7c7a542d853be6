use Rattle.std.proofs.Common.{◌≡◌, ◌∙◌, sym, ap, subst, ◌≤◌, ◌++◌, length}
use Rattle.sas_reader.specs.Reading.{most_bytes}
use Rattle.task_gen.specs.Printed.{task_text}
use Rattle.task_gen.specs.ReadBack.{IsReadBack}
use Rattle.task_gen.proofs.TextBack.{read_back}
use Rattle.task_gen.proofs.printing.print.Goals as goal

pub returns-clause-read_back : goal.returns-clause-read_back
returns-clause-read_back c = λ names short.
    let printed : c.push_task.new.text.items ≡ task_text c.args.task.now =
    c.in_ok-push_task.ensures ∙ ap (λ t. t ++ task_text c.parts.result.now) c.new-text.ensures.items ∙ ap task_text c.parts.ensures.parts in
    let within : length (task_text c.args.task.now) ≤ most_bytes = subst (λ t. length t ≤ most_bytes) printed short in
    subst (IsReadBack c.args.task.now) (sym printed) (read_back c.args.task.now c.parts.ensures.well_formed names within)
