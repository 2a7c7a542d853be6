use Rattle.std.proofs.Common.{◌∷◌, [], length}
use Rattle.std.specs.Prelude.{decimal}
use Rattle.sas_reader.specs.Reading.{begin_of, end_of}
use Rattle.sas_reader.specs.declared.sections.Section.TheVariants.{Variable}
use Rattle.task_gen.specs.Printed.{variable_lines, number_or_none}
use Rattle.task_gen.proofs.Grown.{printed_then, on_ok}
use Rattle.task_gen.proofs.printing.push_variable.Goals as goal

pub returns : goal.returns
unfolding variable_lines
returns c =
    let v = c.args.variable.now in
    let text = c.args.text.now.items in
    let start = begin_of Variable in
    let layer = number_or_none v.layer in
    let count = decimal (length v.values) in
    let name = rw c.deref.ensures at c.in_ok-push_line-2.ensures in
    let range = rw c.len.ensures at c.in_ok-push_count.ensures in
    let names = rw c.deref-2.ensures at c.in_ok-push_names.ensures in
    let a = printed_then text (start ∷ []) (v.name ∷ []) _ _ c.in_ok-push_line.ensures name in
    let b = printed_then text (start ∷ v.name ∷ []) (layer ∷ []) _ _ a c.in_ok-push_layer.ensures in
    let d = printed_then text (start ∷ v.name ∷ layer ∷ []) (count ∷ []) _ _ b range in
    let e = printed_then text (start ∷ v.name ∷ layer ∷ count ∷ []) v.values _ _ d names in
    on_ok c.push_line-3.result (λ last. printed_then text (start ∷ v.name ∷ layer ∷ count ∷ v.values) (end_of Variable ∷ []) _ _ e last) c.push_line-3.ensures
