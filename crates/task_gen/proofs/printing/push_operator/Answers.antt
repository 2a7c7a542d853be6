use Rattle.std.proofs.Common.{◌≡◌, ◌∙◌, sym, ap, ◌∷◌, [], ◌++◌, length}
use Rattle.std.specs.Prelude.{decimal}
use Rattle.std.specs.List.{enumerate_from}
use Rattle.std.proofs.lemmas.List.{length-map}
use Rattle.std.proofs.lemmas.List.FromFn.{length-enumerate_from}
use Rattle.text_lines.specs.Texts.{text_of}
use Rattle.sas_reader.specs.Reading.{begin_of, end_of}
use Rattle.sas_reader.specs.declared.sections.Section.TheVariants.{Operator}
use Rattle.task_gen.specs.Printed.{old_value, change_lines, operator_lines}
use Rattle.task_gen.proofs.Grown.{printed_then, on_ok, change_lines_is}
use Rattle.task_gen.proofs.printing.push_operator.Goals as goal

pub push_changes-requires : goal.push_changes-requires
push_changes-requires c =
    let o = c.args.operator.now in
    ap length c.in_ok-standing.ensures.olds ∙ length-map (enumerate_from 0 o.effects) (old_value o.pre o.effects) ∙ length-enumerate_from 0 o.effects ∙ ap length (sym c.deref-2.ensures)

pub returns-clause-text : goal.returns-clause-text
unfolding operator_lines
returns-clause-text c =
    let o = c.args.operator.now in
    let text = c.args.text.now.items in
    let start = begin_of Operator in
    let lines = change_lines o.pre o.effects in
    let cost = decimal o.cost in
    let name = rw c.deref.ensures at c.in_ok-push_line-2.ensures in
    let same = change_lines_is o.pre o.effects c.deref-2.result.now c.in_ok-standing.standing.prevail.items c.in_ok-standing.standing.olds.items c.in_ok-standing.ensures.prevail c.in_ok-standing.ensures.olds c.deref-2.ensures in
    let changes : c.push_changes.new.text.items ≡ c.push_line-2.new.text.items ++ text_of lines = c.in_ok-push_changes.ensures ∙ ap (λ ls. c.push_line-2.new.text.items ++ text_of ls) same in
    let number = rw c.from.ensures at c.in_ok-push_count.ensures in
    let a = printed_then text (start ∷ []) (o.name ∷ []) _ _ c.in_ok-push_line.ensures name in
    let b = printed_then text (start ∷ o.name ∷ []) lines _ _ a changes in
    let d = printed_then text (start ∷ o.name ∷ lines) (cost ∷ []) _ _ b number in
    on_ok c.push_line-3.result (λ last. printed_then text (start ∷ o.name ∷ (lines ++ cost ∷ [])) (end_of Operator ∷ []) _ _ d last) c.push_line-3.ensures
