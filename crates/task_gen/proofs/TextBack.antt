-- The canonical text is a text of the task.
use Rattle.std.proofs.Common.{◌≡◌, ◌∙◌, ap, refl, ℕ, suc, ◌+◌, ◌≤◌, List, [], ◌∷◌, length, map, true, not, Option, Some, None, Result, Ok, Err, append-nil}
use Rattle.std.specs.Prelude.{slice_get}
use Rattle.std.specs.List.{list_all, filter, AllZip}
use Rattle.std.proofs.lemmas.Option.{some_pair_parts}
use Rattle.lama_num.proofs.ListLaws.{both}
use Rattle.text_lines.specs.Lines.{Place, lines_of}
use Rattle.text_lines.proofs.LineLaws.{lines_of-text_of}
use Rattle.sas_reader.specs.Formats.{Format, Done, Line, value_of}
use Rattle.sas_reader.specs.Reading.{most_bytes}
use Rattle.sas_reader.specs.TaskText.{task}
use Rattle.sas_reader.specs.Walks.{walk, next_by}
use Rattle.sas_reader.specs.FirstFault.{after, IsTextOf}
use Rattle.sas_reader.specs.declared.faults.SasFault.{SasFault}
use Rattle.sas_task.specs.WellFormed.{IsWellFormed, is_rule, is_default}
use Rattle.sas_task.specs.Order.{ordered, in_order, has_one_value_each, IsInOrder}
use Rattle.sas_task.specs.Refusals.{canonical_parts}
use Rattle.sas_task.specs.declared.contents.Variable.{Variable}
use Rattle.sas_task.specs.declared.contents.Operator.{Operator}
use Rattle.sas_task.specs.declared.contents.Rule.{Rule}
use Rattle.sas_task.specs.declared.contents.Parts.{Parts}
use Rattle.task_gen.specs.Printed.{task_lines, task_text}
use Rattle.task_gen.specs.ReadBack.{has_line_names, IsSameOperator, IsReadBack}
use Rattle.task_gen.proofs.Tested.{passes_rule}
use Rattle.task_gen.proofs.Sections.{given, reads_task}
use Rattle.task_gen.proofs.SameFacts.{has-ordered}

-- what a walk gave, and the lines that it left
abbrev given_by : {A : Type 0} → Result (A × Place) SasFault → Option (A × List (List ℕ))
given_by (Ok r) = Some (r.0, r.1.left)
given_by (Err fault) = None

-- lines that a walk takes whole are all wanted
after-walk : {A : Type 0} (format : Format A) (lines : List (List ℕ)) (n m : ℕ) (x : A) → walk format (record { left = lines; line = n }) ≡ Ok (x, record { left = []; line = m }) → after format n lines ≡ Some (Done x)
unfolding next_by
after-walk (Done y) [] n m x is = ap (λ z. Some (Done z)) (some_pair_parts y x [] [] (ap given_by is)).0
after-walk (Done y) (line ∷ lines) n m x is = let k : line ∷ lines ≡ [] = (some_pair_parts y x (line ∷ lines) [] (ap given_by is)).1 in cc
after-walk {A} (Line kind onward) [] n m x is =
    let k : ◌≡◌ {A = Result (A × Place) SasFault} (Err _) (Ok (x, record { left = []; line = m })) = is in cc
after-walk {A} (Line kind onward) (line ∷ lines) n m x is =
    elim (value_of kind n line) as (λ r. value_of kind n line ≡ r → after (Line kind onward) n (line ∷ lines) ≡ Some (Done x)) [
      | Ok value ↦ λ ok. rw ok (after-walk (onward value) lines (n + 1) m x (rw ok at is))
      | Err fault ↦ λ bad. let k : ◌≡◌ {A = Result (A × Place) SasFault} (Err fault) (Ok (x, record { left = []; line = m })) = rw bad at is in cc
    ] refl

text_of_given : (parts : Parts) → IsWellFormed parts → has_line_names parts ≡ true → length (task_text parts) ≤ most_bytes → IsTextOf (task_text parts) (canonical_parts (given parts))
text_of_given parts formed names short =
    let lines = task_lines parts in
    let read = reads_task parts formed names in
    let walked : walk task (record { left = lines; line = 1 }) ≡ Ok (given parts, record { left = []; line = 1 + length lines }) = rw (append-nil lines) at (read.reads [] 1) in
    let cut : lines_of (task_text parts) ≡ lines = lines_of-text_of lines read.bare in
    record {
      within = short;
      given = given parts;
      lines = rw cut (after-walk task lines 1 (1 + length lines) (given parts) walked);
      canonical_parts = refl;
    }

-- what is read is the task

no_defaults : (vs : List Variable) (init : List ℕ) (rules : List Rule) → list_all (is_rule vs init) rules ≡ true → filter (λ r. not (is_default init r.head)) rules ≡ rules
no_defaults vs init [] all = refl
no_defaults vs init (r ∷ rules) all =
    let each = both (is_rule vs init r) (list_all (is_rule vs init) rules) all in
    let other = (passes_rule vs init r each.0).other in
    rw other (ap (λ rs. r ∷ rs) (no_defaults vs init rules each.1))

in_order_twice : (o : Operator) → IsInOrder o → IsSameOperator o (in_order (in_order o))
in_order_twice o is = record {
  others = refl;
  facts = λ f. has-ordered (ordered o.pre o.effects) o.effects f ∙ has-ordered o.pre o.effects f;
  order = λ single. let once : ordered o.pre o.effects ≡ o.pre = is.ordered single in ap (λ fs. ordered fs o.effects) once ∙ once;
}

each_in_order : (os : List Operator) → ((i : ℕ) (o : Operator) → slice_get os i ≡ Some o → IsInOrder o) → AllZip IsSameOperator os (map in_order (map in_order os))
each_in_order [] each = tt
each_in_order (o ∷ os) each = (in_order_twice o (each 0 o refl), each_in_order os (λ i. each (suc i)))

ordered_again : (os : List Operator) → ((i : ℕ) (o : Operator) → slice_get os i ≡ Some o → IsInOrder o) → list_all (λ o. has_one_value_each o.pre) os ≡ true → map in_order os ≡ os
ordered_again [] each single = refl
ordered_again (o ∷ os) each single =
    let tests = both (has_one_value_each o.pre) (list_all (λ o. has_one_value_each o.pre) os) single in
    let here : in_order o ≡ o = ap (λ fs. record o { pre = fs }) ((each 0 o refl).ordered tests.0) in
    ap (λ x. x ∷ map in_order os) here ∙ ap (λ xs. o ∷ xs) (ordered_again os (λ i. each (suc i)) tests.1)

pub read_back : (parts : Parts) → IsWellFormed parts → has_line_names parts ≡ true → length (task_text parts) ≤ most_bytes → IsReadBack parts (task_text parts)
read_back parts formed names short =
    let kept : filter (λ r. not (is_default parts.init r.head)) parts.rules ≡ parts.rules = no_defaults parts.variables parts.init parts.rules formed.rules in
    record {
      again = canonical_parts (given parts);
      text = text_of_given parts formed names short;
      others = ap (λ rs. record parts { operators = map in_order (map in_order parts.operators); rules = rs }) kept;
      operators = each_in_order parts.operators formed.order;
      same = λ single.
          let once : map in_order parts.operators ≡ parts.operators = ordered_again parts.operators formed.order single in
          ap (λ rs. record parts { operators = map in_order (map in_order parts.operators); rules = rs }) kept
          ∙ ap (λ os. record parts { operators = os }) (ap (map in_order) once ∙ once);
    }
