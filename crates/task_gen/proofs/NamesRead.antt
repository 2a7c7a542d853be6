-- The names of a task that was read are such as lines can hold.
use Rattle.std.proofs.Common.{◌≡◌, ◌∙◌, sym, ap, subst, refl, ℕ, zero, suc, ◌+◌, ◌<◌, List, [], ◌∷◌, ◌++◌, length, map, reverse, Bool, true, false, ◌&&◌, not, nat_eq, nat_lt, nat_le, Option, Some, None, Result, Ok, Err, arith}
use Rattle.std.specs.Prelude.{option_and_then}
use Rattle.std.specs.List.{list_all}
use Rattle.std.specs.Result.{result_ok}
use Rattle.std.proofs.lemmas.List.{reverse-append, reverse-reverse}
use Rattle.std.proofs.lemmas.List.Folds.{list_all-append, list_all-map}
use Rattle.lama_num.proofs.ListLaws.{both}
use Rattle.text_lines.specs.Lines.{cut_lines, onto, is_margin, without_left, without_right, trimmed, lines_of}
use Rattle.text_lines.specs.Texts.{has_no_feed, begins_bare, is_line}
use Rattle.sas_task.specs.Limits.{longest_name}
use Rattle.sas_task.specs.Order.{in_order}
use Rattle.sas_task.specs.Refusals.{canonical_parts}
use Rattle.sas_task.proofs.TestLaws.{and_true, all-one}
use Rattle.sas_task.specs.declared.contents.Variable.{Variable}
use Rattle.sas_task.specs.declared.contents.Operator.{Operator}
use Rattle.sas_task.specs.declared.contents.Parts.{Parts}
use Rattle.sas_reader.specs.Formats.{Format, Done, Line, ◌>>=◌, Kind, Name, Value, value_of, line, times}
use Rattle.sas_reader.specs.Reading.{name_line}
use Rattle.sas_reader.specs.TaskText.{version, metric, variable, variables_from, variables, opening, groups, ends, changes, operator, operators, rules, rest, task}
use Rattle.sas_reader.specs.FirstFault.{after, IsTextOf}
use Rattle.sas_reader.specs.declared.faults.SasFault.{SasFault}
use Rattle.task_gen.specs.ReadBack.{is_line_name, has_line_names}

-- lines of a text

suffix : (bytes : List ℕ) → (front : List ℕ) × (bytes ≡ front ++ without_left bytes)
suffix [] = ([], refl)
suffix (b ∷ bytes) =
    let rest = suffix bytes in
    elim (is_margin b) as (λ t. is_margin b ≡ t → (front : List ℕ) × (b ∷ bytes ≡ front ++ without_left (b ∷ bytes))) [
      | true ↦ λ is. (b ∷ rest.0, ap (λ bs. b ∷ bs) rest.1 ∙ rw is refl)
      | false ↦ λ is. ([], rw is refl)
    ] refl

left_begins_bare : (bytes : List ℕ) → begins_bare (without_left bytes) ≡ true
left_begins_bare [] = refl
left_begins_bare (b ∷ bytes) = elim (is_margin b) as (λ t. is_margin b ≡ t → begins_bare (without_left (b ∷ bytes)) ≡ true) [
  | true ↦ λ is. rw is (left_begins_bare bytes)
  | false ↦ λ is. rw (is, is) refl
] refl

bare_front : (front back : List ℕ) → begins_bare (front ++ back) ≡ true → begins_bare front ≡ true
bare_front [] back is = refl
bare_front (b ∷ front) back is = is

trimmed_bare : (line : List ℕ) → (begins_bare (trimmed line) ≡ true) × (begins_bare (reverse (trimmed line)) ≡ true)
trimmed_bare line =
    let left = without_left line in
    let cut = suffix (reverse left) in
    let whole : left ≡ trimmed line ++ reverse cut.0 = sym (reverse-reverse left) ∙ ap reverse cut.1 ∙ reverse-append cut.0 (without_left (reverse left)) in
    (bare_front (trimmed line) (reverse cut.0) (subst (λ bs. begins_bare bs ≡ true) whole (left_begins_bare line)), rw (reverse-reverse (without_left (reverse left))) (left_begins_bare (reverse left)))

no_feed-onto : (b : ℕ) (pieces : List (List ℕ)) → nat_eq b 10 ≡ false → list_all has_no_feed pieces ≡ true → list_all has_no_feed (onto b pieces) ≡ true
no_feed-onto b [] other all = rw other refl
no_feed-onto b (piece ∷ pieces) other all = rw other all

no_feed-cut_lines : (bytes : List ℕ) → list_all has_no_feed (cut_lines bytes) ≡ true
no_feed-cut_lines [] = refl
no_feed-cut_lines (b ∷ bytes) = elim (nat_eq b 10) as (λ t. nat_eq b 10 ≡ t → list_all has_no_feed (cut_lines (b ∷ bytes)) ≡ true) [
  | true ↦ λ is. rw is (no_feed-cut_lines bytes)
  | false ↦ λ other. rw other (no_feed-onto b (cut_lines bytes) other (no_feed-cut_lines bytes))
] refl

no_feed-without_left : (bytes : List ℕ) → has_no_feed bytes ≡ true → has_no_feed (without_left bytes) ≡ true
no_feed-without_left [] all = refl
no_feed-without_left (b ∷ bytes) all = elim (is_margin b) as (λ t. is_margin b ≡ t → has_no_feed (without_left (b ∷ bytes)) ≡ true) [
  | true ↦ λ is. rw is (no_feed-without_left bytes (both (not (nat_eq b 10)) (has_no_feed bytes) all).1)
  | false ↦ λ is. rw is all
] refl

no_feed-reverse : (bytes : List ℕ) → has_no_feed bytes ≡ true → has_no_feed (reverse bytes) ≡ true
no_feed-reverse [] all = refl
no_feed-reverse (b ∷ bytes) all =
    let each = both (not (nat_eq b 10)) (has_no_feed bytes) all in
    rw (reverse-append (b ∷ []) bytes)
    (list_all-append (λ c. not (nat_eq c 10)) (reverse bytes) (b ∷ []) ∙ and_true (has_no_feed (reverse bytes)) (has_no_feed (b ∷ [])) (no_feed-reverse bytes each.1) (and_true (not (nat_eq b 10)) true each.0 refl))

is_line-trimmed : (line : List ℕ) → has_no_feed line ≡ true → is_line (trimmed line) ≡ true
is_line-trimmed line all =
    let left = no_feed-without_left line all in
    let ends = trimmed_bare line in
    and_true (has_no_feed (trimmed line)) _ (no_feed-reverse (without_left (reverse (without_left line))) (no_feed-without_left (reverse (without_left line)) (no_feed-reverse (without_left line) left)))
    (and_true (begins_bare (trimmed line)) _ ends.0 ends.1)

is_line-lines_of : (bytes : List ℕ) → list_all is_line (lines_of bytes) ≡ true
is_line-lines_of bytes = list_all-map is_line trimmed (cut_lines bytes) ∙ all-one has_no_feed (λ line. is_line (trimmed line)) (cut_lines bytes) is_line-trimmed (no_feed-cut_lines bytes)

-- what holds of what such lines give

abbrev Gives : {A : Type 0} → (A → Type 0) → Format A → Type 0
Gives P (Done x) = P x
Gives P (Line kind onward) = (n : ℕ) (text : List ℕ) (value : Value kind) → is_line text ≡ true → value_of kind n text ≡ Ok value → Gives P (onward value)

gives_after : {A : Type 0} (P : A → Type 0) (format : Format A) (lines : List (List ℕ)) (n : ℕ) (x : A) → list_all is_line lines ≡ true → after format n lines ≡ Some (Done x) → Gives P format → P x
gives_after P (Done y) [] n x bare is all = let e : Some (Done y) ≡ Some (Done x) = is in let same : y ≡ x = cc in subst P same all
gives_after {A} P (Done y) (line ∷ lines) n x bare is all =
    elim (nat_eq (length line) 0) as (λ t. nat_eq (length line) 0 ≡ t → P x) [
      | true ↦ λ empty. gives_after P (Done y) lines (n + 1) x (both (is_line line) (list_all is_line lines) bare).1 (rw empty at is) all
      | false ↦ λ full. let k : ◌≡◌ {A = Option (Format A)} None (Some (Done x)) = rw full at is in cc
    ] refl
gives_after {A} P (Line kind onward) [] n x bare is all = let k : ◌≡◌ {A = Option (Format A)} (Some (Line kind onward)) (Some (Done x)) = is in cc
gives_after {A} P (Line kind onward) (line ∷ lines) n x bare is all =
    let each = both (is_line line) (list_all is_line lines) bare in
    elim (value_of kind n line) as (λ r. value_of kind n line ≡ r → P x) [
      | Ok value ↦ λ ok. gives_after P (onward value) lines (n + 1) x each.1 (rw ok at is) (all n line value each.0 ok)
      | Err fault ↦ λ bad. let k : ◌≡◌ {A = Option (Format A)} None (Some (Done x)) = rw bad at is in cc
    ] refl

gives_any : {A : Type 0} (format : Format A) → Gives (λ x. Unit {0}) format
gives_any (Done x) = tt
gives_any (Line kind onward) = λ n text value bare is. gives_any (onward value)

gives_bind : {A B : Type 0} (P : A → Type 0) (Q : B → Type 0) (format : Format A) (more : A → Format B) → Gives P format → ((x : A) → P x → Gives Q (more x)) → Gives Q (format >>= more)
gives_bind P Q (Done x) more all next = next x all
gives_bind P Q (Line kind onward) more all next = λ n text value bare is. gives_bind P Q (onward value) more (all n text value bare is) next

gives_times : {A : Type 0} (test : A → Bool) (format : Format A) (n : ℕ) → Gives (λ x. test x ≡ true) format → Gives (λ xs. list_all test xs ≡ true) (times n format)
unfolding times
gives_times test format zero each = refl
gives_times test format (suc n) each =
    gives_bind (λ x. test x ≡ true) (λ xs. list_all test xs ≡ true) format _ each
    (λ x here. gives_bind (λ xs. list_all test xs ≡ true) (λ xs. list_all test xs ≡ true) (times n format) _ (gives_times test format n each) (λ xs rest. and_true (test x) (list_all test xs) here rest))

-- names

gives_name : (n : ℕ) (text name : List ℕ) → is_line text ≡ true → name_line n text ≡ Ok name → is_line_name name ≡ true
unfolding name_line
gives_name n text name bare is =
    elim (nat_lt 0 (length text)) as (λ t. nat_lt 0 (length text) ≡ t → is_line_name name ≡ true) [
      | true ↦ λ some. elim (nat_le (length text) longest_name) as (λ t. nat_le (length text) longest_name ≡ t → is_line_name name ≡ true) [
        | true ↦ λ short.
            let k : ◌≡◌ {A = Result (List ℕ) SasFault} (Ok text) (Ok name) = rw (some, short) at is in
            let same : text ≡ name = cc in
            subst (λ t. is_line_name t ≡ true) same (and_true (nat_lt 0 (length text)) (is_line text) some bare)
        | false ↦ λ long. let k : ◌≡◌ {A = Result (List ℕ) SasFault} (Err _) (Ok name) = rw (some, long) at is in cc
      ] refl
      | false ↦ λ none. let k : ◌≡◌ {A = Result (List ℕ) SasFault} (Err _) (Ok name) = rw none at is in cc
    ] refl

abbrev pub has_names : Variable → Bool
has_names v = is_line_name v.name && list_all is_line_name v.values

gives_variable : (var before : ℕ) → Gives (λ v. has_names v ≡ true) (variable var before)
unfolding variable
gives_variable var before = λ _ _ begin _ _ n text name bare is _ _ layer _ _ _ _ range _ _.
    gives_bind (λ values. list_all is_line_name values ≡ true) (λ v. has_names v ≡ true) (times range (line Name)) _ (gives_times is_line_name (line Name) range gives_name)
    (λ values all _ _ done _ _. and_true (is_line_name name) (list_all is_line_name values) (gives_name n text name bare is) all)

gives_variables_from : (n var before : ℕ) → Gives (λ vs. list_all has_names vs ≡ true) (variables_from n var before)
unfolding variables_from
gives_variables_from zero var before = refl
gives_variables_from (suc n) var before =
    gives_bind (λ v. has_names v ≡ true) (λ vs. list_all has_names vs ≡ true) (variable var before) _ (gives_variable var before)
    (λ v here. gives_bind (λ vs. list_all has_names vs ≡ true) (λ vs. list_all has_names vs ≡ true) (variables_from n (var + 1) (before + length v.values)) _ (gives_variables_from n (var + 1) (before + length v.values))
    (λ vs rest. and_true (has_names v) (list_all has_names vs) here rest))

gives_opening : Gives (λ o. list_all has_names o.1 ≡ true) opening
unfolding opening variables
gives_opening =
    gives_bind (λ x. Unit {0}) (λ o. list_all has_names o.1 ≡ true) version _ (gives_any version)
    (λ _ _. gives_bind (λ x. Unit {0}) (λ o. list_all has_names o.1 ≡ true) metric _ (gives_any metric)
    (λ m _ _ _ n _ _. gives_bind (λ vs. list_all has_names vs ≡ true) (λ o. list_all has_names o.1 ≡ true) (variables_from n 0 0) _ (gives_variables_from n 0 0) (λ vs all. all)))

gives_operator : (metric : Bool) (vs : List Variable) → Gives (λ o. is_line_name o.name ≡ true) (operator metric vs)
unfolding operator
gives_operator metric vs = λ _ _ begin _ _ n text name bare is.
    gives_bind (λ c. Unit {0}) (λ o. is_line_name o.name ≡ true) (changes vs) _ (gives_any (changes vs))
    (λ c _ _ _ cost _ _ _ _ done _ _. gives_name n text name bare is)

gives_rest : (metric : Bool) (vs : List Variable) → list_all has_names vs ≡ true → Gives (λ parts. has_line_names parts ≡ true) (rest metric vs)
unfolding rest operators
gives_rest metric vs named =
    gives_bind (λ x. Unit {0}) (λ parts. has_line_names parts ≡ true) (groups vs) _ (gives_any (groups vs))
    (λ gs _. gives_bind (λ x. Unit {0}) (λ parts. has_line_names parts ≡ true) (ends vs) _ (gives_any (ends vs))
    (λ e _ _ _ n _ _. gives_bind (λ os. list_all (λ o. is_line_name o.name) os ≡ true) (λ parts. has_line_names parts ≡ true) (times n (operator metric vs)) _ (gives_times (λ o. is_line_name o.name) (operator metric vs) n (gives_operator metric vs))
    (λ os all. gives_bind (λ x. Unit {0}) (λ parts. has_line_names parts ≡ true) (rules vs e.0) _ (gives_any (rules vs e.0))
    (λ rs _. and_true (list_all has_names vs) (list_all (λ o. is_line_name o.name) os) named all))))

gives_task : Gives (λ parts. has_line_names parts ≡ true) task
unfolding task
gives_task = gives_bind (λ o. list_all has_names o.1 ≡ true) (λ parts. has_line_names parts ≡ true) opening _ gives_opening (λ o named. gives_rest o.0 o.1 named)

pub names_read : (bytes : List ℕ) (parts : Parts) → IsTextOf bytes parts → has_line_names parts ≡ true
names_read bytes parts text =
    let given = text.given in
    let all = gives_after (λ parts. has_line_names parts ≡ true) task (lines_of bytes) 1 given (is_line-lines_of bytes) text.lines gives_task in
    let each = both (list_all has_names given.variables) (list_all (λ o. is_line_name o.name) given.operators) all in
    subst (λ p. has_line_names p ≡ true) (sym text.canonical_parts)
    (and_true (list_all has_names given.variables) _ each.0 (list_all-map (λ o. is_line_name o.name) in_order given.operators ∙ each.1))
