-- What printed lines say.
use Rattle.std.proofs.Common.{◌≡◌, ◌∙◌, ap, refl, ℕ, zero, suc, ◌+◌, ◌<◌, ◌≤◌, ◌^◌, List, [], ◌∷◌, ◌++◌, length, map, Bool, true, false, nat_eq, nat_lt, nat_le, Option, Some, None, arith}
use Rattle.std.specs.Prelude.{codes, decimal, option_to_list, option_map, if◌then◌else◌, slice_index}
use Rattle.std.specs.List.{list_all, flat_map}
use Rattle.std.proofs.lemmas.List.Folds.{list_all-append}
use Rattle.std.proofs.lemmas.List.{length-map}
use Rattle.lama_num.proofs.ListLaws.{both}
use Rattle.lama_num.proofs.DecimalLaws.{decimal_of-decimal}
use Rattle.text_lines.specs.Texts.{is_line}
use Rattle.sas_task.specs.Limits.{most_listed, most_facts, highest_layer}
use Rattle.sas_task.proofs.TestLaws.{and_true, le-test}
use Rattle.sas_task.proofs.WithinLaws.{fact_within}
use Rattle.sas_task.specs.WellFormed.{is_short, is_layered, is_variable, is_fact, is_effect, range_of}
use Rattle.sas_task.specs.Refusals.{is_good_rule}
use Rattle.sas_task.specs.declared.contents.Fact.{Fact}
use Rattle.sas_task.specs.declared.contents.Variable.{Variable}
use Rattle.sas_task.specs.declared.contents.Effect.{Effect}
use Rattle.sas_task.specs.declared.contents.Rule.{Rule}
use Rattle.sas_task.specs.declared.refusals.What.{What}
use Rattle.sas_reader.specs.Formats.{Begin, End, Version, ZeroOrOne, Name, Count, Layer, Range, Below, FactIn, EffectIn, HeadIn}
use Rattle.sas_reader.specs.Reading.{begin_of, end_of, begin_line, end_line, version_line, metric_line, name_line, count_line, layer_line, range_line, value_line, fact_line, effect_line as read_effect, head_line, one_number, pair_at, pairs_at, change_at, head_at, effect_numbers, as_fact, is_narrow, AreVariables}
use Rattle.sas_reader.specs.declared.numbers.Pair.{Pair}
use Rattle.sas_reader.specs.declared.sections.Section.{Section}
use Rattle.sas_reader.specs.declared.sections.Section.TheVariants.{Version as InVersion, Metric as InMetric, Variable as InVariable, MutexGroup as InGroup, State as InState, Goal as InGoal, Operator as InOperator, Rule as InRule}
use Rattle.task_gen.specs.Printed.{spaced, number_or_none, fact_words, effect_line}
use Rattle.task_gen.specs.ReadBack.{is_line_name}
use Rattle.task_gen.proofs.Tested.{lt-from_test, few_values, PassesEffect, passes_effect}
use Rattle.task_gen.proofs.ReadFormats.{Says}
use Rattle.task_gen.proofs.Spaced.{is_word, words_of-spaced, is_line-spaced, is_word-decimal, decimal_no_minus}

-- fixed lines

pub begins : (s : Section) → Says (Begin s) (begin_of s) tt
unfolding begin_line
begins InVersion = record { bare = refl; says = λ n. refl }
begins InMetric = record { bare = refl; says = λ n. refl }
begins InVariable = record { bare = refl; says = λ n. refl }
begins InGroup = record { bare = refl; says = λ n. refl }
begins InState = record { bare = refl; says = λ n. refl }
begins InGoal = record { bare = refl; says = λ n. refl }
begins InOperator = record { bare = refl; says = λ n. refl }
begins InRule = record { bare = refl; says = λ n. refl }

pub ends : (s : Section) → Says (End s) (end_of s) tt
unfolding end_line
ends InVersion = record { bare = refl; says = λ n. refl }
ends InMetric = record { bare = refl; says = λ n. refl }
ends InVariable = record { bare = refl; says = λ n. refl }
ends InGroup = record { bare = refl; says = λ n. refl }
ends InState = record { bare = refl; says = λ n. refl }
ends InGoal = record { bare = refl; says = λ n. refl }
ends InOperator = record { bare = refl; says = λ n. refl }
ends InRule = record { bare = refl; says = λ n. refl }

pub three : Says Version (codes "3") tt
unfolding version_line
three = record { bare = refl; says = λ n. refl }

pub zero_or_one : (metric : Bool) → Says ZeroOrOne (if metric then codes "1" else codes "0") metric
unfolding metric_line
zero_or_one true = record { bare = refl; says = λ n. refl }
zero_or_one false = record { bare = refl; says = λ n. refl }

pub names : (name : List ℕ) → is_line_name name ≡ true → is_short name ≡ true → Says Name name name
unfolding name_line
names name is short =
    let parts = both (nat_lt 0 (length name)) (is_line name) is in
    record { bare = parts.1; says = λ n. rw (parts.0, short) refl }

-- lines of one number

number : (k : ℕ) → k < 2 ^ 64 → one_number (decimal k) ≡ Some k
number k small = rw (words_of-spaced (decimal k ∷ []) (and_true (is_word (decimal k)) true (is_word-decimal k small) refl), decimal_of-decimal k small) refl

number_bare : (k : ℕ) → k < 2 ^ 64 → is_line (decimal k) ≡ true
number_bare k small = is_line-spaced (decimal k ∷ []) (and_true (is_word (decimal k)) true (is_word-decimal k small) refl)

pub counts : (what : What) (most k : ℕ) → nat_le k most ≡ true → k < 2 ^ 64 → Says (Count what most) (decimal k) k
unfolding count_line
counts what most k few small = record { bare = number_bare k small; says = λ n. rw (number k small, few) refl }

pub layers : (layer : Option ℕ) (range : ℕ) → is_layered layer range ≡ true → Says Layer (number_or_none layer) layer
unfolding layer_line
layers None range is = record { bare = refl; says = λ n. refl }
layers (Some layer) range is =
    let low = (both (nat_le layer highest_layer) (nat_eq range 2) is).0 in
    let le = le-test layer highest_layer low in
    let small : layer < 2 ^ 64 = omega arith in
    record {
      bare = number_bare layer small;
      says = λ n. rw (words_of-spaced (decimal layer ∷ []) (and_true (is_word (decimal layer)) true (is_word-decimal layer small) refl), decimal_no_minus layer small, decimal_of-decimal layer small, low) refl;
    }

pub ranges : (var : ℕ) (layer : Option ℕ) (before range : ℕ) → is_layered layer range ≡ true → nat_lt 0 range ≡ true → nat_le range most_listed ≡ true → nat_le (before + range) most_facts ≡ true → Says (Range var layer before) (decimal range) range
unfolding range_line
ranges var layer before range layered some few all =
    let le = le-test range most_listed few in
    let small : range < 2 ^ 64 = omega arith in
    record { bare = number_bare range small; says = λ n. rw (number range small, some, few, all, narrow layer range layered) refl }
  where
    narrow : (layer : Option ℕ) (range : ℕ) → is_layered layer range ≡ true → is_narrow layer range ≡ true
    narrow None range is = refl
    narrow (Some layer) range is = (both (nat_le layer highest_layer) (nat_eq range 2) is).1

pub values : (range value : ℕ) → nat_lt value range ≡ true → value < 2 ^ 64 → Says (Below range) (decimal value) value
unfolding value_line
values range value below small = record { bare = number_bare value small; says = λ n. rw (number value small, below) refl }

-- facts

-- its numbers have 64 bits
record IsSmall (f : Fact) : Type 0 where
  var : f.var < 2 ^ 64
  val : f.val < 2 ^ 64

ranges_few : (vs : List Variable) (var : ℕ) → list_all is_variable vs ≡ true → range_of vs var ≤ most_listed
ranges_few [] var all = omega arith
ranges_few (v ∷ vs) zero all = few_values v (both (is_variable v) (list_all is_variable vs) all).0
ranges_few (v ∷ vs) (suc var) all = ranges_few vs var (both (is_variable v) (list_all is_variable vs) all).1

small_fact : (vs : List Variable) (f : Fact) → AreVariables vs → is_fact vs f ≡ true → IsSmall f
small_fact vs f are is =
    let var = lt-from_test f.var (length vs) (fact_within vs f is) in
    let few = are.few in
    let val = lt-from_test f.val (range_of vs f.var) is in
    let range = ranges_few vs f.var are.each in
    record { var = omega arith; val = omega arith }

fact_is_word : (f : Fact) → IsSmall f → list_all is_word (fact_words f) ≡ true
fact_is_word f small = and_true (is_word (decimal f.var)) _ (is_word-decimal f.var small.var) (and_true (is_word (decimal f.val)) true (is_word-decimal f.val small.val) refl)

abbrev as_pair : Fact → Pair
as_pair f = record { var = f.var; val = f.val }

pair : (f : Fact) (words : List (List ℕ)) → IsSmall f → pair_at (decimal f.var ∷ decimal f.val ∷ words) ≡ Some (as_pair f, words)
unfolding pair_at
pair f words small = rw (decimal_of-decimal f.var small.var, decimal_of-decimal f.val small.val) refl

pub facts : (vs : List Variable) (f : Fact) → AreVariables vs → is_fact vs f ≡ true → Says (FactIn vs) (spaced (fact_words f)) f
unfolding fact_line
facts vs f are is =
    let small = small_fact vs f are is in
    record {
      bare = is_line-spaced (fact_words f) (fact_is_word f small);
      says = λ n. rw (words_of-spaced (fact_words f) (fact_is_word f small), pair f [] small, is) refl;
    }

-- effects

conds_are_words : (vs : List Variable) (conds : List Fact) → AreVariables vs → list_all (is_fact vs) conds ≡ true → list_all is_word (flat_map fact_words conds) ≡ true
conds_are_words vs [] are all = refl
conds_are_words vs (f ∷ conds) are all =
    let each = both (is_fact vs f) (list_all (is_fact vs) conds) all in
    list_all-append is_word (fact_words f) (flat_map fact_words conds)
    ∙ and_true (list_all is_word (fact_words f)) _ (fact_is_word f (small_fact vs f are each.0)) (conds_are_words vs conds are each.1)

pairs : (vs : List Variable) (conds : List Fact) (more : List (List ℕ)) → AreVariables vs → list_all (is_fact vs) conds ≡ true → pairs_at (length conds) (flat_map fact_words conds ++ more) ≡ Some (map as_pair conds, more)
unfolding pairs_at
pairs vs [] more are all = refl
pairs vs (f ∷ conds) more are all =
    let each = both (is_fact vs f) (list_all (is_fact vs) conds) all in
    rw (pair f (flat_map fact_words conds ++ more) (small_fact vs f are each.0), pairs vs conds more are each.1) refl

facts_of_pairs : (conds : List Fact) → map as_fact (map as_pair conds) ≡ conds
facts_of_pairs [] = refl
facts_of_pairs (f ∷ conds) = ap (λ fs. f ∷ fs) (facts_of_pairs conds)

-- what an effect needs of its variable
abbrev pub own_fact : Effect → Option ℕ → Option Fact
own_fact e old = option_map (λ val. record { var = e.fact.var; val = val }) old

small_old : (vs : List Variable) (e : Effect) (old : Option ℕ) → AreVariables vs → list_all (is_fact vs) (option_to_list (own_fact e old)) ≡ true → is_word (number_or_none old) ≡ true
small_old vs e None are own = refl
small_old vs e (Some val) are own =
    let f : Fact = record { var = e.fact.var; val = val } in
    is_word-decimal val (small_fact vs f are (both (is_fact vs f) true own).0).val

change : (vs : List Variable) (e : Effect) (old : Option ℕ) → AreVariables vs → is_fact vs e.fact ≡ true → list_all (is_fact vs) (option_to_list (own_fact e old)) ≡ true →
    change_at (decimal e.fact.var ∷ number_or_none old ∷ decimal e.fact.val ∷ []) ≡ Some (record { var = e.fact.var; old = old; new = e.fact.val }, [])
unfolding change_at
change vs e None are is own =
    let small = small_fact vs e.fact are is in
    rw (decimal_of-decimal e.fact.var small.var, decimal_of-decimal e.fact.val small.val) refl
change vs e (Some val) are is own =
    let small = small_fact vs e.fact are is in
    let f : Fact = record { var = e.fact.var; val = val } in
    let old = (small_fact vs f are (both (is_fact vs f) true own).0).val in
    rw (decimal_of-decimal e.fact.var small.var, decimal_no_minus val old, decimal_of-decimal val old, decimal_of-decimal e.fact.val small.val) refl

abbrev effect_words : Option ℕ → Effect → List (List ℕ)
effect_words old e = decimal (length e.conds) ∷ (flat_map fact_words e.conds ++ decimal e.fact.var ∷ number_or_none old ∷ decimal e.fact.val ∷ [])

effect_is_words : (vs : List Variable) (e : Effect) (old : Option ℕ) → AreVariables vs → PassesEffect vs e → list_all (is_fact vs) (option_to_list (own_fact e old)) ≡ true → list_all is_word (effect_words old e) ≡ true
effect_is_words vs e old are is own =
    let le = le-test (length e.conds) most_listed is.few in
    let small = small_fact vs e.fact are is.fact in
    and_true (is_word (decimal (length e.conds))) _ (is_word-decimal (length e.conds) (omega arith))
    (list_all-append is_word (flat_map fact_words e.conds) (decimal e.fact.var ∷ number_or_none old ∷ decimal e.fact.val ∷ [])
    ∙ and_true (list_all is_word (flat_map fact_words e.conds)) _ (conds_are_words vs e.conds are is.conds)
    (and_true (is_word (decimal e.fact.var)) _ (is_word-decimal e.fact.var small.var)
    (and_true (is_word (number_or_none old)) _ (small_old vs e old are own)
    (and_true (is_word (decimal e.fact.val)) true (is_word-decimal e.fact.val small.val) refl))))

numbers_of_effect : (vs : List Variable) (e : Effect) (old : Option ℕ) → AreVariables vs → PassesEffect vs e → list_all (is_fact vs) (option_to_list (own_fact e old)) ≡ true →
    effect_numbers (spaced (effect_words old e)) ≡ Some (map as_pair e.conds, record { var = e.fact.var; old = old; new = e.fact.val })
unfolding effect_numbers
numbers_of_effect vs e old are is own =
    let le = le-test (length e.conds) most_listed is.few in
    let tail = decimal e.fact.var ∷ number_or_none old ∷ decimal e.fact.val ∷ [] in
    rw (words_of-spaced (effect_words old e) (effect_is_words vs e old are is own), decimal_of-decimal (length e.conds) (omega arith), pairs vs e.conds tail are is.conds, change vs e old are is.fact own) refl

pub effects : (vs : List Variable) (e : Effect) (old : Option ℕ) → AreVariables vs → is_effect vs e ≡ true → list_all (is_fact vs) (option_to_list (own_fact e old)) ≡ true → Says (EffectIn vs) (effect_line old e) (own_fact e old, e)
unfolding effect_line read_effect
effects vs e old are is own =
    let tests = passes_effect vs e is in
    record {
      bare = is_line-spaced (effect_words old e) (effect_is_words vs e old are tests own);
      says = λ n. rw (numbers_of_effect vs e old are tests own, length-map e.conds as_pair, tests.few, facts_of_pairs e.conds, tests.conds, tests.free, own, tests.fact) refl;
    }

-- heads of rules

abbrev pub head_words : List ℕ → Fact → List (List ℕ)
head_words init head = decimal head.var ∷ decimal (slice_index init head.var) ∷ decimal head.val ∷ []

pub heads : (vs : List Variable) (init : List ℕ) (r : Rule) → AreVariables vs → is_fact vs r.head ≡ true → is_fact vs (record { var = r.head.var; val = slice_index init r.head.var }) ≡ true → is_good_rule vs init r ≡ true → Says (HeadIn vs init r.conds) (spaced (head_words init r.head)) r
unfolding head_line head_at
heads vs init r are is default good =
    let small = small_fact vs r.head are is in
    let old = (small_fact vs (record { var = r.head.var; val = slice_index init r.head.var }) are default).val in
    let are_words = and_true (is_word (decimal r.head.var)) _ (is_word-decimal r.head.var small.var)
    (and_true (is_word (decimal (slice_index init r.head.var))) _ (is_word-decimal (slice_index init r.head.var) old)
    (and_true (is_word (decimal r.head.val)) true (is_word-decimal r.head.val small.val) refl)) in
    record {
      bare = is_line-spaced (head_words init r.head) are_words;
      says = λ n. rw (words_of-spaced (head_words init r.head) are_words, decimal_of-decimal r.head.var small.var, decimal_of-decimal (slice_index init r.head.var) old, decimal_of-decimal r.head.val small.val, default, is, good) refl;
    }
