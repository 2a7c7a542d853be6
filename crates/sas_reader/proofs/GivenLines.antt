-- What holds of what lines give.
use Rattle.std.proofs.Common.{◌≡◌, ◌∙◌, ap, refl, ℕ, ◌+◌, ◌≤◌, List, length, Bool, true, false, ◌&&◌, nat_eq, nat_lt, nat_le, map, Result, Ok, Err, Option, Some, None, arith}
use Rattle.std.specs.Prelude.{option_to_list, not}
use Rattle.std.specs.List.{list_all}
use Rattle.std.proofs.lemmas.Bool.Decides.{nat_tests}
use Rattle.std.proofs.lemmas.List.{length-map}
use Rattle.lama_num.proofs.ListLaws.{both}
use Rattle.sas_task.specs.Limits.{most_facts, most_listed, highest_layer, longest_name}
use Rattle.sas_task.proofs.TestLaws.{and_true, all-and, le-test}
use Rattle.sas_task.specs.WellFormed.{is_derived, is_short, is_layered, is_fact, is_effect}
use Rattle.sas_task.specs.Refusals.{is_good_rule}
use Rattle.sas_task.specs.declared.contents.Fact.{Fact}
use Rattle.sas_task.specs.declared.contents.Variable.{Variable}
use Rattle.sas_task.specs.declared.contents.Effect.{Effect}
use Rattle.sas_task.specs.declared.contents.Rule.{Rule}
use Rattle.sas_task.specs.declared.refusals.What.{What}
use Rattle.sas_task.specs.declared.refusals.What.TheVariants.{Range, Layer, Facts, Conditions, Name}
use Rattle.sas_reader.specs.Reading.{or_fault, only_if, at_most, one_number, number_or_none, is_narrow, low_layer, name_line, count_line, layer_line, range_line, value_line, one_pair, as_fact, fact_line, effect_numbers, old_fact, new_fact, is_change, effect_line, one_head, is_head, headed, head_line}
use Rattle.sas_reader.proofs.Only.{bind_ok, ok_same}
use Rattle.sas_reader.specs.declared.numbers.Change.{Change}
use Rattle.sas_reader.specs.declared.faults.SasFault.{SasFault}
use Rattle.sas_reader.specs.declared.faults.SasFault.TheVariants.{BadLine, BadNumber, BadFact, BadRule, TooLarge, WideDerived}
use Rattle.sas_reader.specs.declared.faults.Want.TheVariants.{Name as AName}

only_if_ok : (b : Bool) (fault : SasFault) (x : Unit {0}) → only_if b fault ≡ Ok x → b ≡ true
only_if_ok true fault x is = refl
only_if_ok false fault x is = let c : ◌≡◌ {A = Result (Unit {0}) SasFault} (Err fault) (Ok x) = is in cc

pub name_ok : (n : ℕ) (text name : List ℕ) → name_line n text ≡ Ok name → is_short name ≡ true
unfolding name_line
name_ok n text name is =
    let some = bind_ok (only_if (nat_lt 0 (length text)) (BadLine n AName)) _ name is in
    let short = bind_ok (at_most Name longest_name (length text)) _ name some.later in
    rw (← ok_same text name short.later) (only_if_ok (is_short text) (TooLarge Name (length text)) short.value short.first)

pub count_ok : (what : What) (most n : ℕ) (text : List ℕ) (count : ℕ) → count_line what most n text ≡ Ok count → nat_le count most ≡ true
unfolding count_line
count_ok what most n text count is =
    let number = bind_ok (or_fault (BadNumber n) (one_number text)) _ count is in
    let few = bind_ok (at_most what most number.value) _ count number.later in
    rw (← ok_same number.value count few.later) (only_if_ok (nat_le number.value most) (TooLarge what number.value) few.value few.first)

-- a layer and a number of values that go with it
pub layer_ok : (n : ℕ) (text : List ℕ) (layer : Option ℕ) → layer_line n text ≡ Ok layer → (range : ℕ) → is_narrow layer range ≡ true → is_layered layer range ≡ true
unfolding layer_line
layer_ok n text layer is =
    let number = bind_ok (or_fault (BadNumber n) (number_or_none text)) _ layer is in
    let low = bind_ok (low_layer number.value) _ layer number.later in
    rw (← ok_same number.value layer low.later) (each number.value low.value low.first)
  where
    each : (layer : Option ℕ) (x : Unit {0}) → low_layer layer ≡ Ok x → (range : ℕ) → is_narrow layer range ≡ true → is_layered layer range ≡ true
    each None x low range two = refl
    each (Some layer) x low range two = and_true (nat_le layer highest_layer) (nat_eq range 2) (only_if_ok (nat_le layer highest_layer) (TooLarge Layer layer) x low) two

pub record IsRange (layer : Option ℕ) (before range : ℕ) : Type 0 where
  pub some : nat_lt 0 range ≡ true
  pub few : nat_le range most_listed ≡ true
  pub facts : before + range ≤ most_facts
  pub narrow : is_narrow layer range ≡ true

pub range_ok : (var : ℕ) (layer : Option ℕ) (before n : ℕ) (text : List ℕ) (range : ℕ) → range_line var layer before n text ≡ Ok range → IsRange layer before range
unfolding range_line
range_ok var layer before n text range is =
    let number = bind_ok (or_fault (BadNumber n) (one_number text)) _ range is in
    let some = bind_ok (only_if (nat_lt 0 number.value) (BadNumber n)) _ range number.later in
    let few = bind_ok (at_most Range most_listed number.value) _ range some.later in
    let facts = bind_ok (at_most Facts most_facts (before + number.value)) _ range few.later in
    let narrow = bind_ok (only_if (is_narrow layer number.value) (WideDerived var)) _ range facts.later in
    rw (← ok_same number.value range narrow.later) (record {
      some = only_if_ok (nat_lt 0 number.value) (BadNumber n) some.value some.first;
      few = only_if_ok (nat_le number.value most_listed) (TooLarge Range number.value) few.value few.first;
      facts = le-test (before + number.value) most_facts (only_if_ok (nat_le (before + number.value) most_facts) (TooLarge Facts (before + number.value)) facts.value facts.first);
      narrow = only_if_ok (is_narrow layer number.value) (WideDerived var) narrow.value narrow.first;
    })

pub value_ok : (range n : ℕ) (text : List ℕ) (value : ℕ) → value_line range n text ≡ Ok value → nat_lt value range ≡ true
unfolding value_line
value_ok range n text value is =
    let number = bind_ok (or_fault (BadNumber n) (one_number text)) _ value is in
    let below = bind_ok (only_if (nat_lt number.value range) (BadFact n)) _ value number.later in
    rw (← ok_same number.value value below.later) (only_if_ok (nat_lt number.value range) (BadFact n) below.value below.first)

pub fact_ok : (vs : List Variable) (n : ℕ) (text : List ℕ) (fact : Fact) → fact_line vs n text ≡ Ok fact → is_fact vs fact ≡ true
unfolding fact_line
fact_ok vs n text fact is =
    let pair = bind_ok (or_fault (BadNumber n) (one_pair text)) _ fact is in
    let there = bind_ok (only_if (is_fact vs (as_fact pair.value)) (BadFact n)) _ fact pair.later in
    rw (← ok_same (as_fact pair.value) fact there.later) (only_if_ok (is_fact vs (as_fact pair.value)) (BadFact n) there.value there.first)

-- a precondition of an effect is a fact, on the variable that the effect changes
abbrev pub is_own : List Variable → Effect → Fact → Bool
is_own vs effect fact = is_fact vs fact && nat_eq fact.var effect.fact.var

abbrev pub is_good_change : List Variable → Option Fact × Effect → Bool
is_good_change vs e = is_effect vs e.1 && list_all (is_own vs e.1) (option_to_list e.0)

old_own : (change : Change) (effect : Effect) → effect.fact ≡ new_fact change → list_all (λ f. nat_eq f.var effect.fact.var) (option_to_list (old_fact change)) ≡ true
old_own change effect is = rw is (each change.old)
  where
    same : (m : ℕ) → nat_eq m m ≡ true
    same m = grind (arith, nat_tests)

    each : (old : Option ℕ) → list_all (λ f. nat_eq f.var change.var) (option_to_list (old_fact (record change { old = old }))) ≡ true
    each None = refl
    each (Some val) = rw (same change.var) refl

pub effect_ok : (vs : List Variable) (n : ℕ) (text : List ℕ) (e : Option Fact × Effect) → effect_line vs n text ≡ Ok e → is_good_change vs e ≡ true
unfolding effect_line
effect_ok vs n text e is =
    let numbers = bind_ok (or_fault (BadNumber n) (effect_numbers text)) _ e is in
    let conds = map as_fact numbers.value.0 in
    let change = numbers.value.1 in
    let effect : Effect = record { conds = conds; fact = new_fact change } in
    let few = bind_ok (at_most Conditions most_listed (length numbers.value.0)) _ e numbers.later in
    let there = bind_ok (only_if (list_all (is_fact vs) conds) (BadFact n)) _ e few.later in
    let free = bind_ok (only_if (is_change vs change) (BadFact n)) _ e there.later in
    let short : nat_le (length conds) most_listed ≡ true = ap (λ k. nat_le k most_listed) (length-map numbers.value.0 as_fact) ∙ only_if_ok (nat_le (length numbers.value.0) most_listed) (TooLarge Conditions (length numbers.value.0)) few.value few.first in
    let facts : list_all (is_fact vs) conds ≡ true = only_if_ok (list_all (is_fact vs) conds) (BadFact n) there.value there.first in
    let changes = both (not (is_derived vs change.var)) (list_all (is_fact vs) (option_to_list (old_fact change)) && is_fact vs (new_fact change)) (only_if_ok (is_change vs change) (BadFact n) free.value free.first) in
    let facts_of = both (list_all (is_fact vs) (option_to_list (old_fact change))) (is_fact vs (new_fact change)) changes.1 in
    rw (← ok_same (old_fact change, effect) e free.later) (and_true (is_effect vs effect) (list_all (is_own vs effect) (option_to_list (old_fact change)))
    (and_true (nat_le (length conds) most_listed && list_all (is_fact vs) conds) _ (and_true (nat_le (length conds) most_listed) _ short facts) (and_true (is_fact vs (new_fact change)) (not (is_derived vs change.var)) facts_of.1 changes.0))
    (all-and (is_fact vs) (λ f. nat_eq f.var effect.fact.var) (option_to_list (old_fact change)) facts_of.0 (old_own change effect refl)))

pub record IsHeaded (vs : List Variable) (init : List ℕ) (listed : List Fact) (rule : Rule) : Type 0 where
  pub conds : rule.conds ≡ listed
  pub fact : is_fact vs rule.head ≡ true
  pub good : is_good_rule vs init rule ≡ true

pub head_ok : (vs : List Variable) (init : List ℕ) (conds : List Fact) (n : ℕ) (text : List ℕ) (rule : Rule) → head_line vs init conds n text ≡ Ok rule → IsHeaded vs init conds rule
unfolding head_line
head_ok vs init conds n text rule is =
    let head = bind_ok (or_fault (BadNumber n) (one_head text)) _ rule is in
    let there = bind_ok (only_if (is_head vs head.value) (BadFact n)) _ rule head.later in
    let good = bind_ok (only_if (is_good_rule vs init (headed conds head.value)) (BadRule n)) _ rule there.later in
    rw (← ok_same (headed conds head.value) rule good.later) (record {
      conds = refl;
      fact = (both (is_fact vs (record { var = head.value.var; val = head.value.old })) (is_fact vs (record { var = head.value.var; val = head.value.new })) (only_if_ok (is_head vs head.value) (BadFact n) there.value there.first)).1;
      good = only_if_ok (is_good_rule vs init (headed conds head.value)) (BadRule n) good.value good.first;
    })
