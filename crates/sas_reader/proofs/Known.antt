-- What is known of the variables of a text, and of pairs that are facts.
use Rattle.std.proofs.Common.{◌≡◌, refl, ℕ, zero, suc, ◌+◌, ◌<◌, ◌≤◌, ◌++◌, ◌∷◌, [], List, length, map, take, get_or, Bool, true, false, ◌&&◌, nat_lt, Option, Some, None, arith}
use Rattle.std.specs.Prelude.{IfOk, Result, Ok, Err}
use Rattle.std.proofs.Common.{ap, ◌∙◌}
use Rattle.std.proofs.lemmas.List.{take_more, take_all, map-append}
use Rattle.std.proofs.lemmas.List.Folds.{list_all_at, list_all-append, list_all-map}
use Rattle.lama_num.specs.Gives.{Gives}
use Rattle.std.specs.List.{list_all}
use Rattle.lama_num.proofs.ListLaws.{both}
use Rattle.sas_task.specs.Limits.{most_listed}
use Rattle.sas_task.proofs.TestLaws.{le-test, and_true}
use Rattle.sas_task.specs.WellFormed.{is_short, is_layered, is_few, is_variable, is_fact}
use Rattle.sas_task.specs.declared.contents.Variable.{Variable}
use Rattle.sas_reader.specs.Reading.{AreVariables, as_fact, where_true}
use Rattle.sas_task.specs.declared.contents.Fact.{Fact}
use Rattle.sas_reader.specs.declared.numbers.Pair.{Pair}
use Rattle.sas_reader.specs.Walks.{fault_of}
use Rattle.sas_reader.specs.declared.faults.SasFault.{SasFault}
use Rattle.sas_reader.specs.declared.faults.SasError.{SasError}

few_values : (v : Variable) → is_variable v ≡ true → length v.values ≤ most_listed
few_values v all =
    let named = both (is_short v.name) (is_layered v.layer (length v.values) && (nat_lt 0 (length v.values) && (is_few v.values && list_all is_short v.values))) all in
    let layered = both (is_layered v.layer (length v.values)) (nat_lt 0 (length v.values) && (is_few v.values && list_all is_short v.values)) named.1 in
    let some = both (nat_lt 0 (length v.values)) (is_few v.values && list_all is_short v.values) layered.1 in
    le-test (length v.values) most_listed (both (is_few v.values) (list_all is_short v.values) some.1).0

-- each of them has few values
pub values_few : (vs : List Variable) (i : ℕ) (v : Variable) → AreVariables vs → i < length vs → length (get_or vs i v).values ≤ most_listed
values_few vs i v are lt = each vs i are.each lt
  where
    each : (vs : List Variable) (i : ℕ) → list_all is_variable vs ≡ true → i < length vs → length (get_or vs i v).values ≤ most_listed
    each [] i all lt = absurd (omega arith)
    each (w ∷ vs) zero all lt = few_values w (both (is_variable w) (list_all is_variable vs) all).0
    each (w ∷ vs) (suc i) all lt = each vs i (both (is_variable w) (list_all is_variable vs) all).1 (omega arith)

-- what holds of what lines gave holds of what a call returned
pub if_given : {X Y : Type 0} (P : Y → Type 0) (view : X → Y) (result : Result X SasError) (read : Result Y SasFault) → Gives fault_of view result read → ((y : Y) → read ≡ Ok y → P y) → IfOk result (λ x. P (view x))
if_given P view (Ok x) read gives all = all (view x) gives
if_given P view (Err e) read gives all = tt

-- pairs as facts

where_some : {A : Type 0} (b : Bool) (x y : A) → Some y ≡ where_true b x → (b ≡ true) × (y ≡ x)
where_some true x y is = (refl, cc)
where_some {A} false x y is = let c : ◌≡◌ {A = Option A} (Some y) None = is in cc

where_none : {A : Type 0} (b : Bool) (x : A) → None ≡ where_true b x → b ≡ false
where_none {A} true x is = let c : ◌≡◌ {A = Option A} None (Some x) = is in cc
where_none false x is = refl

-- the first pairs are facts
pub record AreFirst (vs : List Variable) (pairs : List Pair) (facts : List Fact) (i : ℕ) : Type 0 where
  pub read : facts ≡ map as_fact (take i pairs)
  pub all : list_all (is_fact vs) facts ≡ true

pub facts_more : (vs : List Variable) (pairs : List Pair) (facts : List Fact) (i : ℕ) (d : Pair) (fact : Fact) → i < length pairs → AreFirst vs pairs facts i →
    Some fact ≡ where_true (is_fact vs (as_fact (get_or pairs i d))) (as_fact (get_or pairs i d)) → AreFirst vs pairs (facts ++ fact ∷ []) (i + 1)
facts_more vs pairs facts i d fact lt first is =
    let one = where_some (is_fact vs (as_fact (get_or pairs i d))) (as_fact (get_or pairs i d)) fact is in
    record {
      read = rw (take_more pairs i d lt, map-append as_fact (take i pairs) (get_or pairs i d ∷ []), ← first.read, one.1) refl;
      all = list_all-append (is_fact vs) facts (fact ∷ []) ∙ and_true (list_all (is_fact vs) facts) _ first.all (rw one.1 (and_true (is_fact vs (as_fact (get_or pairs i d))) true one.0 refl));
    }

pub facts_stop : (vs : List Variable) (pairs : List Pair) (i : ℕ) (d : Pair) → i < length pairs → None ≡ where_true (is_fact vs (as_fact (get_or pairs i d))) (as_fact (get_or pairs i d)) →
    None ≡ where_true (list_all (is_fact vs) (map as_fact pairs)) (map as_fact pairs)
facts_stop vs pairs i d lt is =
    let bad : list_all (is_fact vs) (map as_fact pairs) ≡ false = list_all-map (is_fact vs) as_fact pairs ∙ list_all_at (λ p. is_fact vs (as_fact p)) pairs i d lt (where_none (is_fact vs (as_fact (get_or pairs i d))) (as_fact (get_or pairs i d)) is) in
    rw bad refl

pub facts_end : (vs : List Variable) (pairs : List Pair) (facts : List Fact) (i : ℕ) → length pairs ≤ i → AreFirst vs pairs facts i → Some facts ≡ where_true (list_all (is_fact vs) (map as_fact pairs)) (map as_fact pairs)
facts_end vs pairs facts i le first =
    let whole : facts ≡ map as_fact pairs = first.read ∙ ap (map as_fact) (take_all i pairs le) in
    rw (← whole, first.all) refl
