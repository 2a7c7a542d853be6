-- What a text gives is refused by nothing.
use Rattle.std.proofs.Common.{◌≡◌, ◌∙◌, ap, refl, ℕ, zero, suc, ◌+◌, ◌≤◌, ◌++◌, ◌∷◌, [], List, length, Bool, true, false, ◌&&◌, ◌||◌, nat_eq, nat_lt, nat_le, map, Result, Ok, Err, Option, None, arith}
use Rattle.std.specs.Prelude.{option_to_list, if◌then◌else◌}
use Rattle.std.specs.List.{list_all, zip}
use Rattle.std.proofs.lemmas.Bool.Decides.{nat_tests}
use Rattle.std.proofs.lemmas.List.{length-map}
use Rattle.std.proofs.lemmas.List.Folds.{list_all-append, list_all-map}
use Rattle.std.proofs.lemmas.List.Sums.{sum_by-cons}
use Rattle.lama_num.proofs.ListLaws.{both}
use Rattle.sas_task.specs.Limits.{most_variables, most_facts, most_listed, most_operators, most_rules, highest_cost}
use Rattle.sas_task.proofs.TestLaws.{and_true, all-one, le-test, test-le}
use Rattle.sas_task.specs.WellFormed.{is_short, is_few, is_layered, is_variable, is_fact, are_facts, is_effect, starts, fact_count}
use Rattle.sas_task.specs.Order.{distinct, prevail}
use Rattle.sas_task.proofs.Admissible.{is_admissible_operator, is_admissible_rule, IsAdmissible}
use Rattle.sas_task.proofs.Admission.{admitted}
use Rattle.sas_task.specs.Refusals.{refusal_of}
use Rattle.sas_task.specs.declared.contents.Fact.{Fact}
use Rattle.sas_task.specs.declared.contents.Variable.{Variable}
use Rattle.sas_task.specs.declared.contents.Effect.{Effect}
use Rattle.sas_task.specs.declared.contents.Operator.{Operator}
use Rattle.sas_task.specs.declared.contents.Parts.{Parts}
use Rattle.sas_task.specs.declared.refusals.What.{What}
use Rattle.sas_task.specs.declared.refusals.What.TheVariants.{Bytes, Variables, Groups, GroupFacts, Goals, Operators, Conditions, Effects, Rules, Cost}
use Rattle.text_lines.specs.Lines.{Place, lines_of}
use Rattle.sas_reader.specs.Reading.{most_bytes, AreVariables}
use Rattle.sas_reader.specs.Formats.{Format, ◌>>=◌, Name, Count, FactIn, EffectIn, line, times, each}
use Rattle.sas_reader.specs.TaskText.{version, metric, opening, ends, rest, task, variable, variables_from, variables, facts, group, groups, initial, state, goal, preconditions, changes, operator, operators, rule, rules}
use Rattle.sas_reader.specs.Walks.{walk, trailing, whole, parts_in, parts_of}
use Rattle.sas_reader.specs.declared.faults.SasFault.{SasFault}
use Rattle.sas_reader.specs.declared.faults.SasFault.TheVariants.{TooLarge}
use Rattle.sas_reader.proofs.Only.{bind_ok, ok_same, Only, only_bind, only_also, SoMany, only_times, only_walk}
use Rattle.sas_reader.proofs.GivenLines.{name_ok, count_ok, layer_ok, IsRange, range_ok, value_ok, fact_ok, is_own, is_good_change, effect_ok, head_ok}
use Rattle.sas_reader.proofs.PrevailLimits.{is_own_change, prevail_few}

-- variables

pub record GoodVariable (before : ℕ) (v : Variable) : Type 0 where
  pub good : is_variable v ≡ true
  pub facts : before + length v.values ≤ most_facts

made_variable : (name : List ℕ) (layer : Option ℕ) (values : List (List ℕ)) (range before : ℕ) → is_short name ≡ true → is_layered layer range ≡ true → IsRange layer before range → SoMany is_short range values →
    GoodVariable before (record { name = name; layer = layer; values = values })
made_variable name layer values range before named layered ranged all =
    let many : length values ≡ range = all.many in
    let facts : before + range ≤ most_facts = ranged.facts in
    record {
      good = and_true (is_short name) _ named
          (and_true (is_layered layer (length values)) _ (rw many layered)
          (and_true (nat_lt 0 (length values)) _ (rw many ranged.some)
          (and_true (is_few values) _ (rw many ranged.few) all.all)));
      facts = omega arith;
    }

variable_only : (var before : ℕ) → Only (GoodVariable before) (variable var before)
unfolding variable
variable_only var before = λ _ _ begin _ n text name named m words layer layered k digits range ranged.
    let is = range_ok var layer before k digits range ranged in
    only_bind (SoMany is_short range) (GoodVariable before) (times range (line Name)) _ (only_times is_short (line Name) range name_ok)
    (λ values all _ _ done _. made_variable name layer values range before (name_ok n text name named) (layer_ok m words layer layered range is.narrow) is all)

pub record GoodVariables (before n : ℕ) (vs : List Variable) : Type 0 where
  pub all : list_all is_variable vs ≡ true
  pub many : length vs ≡ n
  pub facts : before + fact_count vs ≤ most_facts

variables_from_only : (n var before : ℕ) → before ≤ most_facts → Only (GoodVariables before n) (variables_from n var before)
unfolding variables_from
variables_from_only zero var before low = record { all = refl; many = refl; facts = omega arith }
variables_from_only (suc n) var before low =
    only_bind (GoodVariable before) (GoodVariables before (suc n)) (variable var before) _ (variable_only var before)
    (λ v here. only_bind (GoodVariables (before + length v.values) n) (GoodVariables before (suc n)) (variables_from n (var + 1) (before + length v.values)) _ (variables_from_only n (var + 1) (before + length v.values) here.facts)
    (λ vs rest. joined v vs here rest))
  where
    joined : (v : Variable) (vs : List Variable) → GoodVariable before v → GoodVariables (before + length v.values) n vs → GoodVariables before (suc n) (v ∷ vs)
    joined v vs here rest = record {
      all = and_true (is_variable v) (list_all is_variable vs) here.good rest.all;
      many = ap suc rest.many;
      facts = let e : fact_count (v ∷ vs) ≡ length v.values + fact_count vs = sum_by-cons (λ v. length v.values) v vs in let f : before + length v.values + fact_count vs ≤ most_facts = rest.facts in omega arith;
    }

pub record Known (vs : List Variable) : Type 0 where
  pub are : AreVariables vs
  pub facts : fact_count vs ≤ most_facts

so_many_only : (n : ℕ) → n ≤ most_variables → Only Known (variables_from n 0 0)
so_many_only n few =
    only_also (GoodVariables 0 n) Known (variables_from n 0 0)
    (λ vs good. let many : length vs ≡ n = good.many in let f : 0 + fact_count vs ≤ most_facts = good.facts in record { are = record { few = omega arith; each = good.all }; facts = omega arith })
    (variables_from_only n 0 0 (omega arith))

variables_only : Only Known variables
unfolding variables
variables_only = λ m text n counted. so_many_only n (le-test n most_variables (count_ok Variables most_variables m text n counted))

-- so many variables that lines gave
pub are_variables : (n : ℕ) (place : Place) (r : List Variable × Place) → n ≤ most_variables → walk (variables_from n 0 0) place ≡ Ok r → AreVariables r.0
are_variables n place r few is = (only_walk Known (variables_from n 0 0) place r (so_many_only n few) is).are

-- lists behind their counts

pub record GoodList {A : Type 0} (test : A → Bool) (most : ℕ) (xs : List A) : Type 0 where
  pub few : nat_le (length xs) most ≡ true
  pub all : list_all test xs ≡ true

listed_only : {A : Type 0} (test : A → Bool) (what : What) (most : ℕ) (format : Format A) → Only (λ x. test x ≡ true) format → Only (GoodList test most) (line (Count what most) >>= λ n. times n format)
listed_only test what most format all = λ m text n counted.
    only_also (SoMany test n) (GoodList test most) (times n format)
    (λ xs so_many. record { few = ap (λ k. nat_le k most) so_many.many ∙ count_ok what most m text n counted; all = so_many.all })
    (only_times test format n all)

facts_only : (what : What) (vs : List Variable) → Only (λ fs. are_facts vs fs ≡ true) (facts what vs)
unfolding facts
facts_only what vs =
    only_also (GoodList (is_fact vs) most_listed) (λ fs. are_facts vs fs ≡ true) (line (Count what most_listed) >>= λ n. times n (line (FactIn vs)))
    (λ fs good. and_true (is_few fs) (list_all (is_fact vs) fs) good.few good.all)
    (listed_only (is_fact vs) what most_listed (line (FactIn vs)) (fact_ok vs))

group_only : (vs : List Variable) → Only (λ fs. are_facts vs fs ≡ true) (group vs)
unfolding group
group_only vs = λ _ _ begin _. only_bind (λ fs. are_facts vs fs ≡ true) (λ fs. are_facts vs fs ≡ true) (facts GroupFacts vs) _ (facts_only GroupFacts vs) (λ fs all _ _ done _. all)

groups_only : (vs : List Variable) → Only (GoodList (are_facts vs) most_listed) (groups vs)
unfolding groups
groups_only vs = listed_only (are_facts vs) Groups most_listed (group vs) (group_only vs)

goal_only : (vs : List Variable) → Only (λ fs. are_facts vs fs ≡ true) (goal vs)
unfolding goal
goal_only vs = λ _ _ begin _. only_bind (λ fs. are_facts vs fs ≡ true) (λ fs. are_facts vs fs ≡ true) (facts Goals vs) _ (facts_only Goals vs) (λ fs all _ _ done _. all)

-- the initial state

same_number : (m n : ℕ) → m ≡ n → nat_eq m n ≡ true
same_number m n e = grind (arith, nat_tests, e)

pub record GoodValues (vs : List Variable) (values : List ℕ) : Type 0 where
  pub many : length values ≡ length vs
  pub all : list_all (λ p. nat_lt p.0 (length p.1.values)) (zip values vs) ≡ true

values_only : (vs : List Variable) → Only (GoodValues vs) (each initial vs)
unfolding each
values_only [] = record { many = refl; all = refl }
values_only (v ∷ vs) = λ n text value is.
    only_bind (GoodValues vs) (GoodValues (v ∷ vs)) (each initial vs) _ (values_only vs)
    (λ values rest. record { many = ap suc rest.many; all = and_true (nat_lt value (length v.values)) (list_all (λ p. nat_lt p.0 (length p.1.values)) (zip values vs)) (value_ok (length v.values) n text value is) rest.all })

state_only : (vs : List Variable) → Only (λ init. starts vs init ≡ true) (state vs)
unfolding state
state_only vs = λ _ _ begin _. only_bind (GoodValues vs) (λ init. starts vs init ≡ true) (each initial vs) _ (values_only vs)
    (λ init good _ _ done _. and_true (nat_eq (length init) (length vs)) _ (same_number _ _ good.many) good.all)

-- operators

pub record GoodChanges (vs : List Variable) (c : List Fact × List Effect) : Type 0 where
  pub pre : list_all (is_fact vs) c.0 ≡ true
  pub few : nat_le (length c.1) most_listed ≡ true
  pub effects : list_all (is_effect vs) c.1 ≡ true
  pub prevailing : nat_le (length (prevail (distinct c.0) c.1)) most_listed ≡ true

own_facts : (vs : List Variable) (es : List (Option Fact × Effect)) → list_all (is_good_change vs) es ≡ true → list_all (is_fact vs) (preconditions es) ≡ true
own_facts vs [] good = refl
own_facts vs (e ∷ es) good =
    let two = both (is_good_change vs e) (list_all (is_good_change vs) es) good in
    let own = (both (is_effect vs e.1) (list_all (is_own vs e.1) (option_to_list e.0)) two.0).1 in
    list_all-append (is_fact vs) (option_to_list e.0) (preconditions es)
    ∙ and_true (list_all (is_fact vs) (option_to_list e.0)) _ (all-one (is_own vs e.1) (is_fact vs) (option_to_list e.0) (λ f is. (both (is_fact vs f) (nat_eq f.var e.1.fact.var) is).0) own) (own_facts vs es two.1)

made_changes : (vs : List Variable) (listed : List Fact) (es : List (Option Fact × Effect)) → are_facts vs listed ≡ true → GoodList (is_good_change vs) most_listed es →
    GoodChanges vs (listed ++ preconditions es, map (λ e. e.1) es)
made_changes vs listed es listed_facts good =
    let two = both (is_few listed) (list_all (is_fact vs) listed) listed_facts in
    let most : length listed ≤ most_listed = le-test (length listed) most_listed two.0 in
    let le : length (prevail (distinct (listed ++ preconditions es)) (map (λ e. e.1) es)) ≤ length listed = prevail_few listed es (all-one (is_good_change vs) is_own_change es (λ e is. own_change e is) good.all) in
    record {
      pre = list_all-append (is_fact vs) listed (preconditions es) ∙ and_true (list_all (is_fact vs) listed) _ two.1 (own_facts vs es good.all);
      few = ap (λ n. nat_le n most_listed) (length-map es (λ e. e.1)) ∙ good.few;
      effects = list_all-map (is_effect vs) (λ e. e.1) es ∙ all-one (is_good_change vs) (λ e. is_effect vs e.1) es (λ e is. (both (is_effect vs e.1) (list_all (is_own vs e.1) (option_to_list e.0)) is).0) good.all;
      prevailing = test-le _ most_listed (omega arith);
    }
  where
    own_change : (e : Option Fact × Effect) → is_good_change vs e ≡ true → is_own_change e ≡ true
    own_change e is = all-one (is_own vs e.1) (λ f. nat_eq f.var e.1.fact.var) (option_to_list e.0) (λ f own. (both (is_fact vs f) (nat_eq f.var e.1.fact.var) own).1) (both (is_effect vs e.1) (list_all (is_own vs e.1) (option_to_list e.0)) is).1

changes_only : (vs : List Variable) → Only (GoodChanges vs) (changes vs)
unfolding changes
changes_only vs = only_bind (λ fs. are_facts vs fs ≡ true) (GoodChanges vs) (facts Conditions vs) _ (facts_only Conditions vs) (λ listed listed_facts m text n counted.
    only_bind (SoMany (is_good_change vs) n) (GoodChanges vs) (times n (line (EffectIn vs))) _ (only_times (is_good_change vs) (line (EffectIn vs)) n (effect_ok vs))
    (λ es all. made_changes vs listed es listed_facts (record { few = ap (λ k. nat_le k most_listed) all.many ∙ count_ok Effects most_listed m text n counted; all = all.all })))

-- an operator of a task with or without a metric
abbrev pub is_good_operator : Bool → List Variable → Operator → Bool
is_good_operator metric vs o = is_admissible_operator vs o && (metric || nat_eq o.cost 1)

made_operator : (metric : Bool) (vs : List Variable) (name : List ℕ) (c : List Fact × List Effect) (cost : ℕ) → is_short name ≡ true → GoodChanges vs c → nat_le cost highest_cost ≡ true →
    is_good_operator metric vs (record { name = name; pre = c.0; effects = c.1; cost = if metric then cost else 1 }) ≡ true
made_operator metric vs name c cost named good low =
    and_true (is_short name && _) _
    (and_true (is_short name) _ named
    (and_true (nat_le (length (prevail (distinct c.0) c.1)) most_listed) _ good.prevailing
    (and_true (list_all (is_fact vs) c.0) _ good.pre
    (and_true (is_few c.1) _ good.few
    (and_true (list_all (is_effect vs) c.1) (nat_le (if metric then cost else 1) highest_cost) good.effects (low_cost metric))))))
    (unit_cost metric)
  where
    low_cost : (metric : Bool) → nat_le (if metric then cost else 1) highest_cost ≡ true
    low_cost true = low
    low_cost false = refl

    unit_cost : (metric : Bool) → (metric || nat_eq (if metric then cost else 1) 1) ≡ true
    unit_cost true = refl
    unit_cost false = refl

operator_only : (metric : Bool) (vs : List Variable) → Only (λ o. is_good_operator metric vs o ≡ true) (operator metric vs)
unfolding operator
operator_only metric vs = λ _ _ begin _ n text name named.
    only_bind (GoodChanges vs) (λ o. is_good_operator metric vs o ≡ true) (changes vs) _ (changes_only vs)
    (λ c good m digits cost counted _ _ done _. made_operator metric vs name c cost (name_ok n text name named) good (count_ok Cost highest_cost m digits cost counted))

operators_only : (metric : Bool) (vs : List Variable) → Only (GoodList (is_good_operator metric vs) most_operators) (operators metric vs)
unfolding operators
operators_only metric vs = listed_only (is_good_operator metric vs) Operators most_operators (operator metric vs) (operator_only metric vs)

-- rules

rule_only : (vs : List Variable) (init : List ℕ) → Only (λ r. is_admissible_rule vs init r ≡ true) (rule vs init)
unfolding rule
rule_only vs init = λ _ _ begin _.
    only_bind (λ fs. are_facts vs fs ≡ true) (λ r. is_admissible_rule vs init r ≡ true) (facts Conditions vs) _ (facts_only Conditions vs) (λ conds all n text r headed _ _ done _.
    let is = head_ok vs init conds n text r headed in
    and_true (are_facts vs r.conds) _ (rw is.conds all) (and_true (is_fact vs r.head) _ is.fact is.good))

rules_only : (vs : List Variable) (init : List ℕ) → Only (GoodList (is_admissible_rule vs init) most_rules) (rules vs init)
unfolding rules
rules_only vs init = listed_only (is_admissible_rule vs init) Rules most_rules (rule vs init) (rule_only vs init)

-- the whole

pub record GoodEnds (vs : List Variable) (ends : List ℕ × List Fact) : Type 0 where
  pub init : starts vs ends.0 ≡ true
  pub goal : are_facts vs ends.1 ≡ true

ends_only : (vs : List Variable) → Only (GoodEnds vs) (ends vs)
unfolding ends
ends_only vs =
    only_bind (λ init. starts vs init ≡ true) (GoodEnds vs) (state vs) _ (state_only vs)
    (λ init started. only_bind (λ fs. are_facts vs fs ≡ true) (GoodEnds vs) (goal vs) _ (goal_only vs) (λ fs all. record { init = started; goal = all }))

costs_one : (metric : Bool) (vs : List Variable) (os : List Operator) → list_all (is_good_operator metric vs) os ≡ true → metric ≡ false → list_all (λ o. nat_eq o.cost 1) os ≡ true
costs_one metric vs os all without =
    all-one (is_good_operator metric vs) (λ o. nat_eq o.cost 1) os (λ o is. rw without at (both (is_admissible_operator vs o) (metric || nat_eq o.cost 1) is).1) all

rest_only : (metric : Bool) (vs : List Variable) → Known vs → Only IsAdmissible (rest metric vs)
unfolding rest
rest_only metric vs is =
    only_bind (GoodList (are_facts vs) most_listed) IsAdmissible (groups vs) _ (groups_only vs) (λ gs in_groups.
    only_bind (GoodEnds vs) IsAdmissible (ends vs) _ (ends_only vs) (λ es at_ends.
    only_bind (GoodList (is_good_operator metric vs) most_operators) IsAdmissible (operators metric vs) _ (operators_only metric vs) (λ os in_operators.
    only_bind (GoodList (is_admissible_rule vs es.0) most_rules) IsAdmissible (rules vs es.0) _ (rules_only vs es.0) (λ rs in_rules. record {
      few_variables = test-le (length vs) most_variables is.are.few;
      variables = is.are.each;
      few_facts = is.facts;
      few_groups = in_groups.few;
      groups = in_groups.all;
      init = at_ends.init;
      goal = at_ends.goal;
      few_operators = le-test (length os) most_operators in_operators.few;
      operators = all-one (is_good_operator metric vs) (is_admissible_operator vs) os (λ o good. (both (is_admissible_operator vs o) (metric || nat_eq o.cost 1) good).0) in_operators.all;
      costs = costs_one metric vs os in_operators.all;
      few_rules = le-test (length rs) most_rules in_rules.few;
      rules = in_rules.all;
    }))))

opening_only : Only (λ o. Known o.1) opening
unfolding opening version metric
opening_only = λ _ _ begin _ _ _ three _ _ _ end _ _ _ begin_metric _ _ _ cost _ _ _ end_metric _.
    only_bind Known (λ o. Known o.1) variables _ variables_only (λ vs is. is)

task_only : Only IsAdmissible task
unfolding task
task_only = only_bind (λ o. Known o.1) IsAdmissible opening _ opening_only (λ o is. rest_only o.0 o.1 is)

lines_accepted : (lines : List (List ℕ)) (parts : Parts) → parts_in lines ≡ Ok parts → refusal_of parts ≡ None
unfolding parts_in
lines_accepted lines parts is =
    let read = bind_ok (walk task (record { left = lines; line = 1 })) whole parts is in
    let ended = bind_ok (trailing read.value.1.line read.value.1.left) _ parts read.later in
    rw (← ok_same read.value.0 parts ended.later) (admitted read.value.0 (only_walk IsAdmissible task (record { left = lines; line = 1 }) read.value task_only read.first))

-- what a text gives is refused by nothing
pub accepted_text : (bytes : List ℕ) (parts : Parts) → parts_of bytes ≡ Ok parts → refusal_of parts ≡ None
unfolding parts_of
accepted_text bytes parts is = elim (nat_le (length bytes) most_bytes) as (λ t. nat_le (length bytes) most_bytes ≡ t → refusal_of parts ≡ None) [
  | true ↦ λ e. lines_accepted (lines_of bytes) parts (rw e at is)
  | false ↦ λ e. let c : ◌≡◌ {A = Result Parts SasFault} (Err (TooLarge Bytes (length bytes))) (Ok parts) = rw e at is in cc
] refl
