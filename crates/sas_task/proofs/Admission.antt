-- Laws of parts that nothing refuses.
use Rattle.std.specs.Prelude.{◌≡◌, ℕ, ◌+◌, List, [], ◌∷◌, length, Bool, true, false, ◌&&◌, not, nat_eq, nat_lt, nat_le, map, filter, filter_map, flat_map, Option, Some, None, is_some, option_map, if◌then◌else◌}
use Rattle.std.proofs.Common.{arith, refl, ap, ◌∙◌}
use Rattle.std.specs.List.{list_all, cons_option, position_from}
use Rattle.std.proofs.lemmas.Bool.Decides.{nat_tests}
use Rattle.std.proofs.lemmas.Iterator.Adapters.{position_from-zero}
use Rattle.lama_num.proofs.ListLaws.{both}
use Rattle.sas_task.specs.Limits.{most_variables, most_facts, most_operators, most_rules, most_listed, highest_layer, highest_cost, longest_name}
use Rattle.sas_task.specs.WellFormed.{IsWellFormed, is_operator, is_rule, is_default, is_layered_rule, has_few_conditions, is_derived, is_short, is_few, is_layered, is_variable, is_fact, are_facts, is_effect, starts, fact_count}
use Rattle.sas_task.proofs.Admissible.{is_admissible_operator, is_admissible_rule, IsAdmissible}
use Rattle.sas_task.specs.Costs.{is_unit_cost}
use Rattle.sas_task.specs.Order.{in_order, has_few_prevail}
use Rattle.sas_task.specs.Refusals.{above, too_large, condition_counts, name_lengths, first_cause, conditions_of, names_of, is_wide, is_sound_effect, is_sound_operator, is_sound_rule, is_sound, is_good_rule, refusal_of, canonical_parts}
use Rattle.sas_task.specs.declared.contents.Fact.{Fact}
use Rattle.sas_task.specs.declared.contents.Variable.{Variable}
use Rattle.sas_task.specs.declared.contents.Effect.{Effect}
use Rattle.sas_task.specs.declared.contents.Operator.{Operator}
use Rattle.sas_task.specs.declared.contents.Rule.{Rule}
use Rattle.sas_task.specs.declared.contents.Parts.{Parts}
use Rattle.sas_task.specs.declared.refusals.What.{What}
use Rattle.sas_task.specs.declared.refusals.What.TheVariants.{Variables, Range, Layer, Facts, Groups, GroupFacts, Goals, Operators, Conditions, Effects, Rules, Cost, Name}
use Rattle.sas_task.specs.declared.refusals.TaskError.{TaskError}
use Rattle.sas_task.specs.declared.refusals.TaskError.TheVariants.{TooLarge, WideDerived, BadFact, BadCost, BadRule}
use Rattle.sas_task.proofs.TestLaws.{within, not-not, all-same, and_true, test-le, all-one, all-two, within-one, flat_map-within, map-within, within-both}

-- the tests of `check`, one by one
pub record IsAccepted (parts : Parts) : Type 0 where
  pub variables : within most_variables (length parts.variables ∷ []) ≡ true
  pub ranges : within most_listed (map (λ v. length v.values) parts.variables) ≡ true
  pub layers : within highest_layer (filter_map (λ v. v.layer) parts.variables) ≡ true
  pub facts : within most_facts (fact_count parts.variables ∷ []) ≡ true
  pub groups : within most_listed (length parts.groups ∷ []) ≡ true
  pub group_facts : within most_listed (map (λ group. length group) parts.groups) ≡ true
  pub goals : within most_listed (length parts.goal ∷ []) ≡ true
  pub operators : within most_operators (length parts.operators ∷ []) ≡ true
  pub conditions : within most_listed (condition_counts parts) ≡ true
  pub effects : within most_listed (map (λ o. length o.effects) parts.operators) ≡ true
  pub rules : within most_rules (length parts.rules ∷ []) ≡ true
  pub costs : within highest_cost (map (λ o. o.cost) parts.operators) ≡ true
  pub names : within longest_name (name_lengths parts) ≡ true
  pub two_values : list_all (λ v. not (is_wide v)) parts.variables ≡ true
  pub sound : is_sound parts ≡ true
  pub unit_costs : (not parts.metric && not (is_unit_cost parts)) ≡ false
  pub good_rules : list_all (is_good_rule parts.variables parts.init) parts.rules ≡ true

above-within : (most : ℕ) (counts : List ℕ) → within most counts ≡ true → above most counts ≡ None
above-within most [] all = refl
above-within most (n ∷ ns) all =
    let parts = both (nat_le n most) (within most ns) all in
    let here : nat_le n most ≡ true = parts.0 in
    let low : nat_lt most n ≡ false = grind (arith, nat_tests, here) in
    rw low (above-within most ns parts.1)

position-all : {X : Type 0} (p : X → Bool) (i : ℕ) (xs : List X) → list_all (λ x. not (p x)) xs ≡ true → position_from p i xs ≡ None
position-all p i [] all = refl
position-all p i (x ∷ xs) all =
    let parts = both (not (p x)) (list_all (λ x. not (p x)) xs) all in
    elim (p x) as (λ b. p x ≡ b → position_from p i (x ∷ xs) ≡ None) [
      | true ↦ λ is. let k : false ≡ true = rw is at parts.0 in cc
      | false ↦ λ is. rw is (position-all p (i + 1) xs parts.1)
    ] refl

first_cause-cons : (o : Option TaskError) (os : List (Option TaskError)) → o ≡ None → first_cause os ≡ None → first_cause (o ∷ os) ≡ None
first_cause-cons o os none rest = rw none rest

large-none : (what : What) (most : ℕ) (counts : List ℕ) → within most counts ≡ true → too_large what most counts ≡ None
large-none what most counts all = ap (option_map (λ count. TooLarge what count)) (above-within most counts all)

abbrev pub bad : (parts : Parts) → Rule → Bool
bad parts rule = not (is_good_rule parts.variables parts.init rule)

sound_none : (b : Bool) → b ≡ true → (if b then None else Some BadFact) ≡ None
sound_none true is = refl
sound_none false is = let k : false ≡ true = is in cc

cost_none : (b : Bool) → b ≡ false → (if b then Some BadCost else None) ≡ None
cost_none true is = let k : true ≡ false = is in cc
cost_none false is = refl

-- parts that pass each test are accepted
accepted : (parts : Parts) → IsAccepted parts → refusal_of parts ≡ None
unfolding refusal_of
accepted parts is =
    first_cause-cons _ _ (large-none Variables most_variables (length parts.variables ∷ []) is.variables)
    (first_cause-cons _ _ (large-none Range most_listed (map (λ v. length v.values) parts.variables) is.ranges)
    (first_cause-cons _ _ (large-none Layer highest_layer (filter_map (λ v. v.layer) parts.variables) is.layers)
    (first_cause-cons _ _ (large-none Facts most_facts (fact_count parts.variables ∷ []) is.facts)
    (first_cause-cons _ _ (large-none Groups most_listed (length parts.groups ∷ []) is.groups)
    (first_cause-cons _ _ (large-none GroupFacts most_listed (map (λ group. length group) parts.groups) is.group_facts)
    (first_cause-cons _ _ (large-none Goals most_listed (length parts.goal ∷ []) is.goals)
    (first_cause-cons _ _ (large-none Operators most_operators (length parts.operators ∷ []) is.operators)
    (first_cause-cons _ _ (large-none Conditions most_listed (condition_counts parts) is.conditions)
    (first_cause-cons _ _ (large-none Effects most_listed (map (λ o. length o.effects) parts.operators) is.effects)
    (first_cause-cons _ _ (large-none Rules most_rules (length parts.rules ∷ []) is.rules)
    (first_cause-cons _ _ (large-none Cost highest_cost (map (λ o. o.cost) parts.operators) is.costs)
    (first_cause-cons _ _ (large-none Name longest_name (name_lengths parts) is.names)
    (first_cause-cons _ _ (ap (option_map (λ var. WideDerived var)) (position_from-zero is_wide parts.variables ∙ position-all is_wide 0 parts.variables is.two_values))
    (first_cause-cons _ _ (sound_none (is_sound parts) is.sound)
    (first_cause-cons _ _ (cost_none (not parts.metric && not (is_unit_cost parts)) is.unit_costs)
    (first_cause-cons _ _ (ap (option_map (λ rule. BadRule rule)) (position_from-zero (bad parts) parts.rules ∙ position-all (bad parts) 0 parts.rules (all-same (λ r. not (bad parts r)) (is_good_rule parts.variables parts.init) parts.rules (λ r. not-not (is_good_rule parts.variables parts.init r)) ∙ is.good_rules)))
    refl))))))))))))))))

-- variables

record PassesVariable (v : Variable) : Type 0 where
  name : is_short v.name ≡ true
  layer : is_layered v.layer (length v.values) ≡ true
  some : nat_lt 0 (length v.values) ≡ true
  few : is_few v.values ≡ true
  names : list_all is_short v.values ≡ true

passes_variable : (v : Variable) → is_variable v ≡ true → PassesVariable v
passes_variable v all =
    let layer = is_layered v.layer (length v.values) in
    let some = nat_lt 0 (length v.values) in
    let names = list_all is_short v.values in
    let a = both (is_short v.name) (layer && (some && (is_few v.values && names))) all in
    let b = both layer (some && (is_few v.values && names)) a.1 in
    let c = both some (is_few v.values && names) b.1 in
    let d = both (is_few v.values) names c.1 in
    record { name = a.0; layer = b.0; some = c.0; few = d.0; names = d.1 }

not_wide : (layer : Option ℕ) (range : ℕ) → is_layered layer range ≡ true → not (is_some layer && not (nat_eq range 2)) ≡ true
not_wide None range is = refl
not_wide (Some layer) range is = let two = (both (nat_le layer highest_layer) (nat_eq range 2) is).1 in rw two refl

low_layers : (variables : List Variable) → list_all is_variable variables ≡ true → within highest_layer (filter_map (λ v. v.layer) variables) ≡ true
low_layers [] all = refl
low_layers (v ∷ variables) all =
    let parts = both (is_variable v) (list_all is_variable variables) all in
    one v.layer (filter_map (λ v. v.layer) variables) (length v.values) (passes_variable v parts.0).layer (low_layers variables parts.1)
  where
    one : (layer : Option ℕ) (rest : List ℕ) (range : ℕ) → is_layered layer range ≡ true → within highest_layer rest ≡ true → within highest_layer (cons_option layer rest) ≡ true
    one None rest range is all = all
    one (Some layer) rest range is all = and_true (nat_le layer highest_layer) (within highest_layer rest) (both (nat_le layer highest_layer) (nat_eq range 2) is).0 all

variable_names : (v : Variable) → is_variable v ≡ true → within longest_name (names_of v) ≡ true
variable_names v is =
    let passes = passes_variable v is in
    and_true (is_short v.name) (within longest_name (map (λ name. length name) v.values)) passes.name (map-within longest_name (λ name. length name) v.values passes.names)

-- operators

effect_sound : (variables : List Variable) (e : Effect) → is_effect variables e ≡ true → is_sound_effect variables e ≡ true
effect_sound variables e is =
    let parts = both (are_facts variables e.conds) (is_fact variables e.fact && not (is_derived variables e.fact.var)) is in
    and_true (list_all (is_fact variables) e.conds) _ (both (is_few e.conds) (list_all (is_fact variables) e.conds) parts.0).1 parts.1

effect_few : (variables : List Variable) (e : Effect) → is_effect variables e ≡ true → nat_le (length e.conds) most_listed ≡ true
effect_few variables e is =
    (both (is_few e.conds) (list_all (is_fact variables) e.conds) (both (are_facts variables e.conds) (is_fact variables e.fact && not (is_derived variables e.fact.var)) is).0).0

record PassesOperator (variables : List Variable) (o : Operator) : Type 0 where
  name : is_short o.name ≡ true
  prevail : has_few_prevail o ≡ true
  pre : list_all (is_fact variables) o.pre ≡ true
  few : is_few o.effects ≡ true
  effects : list_all (is_effect variables) o.effects ≡ true
  cost : nat_le o.cost highest_cost ≡ true

passes_operator : (variables : List Variable) (o : Operator) → is_admissible_operator variables o ≡ true → PassesOperator variables o
passes_operator variables o all =
    let pre = list_all (is_fact variables) o.pre in
    let effects = list_all (is_effect variables) o.effects in
    let cost = nat_le o.cost highest_cost in
    let a = both (is_short o.name) (has_few_prevail o && (pre && (is_few o.effects && (effects && cost)))) all in
    let b = both (has_few_prevail o) (pre && (is_few o.effects && (effects && cost))) a.1 in
    let c = both pre (is_few o.effects && (effects && cost)) b.1 in
    let d = both (is_few o.effects) (effects && cost) c.1 in
    let e = both effects cost d.1 in
    record { name = a.0; prevail = b.0; pre = c.0; few = d.0; effects = e.0; cost = e.1 }

operator_conditions : (variables : List Variable) (o : Operator) → is_admissible_operator variables o ≡ true → within most_listed (conditions_of o) ≡ true
operator_conditions variables o is =
    let passes = passes_operator variables o is in
    and_true (has_few_prevail o) (within most_listed (map (λ e. length e.conds) o.effects)) passes.prevail
    (map-within most_listed (λ e. length e.conds) o.effects (all-one (is_effect variables) (λ e. nat_le (length e.conds) most_listed) o.effects (effect_few variables) passes.effects))

operator_sound : (variables : List Variable) (o : Operator) → is_admissible_operator variables o ≡ true → is_sound_operator variables o ≡ true
operator_sound variables o is =
    let passes = passes_operator variables o is in
    and_true (list_all (is_fact variables) o.pre) _ passes.pre (all-one (is_effect variables) (is_sound_effect variables) o.effects (effect_sound variables) passes.effects)

-- rules

record PassesRule (variables : List Variable) (init : List ℕ) (r : Rule) : Type 0 where
  few : nat_le (length r.conds) most_listed ≡ true
  sound : is_sound_rule variables r ≡ true
  good : is_good_rule variables init r ≡ true

passes_rule : (variables : List Variable) (init : List ℕ) (r : Rule) → is_admissible_rule variables init r ≡ true → PassesRule variables init r
passes_rule variables init r all =
    let a = both (are_facts variables r.conds) (is_fact variables r.head && is_good_rule variables init r) all in
    let b = both (is_fact variables r.head) (is_good_rule variables init r) a.1 in
    let c = both (is_few r.conds) (list_all (is_fact variables) r.conds) a.0 in
    record { few = c.0; sound = and_true (list_all (is_fact variables) r.conds) (is_fact variables r.head) c.1 b.0; good = b.1 }

-- all together

few_facts : (variables : List Variable) (facts : List Fact) → are_facts variables facts ≡ true → nat_le (length facts) most_listed ≡ true
few_facts variables facts is = (both (is_few facts) (list_all (is_fact variables) facts) is).0

all_facts : (variables : List Variable) (facts : List Fact) → are_facts variables facts ≡ true → list_all (is_fact variables) facts ≡ true
all_facts variables facts is = (both (is_few facts) (list_all (is_fact variables) facts) is).1

all_sound : (parts : Parts) → IsAdmissible parts → is_sound parts ≡ true
all_sound parts is =
    and_true (list_all (λ v. nat_lt 0 (length v.values)) parts.variables) _ (all-one is_variable (λ v. nat_lt 0 (length v.values)) parts.variables (λ v a. (passes_variable v a).some) is.variables)
    (and_true (list_all (λ group. list_all (is_fact parts.variables) group) parts.groups) _ (all-one (are_facts parts.variables) (λ group. list_all (is_fact parts.variables) group) parts.groups (all_facts parts.variables) is.groups)
    (and_true (starts parts.variables parts.init) _ is.init
    (and_true (list_all (is_fact parts.variables) parts.goal) _ (all_facts parts.variables parts.goal is.goal)
    (and_true (list_all (is_sound_operator parts.variables) parts.operators) _ (all-one (is_admissible_operator parts.variables) (is_sound_operator parts.variables) parts.operators (operator_sound parts.variables) is.operators)
    (all-one (is_admissible_rule parts.variables parts.init) (is_sound_rule parts.variables) parts.rules (λ r a. (passes_rule parts.variables parts.init r a).sound) is.rules)))))

unit : (metric unit_cost : Bool) → (metric ≡ false → unit_cost ≡ true) → (not metric && not unit_cost) ≡ false
unit true unit_cost costs = refl
unit false unit_cost costs = rw (costs refl) refl

tests_pass : (parts : Parts) → IsAdmissible parts → IsAccepted parts
tests_pass parts is =
    let admissible = is_admissible_operator parts.variables in
    let good = is_admissible_rule parts.variables parts.init in
    record {
      variables = within-one (length parts.variables) most_variables is.few_variables;
      ranges = map-within most_listed (λ v. length v.values) parts.variables (all-one is_variable (λ v. is_few v.values) parts.variables (λ v a. (passes_variable v a).few) is.variables);
      layers = low_layers parts.variables is.variables;
      facts = within-one (fact_count parts.variables) most_facts (test-le (fact_count parts.variables) most_facts is.few_facts);
      groups = within-one (length parts.groups) most_listed is.few_groups;
      group_facts = map-within most_listed (λ group. length group) parts.groups (all-one (are_facts parts.variables) (λ group. is_few group) parts.groups (few_facts parts.variables) is.groups);
      goals = within-one (length parts.goal) most_listed (few_facts parts.variables parts.goal is.goal);
      operators = within-one (length parts.operators) most_operators (test-le (length parts.operators) most_operators is.few_operators);
      conditions = within-both most_listed (flat_map conditions_of parts.operators) (map (λ r. length r.conds) parts.rules)
          (flat_map-within most_listed conditions_of parts.operators (all-one admissible (λ o. within most_listed (conditions_of o)) parts.operators (operator_conditions parts.variables) is.operators))
          (map-within most_listed (λ r. length r.conds) parts.rules (all-one good (λ r. nat_le (length r.conds) most_listed) parts.rules (λ r a. (passes_rule parts.variables parts.init r a).few) is.rules));
      effects = map-within most_listed (λ o. length o.effects) parts.operators (all-one admissible (λ o. is_few o.effects) parts.operators (λ o a. (passes_operator parts.variables o a).few) is.operators);
      rules = within-one (length parts.rules) most_rules (test-le (length parts.rules) most_rules is.few_rules);
      costs = map-within highest_cost (λ o. o.cost) parts.operators (all-one admissible (λ o. nat_le o.cost highest_cost) parts.operators (λ o a. (passes_operator parts.variables o a).cost) is.operators);
      names = within-both longest_name (flat_map names_of parts.variables) (map (λ o. length o.name) parts.operators)
          (flat_map-within longest_name names_of parts.variables (all-one is_variable (λ v. within longest_name (names_of v)) parts.variables variable_names is.variables))
          (map-within longest_name (λ o. length o.name) parts.operators (all-one admissible (λ o. is_short o.name) parts.operators (λ o a. (passes_operator parts.variables o a).name) is.operators));
      two_values = all-one is_variable (λ v. not (is_wide v)) parts.variables (λ v a. not_wide v.layer (length v.values) (passes_variable v a).layer) is.variables;
      sound = all_sound parts is;
      unit_costs = unit parts.metric (is_unit_cost parts) is.costs;
      good_rules = all-one good (is_good_rule parts.variables parts.init) parts.rules (λ r a. (passes_rule parts.variables parts.init r a).good) is.rules;
    }

-- nothing refuses admissible parts
pub admitted : (parts : Parts) → IsAdmissible parts → refusal_of parts ≡ None
admitted parts is = accepted parts (tests_pass parts is)

-- well-formed parts are admissible
formed_operators : (variables : List Variable) (operators : List Operator) → list_all (is_operator variables) operators ≡ true → list_all has_few_prevail operators ≡ true → list_all (is_admissible_operator variables) operators ≡ true
formed_operators variables operators are few = all-two (is_operator variables) has_few_prevail (is_admissible_operator variables) operators one are few
  where
    one : (o : Operator) → is_operator variables o ≡ true → has_few_prevail o ≡ true → is_admissible_operator variables o ≡ true
    one o is prevail =
        let rest = list_all (is_fact variables) o.pre && (is_few o.effects && (list_all (is_effect variables) o.effects && nat_le o.cost highest_cost)) in
        let a = both (is_short o.name) (has_few_conditions o && rest) is in
        let b = both (has_few_conditions o) rest a.1 in
        and_true (is_short o.name) _ a.0 (and_true (has_few_prevail o) rest prevail b.1)

formed_rule : (variables : List Variable) (init : List ℕ) (r : Rule) → is_rule variables init r ≡ true → is_admissible_rule variables init r ≡ true
formed_rule variables init r is =
    let layered = is_layered_rule variables init r in
    let a = both (are_facts variables r.conds) (is_fact variables r.head && (not (is_default init r.head) && layered)) is in
    let b = both (is_fact variables r.head) (not (is_default init r.head) && layered) a.1 in
    let c = both (not (is_default init r.head)) layered b.1 in
    and_true (are_facts variables r.conds) _ a.0 (and_true (is_fact variables r.head) _ b.0 (good (is_default init r.head) c.0 c.1))
  where
    good : (default : Bool) → not default ≡ true → is_layered_rule variables init r ≡ true → (if default then is_derived variables r.head.var else is_layered_rule variables init r) ≡ true
    good true other is = let k : false ≡ true = other in cc
    good false other is = is

pub admissible : (parts : Parts) → IsWellFormed parts → IsAdmissible parts
admissible parts formed = record {
  few_variables = formed.few_variables;
  variables = formed.variables;
  few_facts = formed.few_facts;
  few_groups = formed.few_groups;
  groups = formed.groups;
  init = formed.init;
  goal = formed.goal;
  few_operators = formed.few_operators;
  operators = formed_operators parts.variables parts.operators formed.operators formed.conditions;
  costs = formed.costs;
  few_rules = formed.few_rules;
  rules = all-one (is_rule parts.variables parts.init) (is_admissible_rule parts.variables parts.init) parts.rules (formed_rule parts.variables parts.init) formed.rules;
}

-- nothing refuses well-formed parts
pub refusal_of-formed : (parts : Parts) → IsWellFormed parts → refusal_of parts ≡ None
refusal_of-formed parts formed = admitted parts (admissible parts formed)

-- and where their preconditions are in order, they stay as they are
pub canonical_parts-formed : (parts : Parts) → IsWellFormed parts → map in_order parts.operators ≡ parts.operators → canonical_parts parts ≡ parts
canonical_parts-formed parts formed ordered = rw (ordered, no_defaults parts.variables parts.init parts.rules formed.rules) refl
  where
    no_defaults : (variables : List Variable) (init : List ℕ) (rules : List Rule) → list_all (is_rule variables init) rules ≡ true → filter (λ r. not (is_default init r.head)) rules ≡ rules
    no_defaults variables init [] all = refl
    no_defaults variables init (r ∷ rules) all =
        let parts = both (is_rule variables init r) (list_all (is_rule variables init) rules) all in
        let a = both (are_facts variables r.conds) (is_fact variables r.head && (not (is_default init r.head) && is_layered_rule variables init r)) parts.0 in
        let b = both (is_fact variables r.head) (not (is_default init r.head) && is_layered_rule variables init r) a.1 in
        let c = both (not (is_default init r.head)) (is_layered_rule variables init r) b.1 in
        rw c.0 (ap (λ rs. r ∷ rs) (no_defaults variables init rules parts.1))
