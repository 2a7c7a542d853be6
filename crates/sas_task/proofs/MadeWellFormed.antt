-- What is made of accepted parts is well formed.
use Rattle.std.specs.Prelude.{◌≡◌, ℕ, ◌+◌, ◌≤◌, List, [], ◌∷◌, length, Bool, true, false, ◌&&◌, not, nat_eq, nat_lt, nat_le, map, filter, filter_map, flat_map, slice_get, zero, suc, Option, Some, None, is_some, if◌then◌else◌}
use Rattle.std.proofs.Common.{arith, refl, sym, ap, ◌∙◌, subst}
use Rattle.std.specs.List.{list_all, cons_option}
use Rattle.std.proofs.lemmas.List.{length-map}
use Rattle.std.proofs.lemmas.List.Folds.{list_all-append, list_all-map}
use Rattle.std.proofs.lemmas.Bool.Decides.{nat_tests}
use Rattle.lama_num.proofs.ListLaws.{both}
use Rattle.sas_task.specs.Limits.{most_variables, most_facts, most_operators, most_rules, most_listed, highest_layer, highest_cost, longest_name}
use Rattle.sas_task.specs.WellFormed.{IsWellFormed, is_derived, is_short, is_few, is_layered, is_variable, is_fact, are_facts, is_effect, has_few_conditions, is_operator, starts, is_default, is_layered_rule, is_rule, fact_count}
use Rattle.sas_task.specs.Costs.{is_unit_cost}
use Rattle.sas_task.specs.Order.{ordered, in_order, prevail_count, has_few_prevail, IsInOrder}
use Rattle.sas_task.specs.Refusals.{conditions_of, names_of, is_wide, is_sound_effect, is_sound_operator, is_sound_rule, is_sound, is_good_rule, refusal_of, canonical_parts}
use Rattle.sas_task.proofs.Admission.{IsAccepted}
use Rattle.sas_task.proofs.AcceptedTests.{is_accepted}
use Rattle.sas_task.specs.declared.contents.Variable.{Variable}
use Rattle.sas_task.specs.declared.contents.Effect.{Effect}
use Rattle.sas_task.specs.declared.contents.Operator.{Operator}
use Rattle.sas_task.specs.declared.contents.Rule.{Rule}
use Rattle.sas_task.specs.declared.contents.Parts.{Parts}
use Rattle.sas_task.proofs.TestLaws.{within, le-test, test-le, one-within, and_true, all-two, all-one, all-and, within-flat_map, within-map}
use Rattle.sas_task.proofs.KeptPreconditions.{all-ordered, is_in_order, few_prevail, length-ordered}
use Rattle.sas_task.proofs.TableLaws.{length-filter-le}

-- variables

abbrev has_low_layer : Option ℕ → Bool
has_low_layer None = true
has_low_layer (Some layer) = nat_le layer highest_layer

low_layers : (variables : List Variable) → within highest_layer (filter_map (λ v. v.layer) variables) ≡ true → list_all (λ v. has_low_layer v.layer) variables ≡ true
low_layers [] all = refl
low_layers (v ∷ variables) all = by_layer v.layer (filter_map (λ v. v.layer) variables) all (low_layers variables)
  where
    by_layer : (layer : Option ℕ) (rest : List ℕ) → within highest_layer (cons_option layer rest) ≡ true → (within highest_layer rest ≡ true → list_all (λ v. has_low_layer v.layer) variables ≡ true) → (has_low_layer layer && list_all (λ v. has_low_layer v.layer) variables) ≡ true
    by_layer None rest all behind = behind all
    by_layer (Some layer) rest all behind =
        let parts = both (nat_le layer highest_layer) (within highest_layer rest) all in
        and_true (nat_le layer highest_layer) (list_all (λ v. has_low_layer v.layer) variables) parts.0 (behind parts.1)

layered : (layer : Option ℕ) (range : ℕ) → has_low_layer layer ≡ true → not (is_some layer && not (nat_eq range 2)) ≡ true → is_layered layer range ≡ true
layered None range low two = refl
layered (Some layer) range low two = and_true (nat_le layer highest_layer) (nat_eq range 2) low (unnegated (nat_eq range 2) two)
  where
    unnegated : (b : Bool) → not (not b) ≡ true → b ≡ true
    unnegated true e = refl
    unnegated false e = e

variables_pass : (parts : Parts) → IsAccepted parts → list_all is_variable parts.variables ≡ true
variables_pass parts is =
    let name_parts = both (within longest_name (flat_map names_of parts.variables)) (within longest_name (map (λ o. length o.name) parts.operators)) (sym (list_all-append (λ n. nat_le n longest_name) (flat_map names_of parts.variables) (map (λ o. length o.name) parts.operators)) ∙ is.names) in
    let names = within-flat_map longest_name names_of parts.variables name_parts.0 in
    let values = (both (list_all (λ v. nat_lt 0 (length v.values)) parts.variables) _ is.sound).0 in
    let ranges = within-map most_listed (λ v. length v.values) parts.variables is.ranges in
    let layers = low_layers parts.variables is.layers in
    all-two (λ v. within longest_name (names_of v) && nat_lt 0 (length v.values)) (λ v. nat_le (length v.values) highest_layer && (has_low_layer v.layer && not (is_wide v))) is_variable parts.variables one
    (all-and (λ v. within longest_name (names_of v)) (λ v. nat_lt 0 (length v.values)) parts.variables names values)
    (all-and (λ v. nat_le (length v.values) highest_layer) (λ v. has_low_layer v.layer && not (is_wide v)) parts.variables ranges (all-and (λ v. has_low_layer v.layer) (λ v. not (is_wide v)) parts.variables layers is.two_values))
  where
    one : (v : Variable) → (within longest_name (names_of v) && nat_lt 0 (length v.values)) ≡ true → (nat_le (length v.values) highest_layer && (has_low_layer v.layer && not (is_wide v))) ≡ true → is_variable v ≡ true
    one v a b =
        let p = both (within longest_name (names_of v)) (nat_lt 0 (length v.values)) a in
        let q = both (nat_le (length v.values) highest_layer) (has_low_layer v.layer && not (is_wide v)) b in
        let r = both (has_low_layer v.layer) (not (is_wide v)) q.1 in
        let n = both (is_short v.name) (within longest_name (map (λ name. length name) v.values)) p.0 in
        let short = within-map longest_name (λ name. length name) v.values n.1 in
        and_true (is_short v.name) _ n.0
        (and_true (is_layered v.layer (length v.values)) _ (layered v.layer (length v.values) r.0 r.1)
        (and_true (nat_lt 0 (length v.values)) _ p.1
        (and_true (is_few v.values) (list_all is_short v.values) q.0 short)))

-- operators

effect_passes : (variables : List Variable) (e : Effect) → nat_le (length e.conds) most_listed ≡ true → is_sound_effect variables e ≡ true → is_effect variables e ≡ true
effect_passes variables e few sound =
    let parts = both (list_all (is_fact variables) e.conds) (is_fact variables e.fact && not (is_derived variables e.fact.var)) sound in
    and_true (are_facts variables e.conds) (is_fact variables e.fact && not (is_derived variables e.fact.var)) (and_true (is_few e.conds) (list_all (is_fact variables) e.conds) few parts.0) parts.1

operator_passes : (variables : List Variable) (o : Operator) → is_short o.name ≡ true → within most_listed (conditions_of o) ≡ true → is_few o.effects ≡ true → nat_le o.cost highest_cost ≡ true → is_sound_operator variables o ≡ true →
    is_operator variables (in_order o) ≡ true
operator_passes variables o short conditions few cost sound =
    let counts = both (nat_le (prevail_count o) most_listed) (within most_listed (map (λ e. length e.conds) o.effects)) conditions in
    let facts = both (list_all (is_fact variables) o.pre) (list_all (is_sound_effect variables) o.effects) sound in
    let long = length-ordered o.pre o.effects in
    let few_prevails = le-test (prevail_count o) most_listed counts.0 in
    let few_conditions : has_few_conditions (in_order o) ≡ true = test-le (length (ordered o.pre o.effects)) (most_listed + length o.effects) (omega (arith, long, few_prevails)) in
    let pre = all-ordered (is_fact variables) o.pre o.effects facts.0 in
    let effects = all-two (λ e. nat_le (length e.conds) most_listed) (is_sound_effect variables) (is_effect variables) o.effects (effect_passes variables) (within-map most_listed (λ e. length e.conds) o.effects counts.1) facts.1 in
    and_true (is_short o.name) _ short
    (and_true (has_few_conditions (in_order o)) _ few_conditions
    (and_true (list_all (is_fact variables) (ordered o.pre o.effects)) _ pre
    (and_true (is_few o.effects) _ few
    (and_true (list_all (is_effect variables) o.effects) (nat_le o.cost highest_cost) effects cost))))

-- the operators' share of the counts of conditions
operator_conditions : (parts : Parts) → IsAccepted parts → list_all (λ o. within most_listed (conditions_of o)) parts.operators ≡ true
operator_conditions parts is =
    within-flat_map most_listed conditions_of parts.operators (both (within most_listed (flat_map conditions_of parts.operators)) (within most_listed (map (λ r. length r.conds) parts.rules)) (sym (list_all-append (λ n. nat_le n most_listed) (flat_map conditions_of parts.operators) (map (λ r. length r.conds) parts.rules)) ∙ is.conditions)).0

-- the parts of soundness
record IsSound (parts : Parts) : Type 0 where
  groups : list_all (λ group. list_all (is_fact parts.variables) group) parts.groups ≡ true
  init : starts parts.variables parts.init ≡ true
  goal : list_all (is_fact parts.variables) parts.goal ≡ true
  operators : list_all (is_sound_operator parts.variables) parts.operators ≡ true
  rules : list_all (is_sound_rule parts.variables) parts.rules ≡ true

sound_parts : (parts : Parts) → is_sound parts ≡ true → IsSound parts
sound_parts parts is =
    let groups = list_all (λ group. list_all (is_fact parts.variables) group) parts.groups in
    let init = starts parts.variables parts.init in
    let goal = list_all (is_fact parts.variables) parts.goal in
    let operators = list_all (is_sound_operator parts.variables) parts.operators in
    let rules = list_all (is_sound_rule parts.variables) parts.rules in
    let a = both (list_all (λ v. nat_lt 0 (length v.values)) parts.variables) (groups && (init && (goal && (operators && rules)))) is in
    let b = both groups (init && (goal && (operators && rules))) a.1 in
    let c = both init (goal && (operators && rules)) b.1 in
    let d = both goal (operators && rules) c.1 in
    let e = both operators rules d.1 in
    record { groups = b.0; init = c.0; goal = d.0; operators = e.0; rules = e.1 }

operators_pass : (parts : Parts) → IsAccepted parts → list_all (λ o. is_operator parts.variables (in_order o)) parts.operators ≡ true
operators_pass parts is =
    let names = within-map longest_name (λ o. length o.name) parts.operators (both (within longest_name (flat_map names_of parts.variables)) (within longest_name (map (λ o. length o.name) parts.operators)) (sym (list_all-append (λ n. nat_le n longest_name) (flat_map names_of parts.variables) (map (λ o. length o.name) parts.operators)) ∙ is.names)).1 in
    let effects = within-map most_listed (λ o. length o.effects) parts.operators is.effects in
    let costs = within-map highest_cost (λ o. o.cost) parts.operators is.costs in
    let sound = (sound_parts parts is.sound).operators in
    all-two (λ o. is_short o.name && within most_listed (conditions_of o)) (λ o. is_few o.effects && (nat_le o.cost highest_cost && is_sound_operator parts.variables o)) (λ o. is_operator parts.variables (in_order o)) parts.operators (one parts.variables)
    (all-and (λ o. is_short o.name) (λ o. within most_listed (conditions_of o)) parts.operators names (operator_conditions parts is))
    (all-and (λ o. is_few o.effects) (λ o. nat_le o.cost highest_cost && is_sound_operator parts.variables o) parts.operators effects (all-and (λ o. nat_le o.cost highest_cost) (is_sound_operator parts.variables) parts.operators costs sound))
  where
    one : (variables : List Variable) (o : Operator) → (is_short o.name && within most_listed (conditions_of o)) ≡ true → (is_few o.effects && (nat_le o.cost highest_cost && is_sound_operator variables o)) ≡ true → is_operator variables (in_order o) ≡ true
    one variables o a b =
        let p = both (is_short o.name) (within most_listed (conditions_of o)) a in
        let q = both (is_few o.effects) (nat_le o.cost highest_cost && is_sound_operator variables o) b in
        let r = both (nat_le o.cost highest_cost) (is_sound_operator variables o) q.1 in
        operator_passes variables o p.0 p.1 q.0 r.0 r.1

few_prevails : (parts : Parts) → IsAccepted parts → list_all (λ o. has_few_prevail (in_order o)) parts.operators ≡ true
few_prevails parts is = all-one (λ o. within most_listed (conditions_of o)) (λ o. has_few_prevail (in_order o)) parts.operators one (operator_conditions parts is)
  where
    one : (o : Operator) → within most_listed (conditions_of o) ≡ true → has_few_prevail (in_order o) ≡ true
    one o conditions = few_prevail o (le-test (prevail_count o) most_listed (both (nat_le (prevail_count o) most_listed) (within most_listed (map (λ e. length e.conds) o.effects)) conditions).0)

order_holds : (operators : List Operator) (op : ℕ) (o : Operator) → slice_get (map in_order operators) op ≡ Some o → IsInOrder o
order_holds [] op o at = let k : None ≡ Some o = at in cc
order_holds (x ∷ operators) zero o at = let k : Some (in_order x) ≡ Some o = at in let e : in_order x ≡ o = cc in subst IsInOrder e (is_in_order x)
order_holds (x ∷ operators) (suc op) o at = order_holds operators op o at

-- rules

rules_pass : (variables : List Variable) (init : List ℕ) (rules : List Rule) → list_all (λ r. nat_le (length r.conds) most_listed) rules ≡ true → list_all (is_sound_rule variables) rules ≡ true → list_all (is_good_rule variables init) rules ≡ true →
    list_all (is_rule variables init) (filter (λ r. not (is_default init r.head)) rules) ≡ true
rules_pass variables init [] few sound good = refl
rules_pass variables init (r ∷ rules) few sound good =
    let a = both (nat_le (length r.conds) most_listed) (list_all (λ r. nat_le (length r.conds) most_listed) rules) few in
    let b = both (is_sound_rule variables r) (list_all (is_sound_rule variables) rules) sound in
    let c = both (is_good_rule variables init r) (list_all (is_good_rule variables init) rules) good in
    let rest = rules_pass variables init rules a.1 b.1 c.1 in
    elim (is_default init r.head) as (λ d. is_default init r.head ≡ d → list_all (is_rule variables init) (filter (λ r. not (is_default init r.head)) (r ∷ rules)) ≡ true) [
      | true ↦ λ default. rw default rest
      | false ↦ λ other.
          let facts = both (list_all (is_fact variables) r.conds) (is_fact variables r.head) b.0 in
          let below : is_layered_rule variables init r ≡ true = ap (λ d. if d then is_derived variables r.head.var else is_layered_rule variables init r) (sym other) ∙ c.0 in
          let not_default : not (is_default init r.head) ≡ true = ap not other in
          let here : is_rule variables init r ≡ true =
          and_true (are_facts variables r.conds) _ (and_true (is_few r.conds) (list_all (is_fact variables) r.conds) a.0 facts.0)
          (and_true (is_fact variables r.head) _ facts.1 (and_true (not (is_default init r.head)) (is_layered_rule variables init r) not_default below)) in
          rw other (and_true (is_rule variables init r) _ here rest)
    ] refl

-- all together

unit : (metric unit_cost : Bool) → (not metric && not unit_cost) ≡ false → metric ≡ false → unit_cost ≡ true
unit metric true is none = refl
unit true false is none = let k : true ≡ false = none in cc
unit false false is none = let k : true ≡ false = is in cc

pub forms : (parts : Parts) → IsAccepted parts → IsWellFormed (canonical_parts parts)
forms parts is =
    let sound = sound_parts parts is.sound in
    let rule_conditions = within-map most_listed (λ r. length r.conds) parts.rules (both (within most_listed (flat_map conditions_of parts.operators)) (within most_listed (map (λ r. length r.conds) parts.rules)) (sym (list_all-append (λ n. nat_le n most_listed) (flat_map conditions_of parts.operators) (map (λ r. length r.conds) parts.rules)) ∙ is.conditions)).1 in
    let few_operators = le-test (length parts.operators) most_operators (one-within (length parts.operators) most_operators is.operators) in
    let few_rules = le-test (length parts.rules) most_rules (one-within (length parts.rules) most_rules is.rules) in
    let fewer_rules = length-filter-le (λ r. not (is_default parts.init r.head)) parts.rules in
    let same_operators = length-map parts.operators in_order in
    record {
      few_variables = one-within (length parts.variables) most_variables is.variables;
      variables = variables_pass parts is;
      few_facts = le-test (fact_count parts.variables) most_facts (one-within (fact_count parts.variables) most_facts is.facts);
      few_groups = one-within (length parts.groups) most_listed is.groups;
      groups = all-two (λ group. nat_le (length group) most_listed) (λ group. list_all (is_fact parts.variables) group) (are_facts parts.variables) parts.groups (λ group a b. and_true (is_few group) (list_all (is_fact parts.variables) group) a b) (within-map most_listed (λ group. length group) parts.groups is.group_facts) sound.groups;
      init = sound.init;
      goal = and_true (is_few parts.goal) (list_all (is_fact parts.variables) parts.goal) (one-within (length parts.goal) most_listed is.goals) sound.goal;
      few_operators = omega (arith, few_operators, same_operators);
      operators = list_all-map (is_operator parts.variables) in_order parts.operators ∙ operators_pass parts is;
      conditions = list_all-map has_few_prevail in_order parts.operators ∙ few_prevails parts is;
      order = order_holds parts.operators;
      costs = λ none. list_all-map (λ o. nat_eq o.cost 1) in_order parts.operators ∙ unit parts.metric (is_unit_cost parts) is.unit_costs none;
      few_rules = omega (arith, few_rules, fewer_rules);
      rules = rules_pass parts.variables parts.init parts.rules rule_conditions sound.rules is.good_rules;
    }

pub brought_forms : (parts : Parts) → refusal_of parts ≡ None → IsWellFormed (canonical_parts parts)
brought_forms parts none = forms parts (is_accepted parts none)

-- the same of the pieces that `accepted` puts together
pub accepted_forms : (parts : Parts) (operators : List Operator) (rules : List Rule) → refusal_of parts ≡ None → operators ≡ map in_order parts.operators → rules ≡ filter (λ r. not (is_default parts.init r.head)) parts.rules →
    IsWellFormed (record parts { operators = operators; rules = rules })
accepted_forms parts operators rules none a b = rw (a, b) (brought_forms parts none)
