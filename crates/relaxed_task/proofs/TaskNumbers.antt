-- What is made by where each variable's facts begin is what the task's facts by number are.
use Rattle.std.specs.Prelude.{◌≡◌, ℕ, ◌+◌, ◌<◌, List, [], ◌∷◌, ◌++◌, length, true, nat_lt, map, filter, slice_index}
use Rattle.std.specs.List.{list_all, enumerate_from, flat_map}
use Rattle.std.proofs.Common.{arith, refl, sym, ap, ◌∙◌}
use Rattle.std.proofs.lemmas.List.{map-append}
use Rattle.std.proofs.lemmas.Bool.{lt-ltb}
use Rattle.std.proofs.lemmas.List.Folds.{list_all-append, list_all-map}
use Rattle.std.proofs.lemmas.Bool.Decides.{nat_tests}
use Rattle.lama_num.proofs.ListLaws.{both}
use Rattle.sas_task.specs.Costs.{adjusted_cost}
use Rattle.sas_task.specs.WellFormed.{IsWellFormed, is_fact, is_derived, fact_count}
use Rattle.sas_task.proofs.RunLaws.{init-state, goal-facts}
use Rattle.sas_task.specs.declared.contents.CostKind.{CostKind}
use Rattle.sas_task.specs.declared.contents.Fact.{Fact}
use Rattle.sas_task.specs.declared.contents.Variable.{Variable}
use Rattle.sas_task.specs.declared.contents.Effect.{Effect}
use Rattle.sas_task.specs.declared.contents.Operator.{Operator}
use Rattle.sas_task.specs.declared.contents.Rule.{Rule}
use Rattle.sas_task.specs.declared.contents.Parts.{Parts}
use Rattle.relaxed_task.specs.declared.unary.Unary.{Unary}
use Rattle.relaxed_task.specs.Facts.{unary_operators, fact_at, default_facts, UnaryOperator, distinct_facts, from_effect, from_rule}
use Rattle.relaxed_task.specs.Numbers.{number_by, number_of, numbers_of, distinct, by_number, numbered_unaries, is_unary_below}
use Rattle.relaxed_task.proofs.NumberLaws.{unary_there, unary_operators_there, goals_there, numbers_below, number_by-is, number_below, is_numbered, state_fact, numbers_same, by_pairs, defaults_there, distinct_numbers, weaker, effect_facts, operator_facts, operators_facts, rules_facts}
use Rattle.sas_task.specs.Refusals.{is_sound_rule as rule_facts}
use Rattle.relaxed_task.specs.Relaxations.{IsOffsets, IsRelaxed, IsSound}
use Rattle.relaxed_task.specs.declared.relaxation.Lists.{Lists}
use Rattle.relaxed_task.specs.Making.{has_number, have_numbers, effect_has_numbers, operator_has_numbers, rule_has_numbers, all_numbers_by, effect_by, rule_by, operator_by, operators_by, defaults_by}
use Rattle.relaxed_task.proofs.Elements.{join}

below : (a b : ℕ) → a < b → nat_lt a b ≡ true
below a b lt = grind (arith, nat_tests)

-- their numbers

fact_numbered : (variables : List Variable) (offsets : List ℕ) (n : ℕ) (fact : Fact) → IsOffsets variables offsets → n ≡ fact_count variables → is_fact variables fact ≡ true → has_number offsets n fact ≡ true
fact_numbered variables offsets n fact is count h =
    let t = is_numbered variables offsets n fact is count h in
    join _ _ (below fact.var (length offsets) t.variable) (below (number_by offsets fact) n t.below)

facts_numbered : (variables : List Variable) (offsets : List ℕ) (n : ℕ) (facts : List Fact) → IsOffsets variables offsets → n ≡ fact_count variables → list_all (is_fact variables) facts ≡ true → have_numbers offsets n facts ≡ true
facts_numbered variables offsets n facts is count all = weaker (is_fact variables) (has_number offsets n) facts (λ f. fact_numbered variables offsets n f is count) all

effect_numbered : (variables : List Variable) (offsets : List ℕ) (n : ℕ) (e : Effect) → IsOffsets variables offsets → n ≡ fact_count variables → effect_facts variables e ≡ true → effect_has_numbers offsets n e ≡ true
effect_numbered variables offsets n e is count all =
    let t = both (list_all (is_fact variables) e.conds) (is_fact variables e.fact) all in
    join _ _ (facts_numbered variables offsets n e.conds is count t.0) (fact_numbered variables offsets n e.fact is count t.1)

operator_numbered : (variables : List Variable) (offsets : List ℕ) (n : ℕ) (o : Operator) → IsOffsets variables offsets → n ≡ fact_count variables → operator_facts variables o ≡ true → operator_has_numbers offsets n o ≡ true
operator_numbered variables offsets n o is count all =
    let t = both (list_all (is_fact variables) o.pre) (list_all (effect_facts variables) o.effects) all in
    join _ _ (facts_numbered variables offsets n o.pre is count t.0) (weaker (effect_facts variables) (effect_has_numbers offsets n) o.effects (λ e. effect_numbered variables offsets n e is count) t.1)

pub operators_numbered : (parts : Parts) (offsets : List ℕ) (n : ℕ) → IsWellFormed parts → IsOffsets parts.variables offsets → n ≡ fact_count parts.variables → list_all (operator_has_numbers offsets n) parts.operators ≡ true
operators_numbered parts offsets n formed is count =
    weaker (operator_facts parts.variables) (operator_has_numbers offsets n) parts.operators (λ o. operator_numbered parts.variables offsets n o is count) (operators_facts parts formed)

pub rules_numbered : (parts : Parts) (offsets : List ℕ) (n : ℕ) → IsWellFormed parts → IsOffsets parts.variables offsets → n ≡ fact_count parts.variables → list_all (rule_has_numbers offsets n) parts.rules ≡ true
rules_numbered parts offsets n formed is count =
    weaker (rule_facts parts.variables) (rule_has_numbers offsets n) parts.rules
    (λ r all. let t = both (list_all (is_fact parts.variables) r.conds) (is_fact parts.variables r.head) all in
    join _ _ (facts_numbered parts.variables offsets n r.conds is count t.0) (fact_numbered parts.variables offsets n r.head is count t.1))
    (rules_facts parts formed)

pub goals_numbered : (parts : Parts) (offsets : List ℕ) (n : ℕ) → IsWellFormed parts → IsOffsets parts.variables offsets → n ≡ fact_count parts.variables → have_numbers offsets n parts.goal ≡ true
goals_numbered parts offsets n formed is count = facts_numbered parts.variables offsets n parts.goal is count (goal-facts parts formed)

-- numbers are the same

effect_same : (parts : Parts) (kind : CostKind) (offsets : List ℕ) (op : ℕ) (o : Operator) (e : Effect) → IsOffsets parts.variables offsets → list_all (is_fact parts.variables) o.pre ≡ true → effect_facts parts.variables e ≡ true →
    effect_by offsets op (adjusted_cost parts op kind) o.pre e ≡ by_number parts.variables (from_effect parts kind op o e)
effect_same parts kind offsets op o e is pre all =
    let t = both (list_all (is_fact parts.variables) e.conds) (is_fact parts.variables e.fact) all in
    let facts = list_all-append (is_fact parts.variables) o.pre e.conds ∙ join _ _ pre t.0 in
    rw (numbers_same parts.variables offsets (o.pre ++ e.conds) is facts, distinct_numbers parts.variables (o.pre ++ e.conds) facts, number_by-is parts.variables offsets e.fact is t.1) refl

effects_same : (parts : Parts) (kind : CostKind) (offsets : List ℕ) (op : ℕ) (o : Operator) (effects : List Effect) → IsOffsets parts.variables offsets → list_all (is_fact parts.variables) o.pre ≡ true → list_all (effect_facts parts.variables) effects ≡ true →
    map (effect_by offsets op (adjusted_cost parts op kind) o.pre) effects ≡ map (by_number parts.variables) (map (from_effect parts kind op o) effects)
effects_same parts kind offsets op o [] is pre all = refl
effects_same parts kind offsets op o (e ∷ effects) is pre all =
    let t = both (effect_facts parts.variables e) (list_all (effect_facts parts.variables) effects) all in
    ap (λ u. u ∷ map (effect_by offsets op (adjusted_cost parts op kind) o.pre) effects) (effect_same parts kind offsets op o e is pre t.0)
    ∙ ap (λ us. by_number parts.variables (from_effect parts kind op o e) ∷ us) (effects_same parts kind offsets op o effects is pre t.1)

abbrev from_operators : Parts → CostKind → ℕ → List Operator → List UnaryOperator
from_operators parts kind k operators = flat_map (λ p. map (from_effect parts kind p.0 p.1) p.1.effects) (enumerate_from k operators)

operators_from : (parts : Parts) (kind : CostKind) (offsets : List ℕ) (k : ℕ) (operators : List Operator) → IsOffsets parts.variables offsets → list_all (operator_facts parts.variables) operators ≡ true →
    flat_map (λ p. operator_by parts kind offsets p.0 p.1) (enumerate_from k operators) ≡ map (by_number parts.variables) (from_operators parts kind k operators)
operators_from parts kind offsets k [] is all = refl
operators_from parts kind offsets k (o ∷ operators) is all =
    let t = both (operator_facts parts.variables o) (list_all (operator_facts parts.variables) operators) all in
    let own = both (list_all (is_fact parts.variables) o.pre) (list_all (effect_facts parts.variables) o.effects) t.0 in
    ap (λ us. us ++ flat_map (λ p. operator_by parts kind offsets p.0 p.1) (enumerate_from (k + 1) operators)) (effects_same parts kind offsets k o o.effects is own.0 own.1)
    ∙ (ap (λ us. map (by_number parts.variables) (map (from_effect parts kind k o) o.effects) ++ us) (operators_from parts kind offsets (k + 1) operators is t.1)
    ∙ sym (map-append (by_number parts.variables) (map (from_effect parts kind k o) o.effects) (from_operators parts kind (k + 1) operators)))

rules_same : (parts : Parts) (offsets : List ℕ) (rules : List Rule) → IsOffsets parts.variables offsets → list_all (rule_facts parts.variables) rules ≡ true → map (rule_by offsets) rules ≡ map (by_number parts.variables) (map from_rule rules)
rules_same parts offsets [] is all = refl
rules_same parts offsets (r ∷ rules) is all =
    let t = both (rule_facts parts.variables r) (list_all (rule_facts parts.variables) rules) all in
    let own = both (list_all (is_fact parts.variables) r.conds) (is_fact parts.variables r.head) t.0 in
    let here : rule_by offsets r ≡ by_number parts.variables (from_rule r) = rw (numbers_same parts.variables offsets r.conds is own.0, distinct_numbers parts.variables r.conds own.0, number_by-is parts.variables offsets r.head is own.1) refl in
    ap (λ u. u ∷ map (rule_by offsets) rules) here ∙ ap (λ us. by_number parts.variables (from_rule r) ∷ us) (rules_same parts offsets rules is t.1)

pub unaries_same : (parts : Parts) (kind : CostKind) (offsets : List ℕ) (one two three : List Unary) → IsWellFormed parts → IsOffsets parts.variables offsets →
    one ≡ [] → two ≡ one ++ operators_by parts kind offsets parts.operators → three ≡ two ++ map (rule_by offsets) parts.rules → three ≡ numbered_unaries parts kind
unaries_same parts kind offsets one two three formed is none operators rules =
    let a : two ≡ map (by_number parts.variables) (from_operators parts kind 0 parts.operators) = operators ∙ (ap (λ us. us ++ operators_by parts kind offsets parts.operators) none ∙ operators_from parts kind offsets 0 parts.operators is (operators_facts parts formed)) in
    rules ∙ (ap (λ us. us ++ map (rule_by offsets) parts.rules) a ∙ (ap (λ us. map (by_number parts.variables) (from_operators parts kind 0 parts.operators) ++ us) (rules_same parts offsets parts.rules is (rules_facts parts formed))
    ∙ sym (map-append (by_number parts.variables) (from_operators parts kind 0 parts.operators) (map from_rule parts.rules))))

pub goals_same : (parts : Parts) (offsets goals : List ℕ) → IsWellFormed parts → IsOffsets parts.variables offsets → goals ≡ distinct (all_numbers_by offsets (parts.goal ++ [])) → goals ≡ numbers_of parts.variables (distinct_facts parts.goal)
goals_same parts offsets goals formed is made =
    made ∙ (ap distinct (ap (all_numbers_by offsets) (nothing parts.goal) ∙ numbers_same parts.variables offsets parts.goal is (goal-facts parts formed))
    ∙ distinct_numbers parts.variables parts.goal (goal-facts parts formed))
  where
    nothing : (zs : List Fact) → zs ++ [] ≡ zs
    nothing [] = refl
    nothing (z ∷ zs) = ap (λ t. z ∷ t) (nothing zs)

-- the defaults

initial_number : (parts : Parts) (offsets : List ℕ) (var : ℕ) → IsWellFormed parts → IsOffsets parts.variables offsets → var < length parts.init →
    number_by offsets (fact_at var (slice_index parts.init var)) ≡ number_of parts.variables (fact_at var (slice_index parts.init var))
initial_number parts offsets var formed is lt =
    let init = init-state parts formed in
    number_by-is parts.variables offsets (fact_at var (slice_index parts.init var)) is (state_fact parts.variables parts.init var init (omega (arith, init.long)))

pub defaults_same : (parts : Parts) (offsets : List ℕ) → IsWellFormed parts → IsOffsets parts.variables offsets → defaults_by offsets parts.variables parts.init ≡ numbers_of parts.variables (default_facts parts)
defaults_same parts offsets formed is =
    by_pairs offsets (filter (λ p. is_derived parts.variables p.0) (enumerate_from 0 parts.init)) ∙ numbers_same parts.variables offsets (default_facts parts) is (defaults_there parts formed)

-- the sums of where facts begin and initial values are small
pub defaults_small : (parts : Parts) (offsets : List ℕ) (var : ℕ) → IsWellFormed parts → IsOffsets parts.variables offsets → var < length parts.init → slice_index offsets var + slice_index parts.init var < 4294967296
defaults_small parts offsets var formed is lt =
    let init = init-state parts formed in
    let fact = state_fact parts.variables parts.init var init (omega (arith, init.long)) in
    let less = number_below parts.variables (fact_at var (slice_index parts.init var)) fact in
    let few = formed.few_facts in
    let same : slice_index offsets var + slice_index parts.init var ≡ number_of parts.variables (fact_at var (slice_index parts.init var)) = initial_number parts offsets var formed is lt in
    omega (arith, less, few, same)

-- The relaxation of a task is sound.
pub relaxed_sound : (parts : Parts) (kind : CostKind) (lists : Lists) → IsRelaxed parts kind lists → IsSound lists
relaxed_sound parts kind lists is =
    let formed = is.well_formed in
    let few = formed.few_facts in
    record {
      few = omega (arith, few, is.facts);
      unaries = rw (is.facts, is.unaries) (list_all-map (is_unary_below (fact_count parts.variables)) (by_number parts.variables) (unary_operators parts kind)
          ∙ weaker (unary_there parts.variables) (λ u. is_unary_below (fact_count parts.variables) (by_number parts.variables u)) (unary_operators parts kind) below (unary_operators_there parts kind formed));
      defaults = rw (is.facts, is.defaults) (numbers_below parts.variables (default_facts parts) (defaults_there parts formed));
      goals = rw (is.facts, is.goals) (numbers_below parts.variables (distinct_facts parts.goal) (goals_there parts formed));
    }
  where
    below : (u : UnaryOperator) → unary_there parts.variables u ≡ true → is_unary_below (fact_count parts.variables) (by_number parts.variables u) ≡ true
    below u is =
        let t = both (list_all (is_fact parts.variables) u.conds) (is_fact parts.variables u.gives) is in
        join _ _ (numbers_below parts.variables u.conds t.0) (lt-ltb (number_of parts.variables u.gives) (fact_count parts.variables) (number_below parts.variables u.gives t.1))
