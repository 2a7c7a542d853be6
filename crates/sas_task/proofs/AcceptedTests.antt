-- What the tests of `check` tell where nothing refuses the parts.
use Rattle.std.specs.Prelude.{◌≡◌, ℕ, ◌+◌, List, [], ◌∷◌, length, Bool, true, false, ◌&&◌, not, nat_lt, nat_le, map, filter_map, position, Option, Some, None, option_map, if◌then◌else◌}
use Rattle.std.proofs.Common.{arith, refl, sym, ap, ◌∙◌}
use Rattle.std.specs.List.{list_all, position_from}
use Rattle.std.proofs.lemmas.Bool.Decides.{nat_tests}
use Rattle.std.proofs.lemmas.Iterator.Adapters.{position_from-zero}
use Rattle.lama_num.proofs.ListLaws.{both}
use Rattle.sas_task.specs.Limits.{most_variables, most_facts, most_operators, most_rules, most_listed, highest_layer, highest_cost, longest_name}
use Rattle.sas_task.proofs.TestLaws.{within, not-not, all-same}
use Rattle.sas_task.proofs.Admission.{IsAccepted, bad}
use Rattle.sas_task.specs.WellFormed.{fact_count}
use Rattle.sas_task.specs.Costs.{is_unit_cost}
use Rattle.sas_task.specs.Refusals.{above, too_large, condition_counts, name_lengths, is_wide, is_sound, is_good_rule, first_cause, refusal_of}
use Rattle.sas_task.specs.declared.contents.Rule.{Rule}
use Rattle.sas_task.specs.declared.contents.Parts.{Parts}
use Rattle.sas_task.specs.declared.refusals.What.{What}
use Rattle.sas_task.specs.declared.refusals.What.TheVariants.{Variables, Range, Layer, Facts, Groups, GroupFacts, Goals, Operators, Conditions, Effects, Rules, Cost, Name}
use Rattle.sas_task.specs.declared.refusals.TaskError.{TaskError}
use Rattle.sas_task.specs.declared.refusals.TaskError.TheVariants.{TooLarge, WideDerived, BadFact, BadCost, BadRule}

within-above : (most : ℕ) (counts : List ℕ) → above most counts ≡ None → within most counts ≡ true
within-above most [] none = refl
within-above most (n ∷ ns) none =
    elim (nat_lt most n) as (λ b. nat_lt most n ≡ b → within most (n ∷ ns) ≡ true) [
      | true ↦ λ is. let k : Some n ≡ None = rw is at none in cc
      | false ↦ λ is.
          let rest : above most ns ≡ None = rw is at none in
          let here : nat_le n most ≡ true = grind (arith, nat_tests, is) in
          rw here (within-above most ns rest)
    ] refl

mapped-none : {A B : Type 0} (f : A → B) (o : Option A) → option_map f o ≡ None → o ≡ None
mapped-none f None none = refl
mapped-none f (Some x) none = let k : Some (f x) ≡ None = none in cc

all-position : {X : Type 0} (p : X → Bool) (i : ℕ) (xs : List X) → position_from p i xs ≡ None → list_all (λ x. not (p x)) xs ≡ true
all-position p i [] none = refl
all-position p i (x ∷ xs) none =
    elim (p x) as (λ b. p x ≡ b → list_all (λ x. not (p x)) (x ∷ xs) ≡ true) [
      | true ↦ λ is. let k : Some i ≡ None = rw is at none in cc
      | false ↦ λ is. let rest : position_from p (i + 1) xs ≡ None = rw is at none in rw is (all-position p (i + 1) xs rest)
    ] refl

first_cause-none : (o : Option TaskError) (os : List (Option TaskError)) → first_cause (o ∷ os) ≡ None → (o ≡ None) × (first_cause os ≡ None)
first_cause-none None os none = (refl, none)
first_cause-none (Some e) os none = let k : Some e ≡ None = none in cc

none-large : (what : What) (most : ℕ) (counts : List ℕ) → too_large what most counts ≡ None → within most counts ≡ true
none-large what most counts none = within-above most counts (mapped-none (λ count. TooLarge what count) (above most counts) none)

none_sound : (b : Bool) → (if b then None else Some BadFact) ≡ None → b ≡ true
none_sound true none = refl
none_sound false none = let k : Some BadFact ≡ None = none in cc

none_cost : (b : Bool) → (if b then Some BadCost else None) ≡ None → b ≡ false
none_cost true none = let k : Some BadCost ≡ None = none in cc
none_cost false none = refl

-- and the other way
pub is_accepted : (parts : Parts) → refusal_of parts ≡ None → IsAccepted parts
unfolding refusal_of
is_accepted parts none =
    let at_variables = first_cause-none _ _ none in
    let at_ranges = first_cause-none _ _ at_variables.1 in
    let at_layers = first_cause-none _ _ at_ranges.1 in
    let at_facts = first_cause-none _ _ at_layers.1 in
    let at_groups = first_cause-none _ _ at_facts.1 in
    let at_group_facts = first_cause-none _ _ at_groups.1 in
    let at_goals = first_cause-none _ _ at_group_facts.1 in
    let at_operators = first_cause-none _ _ at_goals.1 in
    let at_conditions = first_cause-none _ _ at_operators.1 in
    let at_effects = first_cause-none _ _ at_conditions.1 in
    let at_rules = first_cause-none _ _ at_effects.1 in
    let at_costs = first_cause-none _ _ at_rules.1 in
    let at_names = first_cause-none _ _ at_costs.1 in
    let at_two_values = first_cause-none _ _ at_names.1 in
    let at_sound = first_cause-none _ _ at_two_values.1 in
    let at_unit_costs = first_cause-none _ _ at_sound.1 in
    let at_rules_good = first_cause-none _ _ at_unit_costs.1 in
    record {
      variables = none-large Variables most_variables (length parts.variables ∷ []) at_variables.0;
      ranges = none-large Range most_listed (map (λ v. length v.values) parts.variables) at_ranges.0;
      layers = none-large Layer highest_layer (filter_map (λ v. v.layer) parts.variables) at_layers.0;
      facts = none-large Facts most_facts (fact_count parts.variables ∷ []) at_facts.0;
      groups = none-large Groups most_listed (length parts.groups ∷ []) at_groups.0;
      group_facts = none-large GroupFacts most_listed (map (λ group. length group) parts.groups) at_group_facts.0;
      goals = none-large Goals most_listed (length parts.goal ∷ []) at_goals.0;
      operators = none-large Operators most_operators (length parts.operators ∷ []) at_operators.0;
      conditions = none-large Conditions most_listed (condition_counts parts) at_conditions.0;
      effects = none-large Effects most_listed (map (λ o. length o.effects) parts.operators) at_effects.0;
      rules = none-large Rules most_rules (length parts.rules ∷ []) at_rules.0;
      costs = none-large Cost highest_cost (map (λ o. o.cost) parts.operators) at_costs.0;
      names = none-large Name longest_name (name_lengths parts) at_names.0;
      two_values = all-position is_wide 0 parts.variables (sym (position_from-zero is_wide parts.variables) ∙ mapped-none (λ var. WideDerived var) (position is_wide parts.variables) at_two_values.0);
      sound = none_sound (is_sound parts) at_sound.0;
      unit_costs = none_cost (not parts.metric && not (is_unit_cost parts)) at_unit_costs.0;
      good_rules = sym (all-same (λ r. not (bad parts r)) (is_good_rule parts.variables parts.init) parts.rules (λ r. not-not (is_good_rule parts.variables parts.init r)))
          ∙ all-position (bad parts) 0 parts.rules (sym (position_from-zero (bad parts) parts.rules) ∙ mapped-none (λ rule. BadRule rule) (position (bad parts) parts.rules) at_rules_good.0);
    }
