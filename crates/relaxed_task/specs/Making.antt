-- What the making of a relaxation keeps on the way: marks of facts, and unary operators by where each variable's facts begin.
use Rattle.std.specs.Prelude.{◌≡◌, ℕ, List, [], ◌∷◌, ◌++◌, length, map, filter, Bool, false, nat_lt, ◌&&◌, Some, None, if◌then◌else◌, slice_index_or}
use Rattle.std.specs.List.{list_all, enumerate_from, flat_map}
use Rattle.sas_task.specs.Costs.{adjusted_cost}
use Rattle.sas_task.specs.WellFormed.{is_derived}
use Rattle.sas_task.specs.declared.contents.CostKind.{CostKind}
use Rattle.sas_task.specs.declared.contents.Fact.{Fact}
use Rattle.sas_task.specs.declared.contents.Variable.{Variable}
use Rattle.sas_task.specs.declared.contents.Effect.{Effect}
use Rattle.sas_task.specs.declared.contents.Operator.{Operator}
use Rattle.sas_task.specs.declared.contents.Rule.{Rule}
use Rattle.sas_task.specs.declared.contents.Parts.{Parts}
use Rattle.relaxed_task.specs.declared.unary.Unary.{Unary}
use Rattle.relaxed_task.specs.Facts.{fact_at}
use Rattle.relaxed_task.specs.Numbers.{number_by, distinct, is_among}

abbrev pub is_marked : List Bool → ℕ → Bool
is_marked marks fact = slice_index_or marks fact false

-- exactly the facts of a list are marked
abbrev pub AreMarked : List Bool → List ℕ → Type 0
AreMarked marks facts = (fact : ℕ) → is_marked marks fact ≡ is_among facts fact

-- a fact more, unless it is there
abbrev pub with_one : List ℕ → ℕ → List ℕ
with_one facts fact = if is_among facts fact then facts else facts ++ fact ∷ []

abbrev pub with_all : List ℕ → List ℕ → List ℕ
with_all facts [] = facts
with_all facts (fact ∷ more) = with_all (with_one facts fact) more

-- the variable is there, and the number is one of so many
abbrev pub has_number : List ℕ → ℕ → Fact → Bool
has_number offsets n fact = nat_lt fact.var (length offsets) && nat_lt (number_by offsets fact) n

abbrev pub have_numbers : List ℕ → ℕ → List Fact → Bool
have_numbers offsets n facts = list_all (has_number offsets n) facts

abbrev pub effect_has_numbers : List ℕ → ℕ → Effect → Bool
effect_has_numbers offsets n effect = have_numbers offsets n effect.conds && has_number offsets n effect.fact

abbrev pub operator_has_numbers : List ℕ → ℕ → Operator → Bool
operator_has_numbers offsets n operator = have_numbers offsets n operator.pre && list_all (effect_has_numbers offsets n) operator.effects

abbrev pub rule_has_numbers : List ℕ → ℕ → Rule → Bool
rule_has_numbers offsets n rule = have_numbers offsets n rule.conds && has_number offsets n rule.head

-- the numbers of facts, by where each variable's facts begin
abbrev pub all_numbers_by : List ℕ → List Fact → List ℕ
all_numbers_by offsets facts = map (number_by offsets) facts

abbrev pub effect_by : List ℕ → ℕ → ℕ → List Fact → Effect → Unary
effect_by offsets op cost pre effect = record {
  op = Some op;
  conds = distinct (all_numbers_by offsets (pre ++ effect.conds));
  gives = number_by offsets effect.fact;
  cost = cost;
}

abbrev pub rule_by : List ℕ → Rule → Unary
rule_by offsets rule = record {
  op = None;
  conds = distinct (all_numbers_by offsets rule.conds);
  gives = number_by offsets rule.head;
  cost = 0;
}

abbrev pub operator_by : Parts → CostKind → List ℕ → ℕ → Operator → List Unary
operator_by parts kind offsets op operator = map (effect_by offsets op (adjusted_cost parts op kind) operator.pre) operator.effects

abbrev pub operators_by : Parts → CostKind → List ℕ → List Operator → List Unary
operators_by parts kind offsets operators = flat_map (λ p. operator_by parts kind offsets p.0 p.1) (enumerate_from 0 operators)

abbrev pub defaults_by : List ℕ → List Variable → List ℕ → List ℕ
defaults_by offsets variables init = map (λ p. number_by offsets (fact_at p.0 p.1)) (filter (λ p. is_derived variables p.0) (enumerate_from 0 init))
