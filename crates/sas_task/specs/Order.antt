-- The order in which the preconditions of an operator stand.
use Rattle.std.specs.Prelude.{◌≡◌, ℕ, List, [], ◌∷◌, ◌++◌, length, Bool, not, nat_eq, nat_le, take, filter, filter_map, slice_get, Option, IsTrue}
use Rattle.std.specs.List.{list_all, enumerate_from}
use Rattle.sas_task.specs.Limits.{most_listed}
use Rattle.sas_task.specs.Facts.{same_fact, has_fact}
use Rattle.sas_task.specs.declared.contents.Fact.{Fact}
use Rattle.sas_task.specs.declared.contents.Effect.{Effect}
use Rattle.sas_task.specs.declared.contents.Operator.{Operator}

-- each fact once, in the order in which they first occur
abbrev pub distinct : List Fact → List Fact
distinct [] = []
distinct (f ∷ fs) = f ∷ filter (λ g. not (same_fact f g)) (distinct fs)

-- the facts on a variable
abbrev pub on_variable : ℕ → List Fact → List Fact
on_variable var facts = filter (λ f. nat_eq f.var var) facts

-- how many effects are on a variable
abbrev pub effects_on : ℕ → List Effect → ℕ
effects_on var effects = length (filter (λ e. nat_eq e.fact.var var) effects)

-- Of the preconditions on a variable, the first stands for the first effect on it, the second for the second, and so on.

-- a precondition that stands for no effect: it is a prevail condition
abbrev pub is_prevail : List Fact → List Effect → Fact → Bool
is_prevail pre effects fact = not (has_fact (take (effects_on fact.var effects) (on_variable fact.var pre)) fact)

abbrev pub prevail : List Fact → List Effect → List Fact
prevail pre effects = filter (is_prevail pre effects) pre

-- the precondition that stands for an effect, which is given with its place
abbrev pub standing_for : List Fact → List Effect → ℕ × Effect → Option Fact
standing_for pre effects (place, effect) = slice_get (on_variable effect.fact.var pre) (effects_on effect.fact.var (take place effects))

abbrev pub standing : List Fact → List Effect → List Fact
standing pre effects = filter_map (standing_for pre effects) (enumerate_from 0 effects)

-- distinct preconditions: first the prevail conditions, then those that stand for effects, in the order of the effects
abbrev pub arranged : List Fact → List Effect → List Fact
arranged pre effects = prevail pre effects ++ standing pre effects

-- The order of the canonical task text: each fact once, the prevail conditions first.
abbrev pub ordered : List Fact → List Effect → List Fact
ordered pre effects = arranged (distinct pre) effects

abbrev pub in_order : Operator → Operator
in_order operator = record operator { pre = ordered operator.pre operator.effects }

-- how many prevail conditions an operator has
abbrev pub prevail_count : Operator → ℕ
prevail_count operator = length (prevail (distinct operator.pre) operator.effects)

abbrev pub has_few_prevail : Operator → Bool
has_few_prevail operator = nat_le (prevail_count operator) most_listed

-- no two facts are values of one variable
abbrev pub has_one_value_each : List Fact → Bool
has_one_value_each facts = list_all (λ f. nat_eq (length (on_variable f.var facts)) 1) facts

-- No precondition stands twice, and they stand in order. Where two are values of one variable, ordering them again may let them change places.
pub record IsInOrder (operator : Operator) : Type 0 where
  pub once : distinct operator.pre ≡ operator.pre
  pub ordered : IsTrue (has_one_value_each operator.pre) → ordered operator.pre operator.effects ≡ operator.pre
