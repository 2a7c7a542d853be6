-- Facts by number: those of the first variable first, each variable's by value.
use Rattle.std.specs.Prelude.{ℕ, ◌+◌, ◌<◌, List, take, map, Bool, nat_eq, nat_lt, ◌&&◌, slice_index, length}
use Rattle.std.specs.List.{enumerate_from, list_all, list_any}
use Rattle.std.proofs.lemmas.Bool.{eqb-true, eq-eqb}
use Rattle.std.proofs.Common.{refl}
use Rattle.lama_num.specs.declared.estimates.Estimate.{Estimate}
use Rattle.sas_task.specs.declared.contents.CostKind.{CostKind}
use Rattle.sas_task.specs.declared.contents.Fact.{Fact}
use Rattle.sas_task.specs.declared.contents.Parts.{Parts}
use Rattle.sas_task.specs.declared.contents.Variable.{Variable}
use Rattle.sas_task.specs.WellFormed.{fact_count}
use Rattle.relaxed_task.specs.declared.unary.Unary.{Unary}
use Rattle.relaxed_task.specs.Facts.{fact_at, UnaryOperator, unary_operators}
use Rattle.relaxed_task.specs.Relaxing.{UnaryOver, each_once}

-- the facts of the variables before, and the value
abbrev pub number_of : List Variable → Fact → ℕ
number_of variables fact = fact_count (take fact.var variables) + fact.val

abbrev pub numbers_of : List Variable → List Fact → List ℕ
numbers_of variables facts = map (number_of variables) facts

-- what facts cost, by what their numbers do
abbrev pub costs_by : List Variable → (ℕ → Estimate) → Fact → Estimate
costs_by variables value fact = value (number_of variables fact)

-- the number of a fact, by where the facts of each variable begin
abbrev pub number_by : List ℕ → Fact → ℕ
number_by offsets fact = slice_index offsets fact.var + fact.val

-- the facts of a state
abbrev pub numbers_by : List ℕ → List ℕ → List ℕ
numbers_by offsets state = map (λ p. number_by offsets (fact_at p.0 p.1)) (enumerate_from 0 state)

-- the variable is there, and the number is below how many facts there are
pub record IsNumbered (offsets : List ℕ) (facts : ℕ) (fact : Fact) : Type 0 where
  pub variable : fact.var < length offsets
  pub below : number_by offsets fact < facts

abbrev pub over_numbers : UnaryOver ℕ Unary
over_numbers = record {
  same = nat_eq;
  equal = eqb-true;
  itself = λ a. eq-eqb a a refl;
  conds = λ u. u.conds;
  gives = λ u. u.gives;
  cost = λ u. u.cost;
}

abbrev pub is_among : List ℕ → ℕ → Bool
is_among facts fact = list_any (nat_eq fact) facts

-- each once, in order of first occurrence
abbrev pub distinct : List ℕ → List ℕ
distinct facts = each_once over_numbers facts

-- the unary operators of a task with the numbers of facts
abbrev pub by_number : List Variable → UnaryOperator → Unary
by_number variables u = record { op = u.op; conds = numbers_of variables u.conds; gives = number_of variables u.gives; cost = u.cost }

abbrev pub numbered_unaries : Parts → CostKind → List Unary
numbered_unaries parts kind = map (by_number parts.variables) (unary_operators parts kind)

-- facts are among so many
abbrev pub is_below : ℕ → ℕ → Bool
is_below n fact = nat_lt fact n

abbrev pub is_unary_below : ℕ → Unary → Bool
is_unary_below n u = list_all (is_below n) u.conds && is_below n u.gives
