-- What the tests of variables, operators, effects and rules tell.
use Rattle.std.proofs.Common.{◌≡◌, refl, arith, ℕ, ◌<◌, ◌≤◌, List, [], ◌∷◌, length, Bool, true, false, ◌&&◌, not, nat_eq, nat_lt, nat_le}
use Rattle.std.specs.List.{list_all, filter, zip}
use Rattle.std.proofs.lemmas.Bool.Decides.{nat_tests}
use Rattle.lama_num.proofs.ListLaws.{both}
use Rattle.sas_task.specs.Limits.{most_listed, highest_cost}
use Rattle.sas_task.proofs.TestLaws.{le-test}
use Rattle.sas_task.specs.WellFormed.{is_short, is_few, is_layered, is_variable, is_fact, are_facts, is_derived, is_effect, has_few_conditions, is_operator, is_default, is_layered_rule, is_rule, starts}
use Rattle.sas_task.specs.declared.contents.Variable.{Variable}
use Rattle.sas_task.specs.declared.contents.Effect.{Effect}
use Rattle.sas_task.specs.declared.contents.Operator.{Operator}
use Rattle.sas_task.specs.declared.contents.Rule.{Rule}
use Rattle.lama_num.proofs.BoolLaws.{nat_eq-refl as same_test}
use Rattle.std.proofs.lemmas.Bool.{eqb-true as same_number}

-- numbers

pub lt-from_test : (a b : ℕ) → nat_lt a b ≡ true → a < b
lt-from_test a b is = grind (arith, nat_tests, is)

-- filters

pub all-filter : {X : Type 0} (p q : X → Bool) (xs : List X) → list_all p xs ≡ true → list_all p (filter q xs) ≡ true
all-filter p q [] all = refl
all-filter p q (x ∷ xs) all =
    let each = both (p x) (list_all p xs) all in
    elim (q x) as (λ b. q x ≡ b → list_all p (filter q (x ∷ xs)) ≡ true) [
      | true ↦ λ is. rw (is, each.0) (all-filter p q xs each.1)
      | false ↦ λ is. rw is (all-filter p q xs each.1)
    ] refl

pub filter-all : {X : Type 0} (p : X → Bool) (xs : List X) → list_all p (filter p xs) ≡ true
filter-all p [] = refl
filter-all p (x ∷ xs) =
    elim (p x) as (λ b. p x ≡ b → list_all p (filter p (x ∷ xs)) ≡ true) [
      | true ↦ λ is. rw (is, is) (filter-all p xs)
      | false ↦ λ is. rw is (filter-all p xs)
    ] refl

-- parts of a task

pub record PassesVariable (v : Variable) : Type 0 where
  pub name : is_short v.name ≡ true
  pub layered : is_layered v.layer (length v.values) ≡ true
  pub some : nat_lt 0 (length v.values) ≡ true
  pub few : is_few v.values ≡ true
  pub values : list_all is_short v.values ≡ true

pub passes_variable : (v : Variable) → is_variable v ≡ true → PassesVariable v
passes_variable v is =
    let layered = is_layered v.layer (length v.values) in
    let some = nat_lt 0 (length v.values) in
    let values = list_all is_short v.values in
    let a = both (is_short v.name) (layered && (some && (is_few v.values && values))) is in
    let b = both layered (some && (is_few v.values && values)) a.1 in
    let c = both some (is_few v.values && values) b.1 in
    let d = both (is_few v.values) values c.1 in
    record { name = a.0; layered = b.0; some = c.0; few = d.0; values = d.1 }

pub few_values : (v : Variable) → is_variable v ≡ true → length v.values ≤ most_listed
few_values v is = le-test (length v.values) most_listed (passes_variable v is).few

pub record PassesEffect (vs : List Variable) (e : Effect) : Type 0 where
  pub few : nat_le (length e.conds) most_listed ≡ true
  pub conds : list_all (is_fact vs) e.conds ≡ true
  pub fact : is_fact vs e.fact ≡ true
  pub free : not (is_derived vs e.fact.var) ≡ true

pub passes_effect : (vs : List Variable) (e : Effect) → is_effect vs e ≡ true → PassesEffect vs e
passes_effect vs e is =
    let a = both (are_facts vs e.conds) (is_fact vs e.fact && not (is_derived vs e.fact.var)) is in
    let b = both (is_few e.conds) (list_all (is_fact vs) e.conds) a.0 in
    let c = both (is_fact vs e.fact) (not (is_derived vs e.fact.var)) a.1 in
    record { few = b.0; conds = b.1; fact = c.0; free = c.1 }

pub record PassesOperator (vs : List Variable) (o : Operator) : Type 0 where
  pub name : is_short o.name ≡ true
  pub pre : list_all (is_fact vs) o.pre ≡ true
  pub few : is_few o.effects ≡ true
  pub effects : list_all (is_effect vs) o.effects ≡ true
  pub cost : nat_le o.cost highest_cost ≡ true

pub passes_operator : (vs : List Variable) (o : Operator) → is_operator vs o ≡ true → PassesOperator vs o
passes_operator vs o is =
    let pre = list_all (is_fact vs) o.pre in
    let effects = list_all (is_effect vs) o.effects in
    let cost = nat_le o.cost highest_cost in
    let a = both (is_short o.name) (has_few_conditions o && (pre && (is_few o.effects && (effects && cost)))) is in
    let b = both (has_few_conditions o) (pre && (is_few o.effects && (effects && cost))) a.1 in
    let c = both pre (is_few o.effects && (effects && cost)) b.1 in
    let d = both (is_few o.effects) (effects && cost) c.1 in
    let e = both effects cost d.1 in
    record { name = a.0; pre = c.0; few = d.0; effects = e.0; cost = e.1 }

pub record PassesRule (vs : List Variable) (init : List ℕ) (r : Rule) : Type 0 where
  pub conds : are_facts vs r.conds ≡ true
  pub head : is_fact vs r.head ≡ true
  pub other : not (is_default init r.head) ≡ true
  pub layered : is_layered_rule vs init r ≡ true

pub passes_rule : (vs : List Variable) (init : List ℕ) (r : Rule) → is_rule vs init r ≡ true → PassesRule vs init r
passes_rule vs init r is =
    let layered = is_layered_rule vs init r in
    let other = not (is_default init r.head) in
    let a = both (are_facts vs r.conds) (is_fact vs r.head && (other && layered)) is in
    let b = both (is_fact vs r.head) (other && layered) a.1 in
    let c = both other layered b.1 in
    record { conds = a.0; head = b.0; other = c.0; layered = c.1 }

-- one initial value for each variable, in its range
pub record PassesStart (vs : List Variable) (init : List ℕ) : Type 0 where
  pub long : length init ≡ length vs
  pub values : list_all (λ p. nat_lt p.0 (length p.1.values)) (zip init vs) ≡ true

pub passes_start : (vs : List Variable) (init : List ℕ) → starts vs init ≡ true → PassesStart vs init
passes_start vs init is =
    let a = both (nat_eq (length init) (length vs)) (list_all (λ p. nat_lt p.0 (length p.1.values)) (zip init vs)) is in
    record { long = same_number (length init) (length vs) a.0; values = a.1 }
