-- Laws of states, steps and runs of well-formed tasks.
use Rattle.std.specs.Prelude.{◌≡◌, ℕ, zero, suc, ◌+◌, ◌*◌, ◌<◌, ◌≤◌, List, [], ◌∷◌, ◌++◌, length, Bool, true, false, ◌&&◌, not, nat_eq, nat_lt, nat_le, map, slice_index, slice_get, Option, Some, None, is_some, option_map, option_and_then, if◌then◌else◌}
use Rattle.std.specs.List.{list_all, enumerate_from, zip}
use Rattle.std.proofs.Common.{arith, refl, sym, ap, ◌∙◌, subst, zero-add}
use Rattle.std.proofs.lemmas.Bool.Decides.{nat_tests}
use Rattle.std.proofs.lemmas.List.{get_or-map}
use Rattle.std.proofs.lemmas.List.FromFn.{get_or-enumerate_from}
use Rattle.std.proofs.lemmas.List.Sums.{sum_by-append}
use Rattle.std.proofs.lemmas.Option.{slice_get_within}
use Rattle.lama_num.proofs.ListLaws.{both, list_all_get}
use Rattle.sas_task.specs.Limits.{most_listed, highest_cost}
use Rattle.sas_task.specs.declared.contents.Fact.{Fact}
use Rattle.sas_task.specs.declared.contents.Variable.{Variable}
use Rattle.sas_task.specs.declared.contents.Effect.{Effect}
use Rattle.sas_task.specs.declared.contents.Operator.{Operator}
use Rattle.sas_task.specs.declared.contents.Rule.{Rule}
use Rattle.sas_task.specs.declared.contents.Parts.{Parts}
use Rattle.sas_task.specs.WellFormed.{IsWellFormed, range_of, layer_of, is_derived, is_fact, is_effect, is_operator, is_rule, is_default, is_layered_below, is_layered_rule, are_facts, is_few, is_short, has_few_conditions}
use Rattle.sas_task.specs.States.{IsState, all_hold, fires, given, last_or, written, is_layer, rules_of, rounds_of, size_of, settled_below, default_or, reset, top_of, settled, step, is_applicable}
use Rattle.sas_task.specs.Runs.{start_of, end_of, states_of, cost_at, cost_of}
use Rattle.sas_task.proofs.TestLaws.{le-test as le-from_test}

-- a test that follows from another
weaker : {X : Type 0} (p q : X → Bool) (xs : List X) → ((x : X) → p x ≡ true → q x ≡ true) → list_all p xs ≡ true → list_all q xs ≡ true
weaker p q [] one all = refl
weaker p q (x ∷ xs) one all =
    let here : q x ≡ true = one x (both (p x) (list_all p xs) all).0 in
    rw here (weaker p q xs one (both (p x) (list_all p xs) all).1)

-- what a function of places and values gives at a place
at_place : (f : ℕ × ℕ → ℕ) (xs : List ℕ) (i : ℕ) → i < length xs → slice_index (map f (enumerate_from 0 xs)) i ≡ f (i, slice_index xs i)
at_place f xs i lt =
    let long : i < length (enumerate_from 0 xs) = rw (length-enumerate 0 xs) lt in
    let z : 0 + i ≡ i = omega arith in
    get_or-map f (enumerate_from 0 xs) i (0, 0) 0 long ∙ ap f (get_or-enumerate_from 0 xs i (0, 0) lt ∙ ap (λ n. (n, slice_index xs i)) z)
  where
    length-enumerate : (n : ℕ) (xs : List ℕ) → length (enumerate_from n xs) ≡ length xs
    length-enumerate n [] = refl
    length-enumerate n (x ∷ xs) = ap suc (length-enumerate (n + 1) xs)

length-places : (f : ℕ × ℕ → ℕ) (n : ℕ) (xs : List ℕ) → length (map f (enumerate_from n xs)) ≡ length xs
length-places f n [] = refl
length-places f n (x ∷ xs) = ap suc (length-places f (n + 1) xs)

pub length-written : (state : List ℕ) (effects : List Effect) → length (written state effects) ≡ length state
length-written state effects = length-places (λ p. last_or p.1 (given state effects p.0)) 0 state

pub length-reset : (parts : Parts) (state : List ℕ) → length (reset parts state) ≡ length state
length-reset parts state = length-places (λ p. default_or parts p.0 p.1) 0 state

length-rounds_of : (parts : Parts) (layer n : ℕ) (state : List ℕ) → length (rounds_of parts layer n state) ≡ length state
length-rounds_of parts layer zero state = refl
length-rounds_of parts layer (suc n) state = length-written (rounds_of parts layer n state) (rules_of parts.variables layer parts.rules) ∙ length-rounds_of parts layer n state

length-settled_below : (parts : Parts) (n : ℕ) (state : List ℕ) → length (settled_below parts n state) ≡ length state
length-settled_below parts zero state = refl
length-settled_below parts (suc layer) state = length-rounds_of parts layer (size_of parts.variables layer) (settled_below parts layer state) ∙ length-settled_below parts layer state

pub length-settled : (parts : Parts) (state : List ℕ) → length (settled parts state) ≡ length state
length-settled parts state = length-settled_below parts (top_of parts.variables) (reset parts state) ∙ length-reset parts state

-- values below a range

last_or-below : (bound value : ℕ) (xs : List ℕ) → value < bound → list_all (λ x. nat_lt x bound) xs ≡ true → last_or value xs < bound
last_or-below bound value [] lt all = lt
last_or-below bound value (x ∷ xs) lt all =
    let parts = both (nat_lt x bound) (list_all (λ x. nat_lt x bound) xs) all in
    let here : nat_lt x bound ≡ true = parts.0 in
    last_or-below bound x xs (grind (arith, nat_tests, here)) parts.1

given-below : (variables : List Variable) (state : List ℕ) (effects : List Effect) (var : ℕ) → list_all (λ e. is_fact variables e.fact) effects ≡ true →
    list_all (λ x. nat_lt x (range_of variables var)) (given state effects var) ≡ true
given-below variables state [] var all = refl
given-below variables state (e ∷ effects) var all =
    let parts = both (is_fact variables e.fact) (list_all (λ e. is_fact variables e.fact) effects) all in
    let rest = given-below variables state effects var parts.1 in
    elim (fires state e && nat_eq e.fact.var var) as (λ b. (fires state e && nat_eq e.fact.var var) ≡ b → list_all (λ x. nat_lt x (range_of variables var)) (given state (e ∷ effects) var) ≡ true) [
      | true ↦ λ is.
          let on : nat_eq e.fact.var var ≡ true = (both (fires state e) _ is).1 in
          let same : e.fact.var ≡ var = grind (arith, nat_tests, on) in
          let here : nat_lt e.fact.val (range_of variables var) ≡ true = rw (← same) parts.0 in
          rw (is, here) rest
      | false ↦ λ is. rw is rest
    ] refl

pub written-state : (variables : List Variable) (state : List ℕ) (effects : List Effect) → IsState variables state → list_all (λ e. is_fact variables e.fact) effects ≡ true →
    IsState variables (written state effects)
written-state variables state effects is all = record {
  long = length-written state effects ∙ is.long;
  in_range = λ var lt.
      let within : var < length state = omega (arith, is.long) in
      rw (at_place (λ p. last_or p.1 (given state effects p.0)) state var within)
      (last_or-below (range_of variables var) (slice_index state var) (given state effects var) (is.in_range var lt) (given-below variables state effects var all));
}

-- the heads of a layer's rules are facts
heads_are_facts : (variables : List Variable) (layer : ℕ) (init : List ℕ) (rules : List Rule) → list_all (is_rule variables init) rules ≡ true →
    list_all (λ e. is_fact variables e.fact) (rules_of variables layer rules) ≡ true
heads_are_facts variables layer init [] all = refl
heads_are_facts variables layer init (r ∷ rules) all =
    let parts = both (is_rule variables init r) (list_all (is_rule variables init) rules) all in
    let head : is_fact variables r.head ≡ true = (both (is_fact variables r.head) _ (both (are_facts variables r.conds) _ parts.0).1).0 in
    let rest = heads_are_facts variables layer init rules parts.1 in
    elim (is_layer (layer_of variables r.head.var) layer) as (λ b. is_layer (layer_of variables r.head.var) layer ≡ b → list_all (λ e. is_fact variables e.fact) (rules_of variables layer (r ∷ rules)) ≡ true) [
      | true ↦ λ is. rw (is, head) rest
      | false ↦ λ is. rw is rest
    ] refl

rounds_of-state : (parts : Parts) (layer n : ℕ) (state : List ℕ) → IsWellFormed parts → IsState parts.variables state → IsState parts.variables (rounds_of parts layer n state)
rounds_of-state parts layer zero state formed is = is
rounds_of-state parts layer (suc n) state formed is =
    written-state parts.variables (rounds_of parts layer n state) (rules_of parts.variables layer parts.rules) (rounds_of-state parts layer n state formed is)
    (heads_are_facts parts.variables layer parts.init parts.rules formed.rules)

settled_below-state : (parts : Parts) (n : ℕ) (state : List ℕ) → IsWellFormed parts → IsState parts.variables state → IsState parts.variables (settled_below parts n state)
settled_below-state parts zero state formed is = is
settled_below-state parts (suc layer) state formed is =
    rounds_of-state parts layer (size_of parts.variables layer) (settled_below parts layer state) formed (settled_below-state parts layer state formed is)

-- initial values are a state
values_in_range : (variables : List Variable) (init : List ℕ) (var : ℕ) → length init ≡ length variables → list_all (λ p. nat_lt p.0 (length p.1.values)) (zip init variables) ≡ true →
    var < length variables → slice_index init var < range_of variables var
values_in_range [] init var long all lt = absurd (omega arith)
values_in_range (v ∷ variables) [] var long all lt = absurd (omega arith)
values_in_range (v ∷ variables) (x ∷ init) zero long all lt =
    let here : nat_lt x (length v.values) ≡ true = (both (nat_lt x (length v.values)) (list_all (λ p. nat_lt p.0 (length p.1.values)) (zip init variables)) all).0 in
    grind (arith, nat_tests, here)
values_in_range (v ∷ variables) (x ∷ init) (suc var) long all lt =
    values_in_range variables init var (omega arith) (both (nat_lt x (length v.values)) (list_all (λ p. nat_lt p.0 (length p.1.values)) (zip init variables)) all).1 (omega arith)

pub init-state : (parts : Parts) → IsWellFormed parts → IsState parts.variables parts.init
init-state parts formed =
    let tests = both (nat_eq (length parts.init) (length parts.variables)) (list_all (λ p. nat_lt p.0 (length p.1.values)) (zip parts.init parts.variables)) formed.init in
    let same : nat_eq (length parts.init) (length parts.variables) ≡ true = tests.0 in
    let long : length parts.init ≡ length parts.variables = grind (arith, nat_tests, same) in
    record { long = long; in_range = λ var lt. values_in_range parts.variables parts.init var long tests.1 lt }

reset-state : (parts : Parts) (state : List ℕ) → IsWellFormed parts → IsState parts.variables state → IsState parts.variables (reset parts state)
reset-state parts state formed is = record {
  long = length-reset parts state ∙ is.long;
  in_range = λ var lt.
      let within : var < length state = omega (arith, is.long) in
      rw (at_place (λ p. default_or parts p.0 p.1) state var within)
      (elim (is_derived parts.variables var) as (λ b. (if b then slice_index parts.init var else slice_index state var) < range_of parts.variables var) [
        | true ↦ (init-state parts formed).in_range var lt
        | false ↦ is.in_range var lt
      ]);
}

-- settling keeps one value in range for each variable
pub settled-state : (parts : Parts) (state : List ℕ) → IsWellFormed parts → IsState parts.variables state → IsState parts.variables (settled parts state)
settled-state parts state formed is = settled_below-state parts (top_of parts.variables) (reset parts state) formed (reset-state parts state formed is)

-- settling again changes nothing

abbrev on_derived : List Variable → List Effect → Bool
on_derived variables effects = list_all (λ e. is_derived variables e.fact.var) effects

given-none : (variables : List Variable) (state : List ℕ) (effects : List Effect) (var : ℕ) → is_derived variables var ≡ false → on_derived variables effects ≡ true → given state effects var ≡ []
given-none variables state [] var not_derived all = refl
given-none variables state (e ∷ effects) var not_derived all =
    let parts = both (is_derived variables e.fact.var) (on_derived variables effects) all in
    let rest = given-none variables state effects var not_derived parts.1 in
    elim (fires state e && nat_eq e.fact.var var) as (λ b. (fires state e && nat_eq e.fact.var var) ≡ b → given state (e ∷ effects) var ≡ []) [
      | true ↦ λ is.
          let on : nat_eq e.fact.var var ≡ true = (both (fires state e) _ is).1 in
          let same : e.fact.var ≡ var = grind (arith, nat_tests, on) in
          let yes_derived : is_derived variables e.fact.var ≡ true = parts.0 in
          let no_derived : is_derived variables e.fact.var ≡ false = rw same not_derived in
          let clash : true ≡ false = sym yes_derived ∙ no_derived in cc
      | false ↦ λ is. rw is rest
    ] refl

rules_on_derived : (variables : List Variable) (layer : ℕ) (rules : List Rule) → on_derived variables (rules_of variables layer rules) ≡ true
rules_on_derived variables layer [] = refl
rules_on_derived variables layer (r ∷ rules) =
    let rest = rules_on_derived variables layer rules in
    elim (layer_of variables r.head.var) as (λ o. layer_of variables r.head.var ≡ o → on_derived variables (rules_of variables layer (r ∷ rules)) ≡ true) [
      | None ↦ λ is. rw is rest
      | Some own ↦ λ is.
          elim (nat_eq own layer) as (λ b. nat_eq own layer ≡ b → on_derived variables (rules_of variables layer (r ∷ rules)) ≡ true) [
            | true ↦ λ same. rw (is, same, is) rest
            | false ↦ λ other. rw (is, other) rest
          ] refl
    ] refl

default_or-last : (parts : Parts) (state : List ℕ) (effects : List Effect) (var value : ℕ) → on_derived parts.variables effects ≡ true →
    default_or parts var (last_or value (given state effects var)) ≡ default_or parts var value
default_or-last parts state effects var value all =
    elim (is_derived parts.variables var) as (λ b. is_derived parts.variables var ≡ b → default_or parts var (last_or value (given state effects var)) ≡ default_or parts var value) [
      | true ↦ λ is. rw is refl
      | false ↦ λ is. rw (is, given-none parts.variables state effects var is all) refl
    ] refl

reset-written : (parts : Parts) (state : List ℕ) (effects : List Effect) → on_derived parts.variables effects ≡ true → reset parts (written state effects) ≡ reset parts state
reset-written parts state effects all = from 0 state
  where
    from : (k : ℕ) (xs : List ℕ) → map (λ p. default_or parts p.0 p.1) (enumerate_from k (map (λ p. last_or p.1 (given state effects p.0)) (enumerate_from k xs))) ≡ map (λ p. default_or parts p.0 p.1) (enumerate_from k xs)
    from k [] = refl
    from k (x ∷ xs) = let here = default_or-last parts state effects k x all in let rest = from (k + 1) xs in cc

reset-rounds_of : (parts : Parts) (layer n : ℕ) (state : List ℕ) → reset parts (rounds_of parts layer n state) ≡ reset parts state
reset-rounds_of parts layer zero state = refl
reset-rounds_of parts layer (suc n) state =
    reset-written parts (rounds_of parts layer n state) (rules_of parts.variables layer parts.rules) (rules_on_derived parts.variables layer parts.rules)
    ∙ reset-rounds_of parts layer n state

reset-settled_below : (parts : Parts) (n : ℕ) (state : List ℕ) → reset parts (settled_below parts n state) ≡ reset parts state
reset-settled_below parts zero state = refl
reset-settled_below parts (suc layer) state = reset-rounds_of parts layer (size_of parts.variables layer) (settled_below parts layer state) ∙ reset-settled_below parts layer state

reset-reset : (parts : Parts) (state : List ℕ) → reset parts (reset parts state) ≡ reset parts state
reset-reset parts state = from 0 state
  where
    again : (var value : ℕ) → default_or parts var (default_or parts var value) ≡ default_or parts var value
    again var value = elim (is_derived parts.variables var) as (λ b. is_derived parts.variables var ≡ b → default_or parts var (default_or parts var value) ≡ default_or parts var value) [
      | true ↦ λ is. rw is refl
      | false ↦ λ is. rw is refl
    ] refl

    from : (k : ℕ) (xs : List ℕ) → map (λ p. default_or parts p.0 p.1) (enumerate_from k (map (λ p. default_or parts p.0 p.1) (enumerate_from k xs))) ≡ map (λ p. default_or parts p.0 p.1) (enumerate_from k xs)
    from k [] = refl
    from k (x ∷ xs) = let here = again k x in let rest = from (k + 1) xs in cc

pub settled-settled : (parts : Parts) (state : List ℕ) → settled parts (settled parts state) ≡ settled parts state
settled-settled parts state = ap (settled_below parts (top_of parts.variables)) (reset-settled_below parts (top_of parts.variables) (reset parts state) ∙ reset-reset parts state)

pub start-state : (parts : Parts) → IsWellFormed parts → IsState parts.variables (start_of parts)
start-state parts formed = settled-state parts parts.init formed (init-state parts formed)

-- Settling leaves the variables that aren't derived.
pub settled-stays : (parts : Parts) (state : List ℕ) (var : ℕ) → var < length state → is_derived parts.variables var ≡ false → slice_index (settled parts state) var ≡ slice_index state var
settled-stays parts state var lt plain =
    let long = length-settled parts state in
    let there : var < length (settled parts state) = omega (arith, long, lt) in
    sym (stays (settled parts state) there) ∙ ap (λ s. slice_index s var) (reset-settled_below parts (top_of parts.variables) (reset parts state) ∙ reset-reset parts state) ∙ stays state lt
  where
    stays : (s : List ℕ) → var < length s → slice_index (reset parts s) var ≡ slice_index s var
    stays s lt = at_place (λ p. default_or parts p.0 p.1) s var lt ∙ ap (λ b. if b then slice_index parts.init var else slice_index s var) plain

-- steps

-- a step is by an operator of the task whose conditions hold
pub record IsStepBy (parts : Parts) (state : List ℕ) (op : ℕ) (next : List ℕ) : Type 0 where
  pub operator : Operator
  pub at : slice_get parts.operators op ≡ Some operator
  pub holds : all_hold state operator.pre ≡ true
  pub is : next ≡ settled parts (written state operator.effects)

pub step-by : (parts : Parts) (state : List ℕ) (op : ℕ) (next : List ℕ) → step parts state op ≡ Some next → IsStepBy parts state op next
step-by parts state op next taken =
    elim (slice_get parts.operators op) as (λ o. slice_get parts.operators op ≡ o → IsStepBy parts state op next) [
      | None ↦ λ at. let k : ◌≡◌ {A = Option (List ℕ)} None (Some next) = rw at at taken in cc
      | Some operator ↦ λ at.
          elim (all_hold state operator.pre) as (λ b. all_hold state operator.pre ≡ b → IsStepBy parts state op next) [
            | true ↦ λ h. let k : Some (settled parts (written state operator.effects)) ≡ Some next = rw (at, h) at taken in record { operator = operator; at = at; holds = h; is = cc }
            | false ↦ λ h. let k : ◌≡◌ {A = Option (List ℕ)} None (Some next) = rw (at, h) at taken in cc
          ] refl
    ] refl

-- what the test of an operator tells
pub record IsOperator (variables : List Variable) (operator : Operator) : Type 0 where
  pub pre : list_all (is_fact variables) operator.pre ≡ true
  pub effects : list_all (is_effect variables) operator.effects ≡ true
  pub cost : operator.cost ≤ highest_cost

operator_tests : (variables : List Variable) (operator : Operator) → is_operator variables operator ≡ true → IsOperator variables operator
operator_tests variables operator all =
    let pre = list_all (is_fact variables) operator.pre in
    let effects = list_all (is_effect variables) operator.effects in
    let cost = nat_le operator.cost highest_cost in
    let named = both (is_short operator.name) (has_few_conditions operator && (pre && (is_few operator.effects && (effects && cost)))) all in
    let short = both (has_few_conditions operator) (pre && (is_few operator.effects && (effects && cost))) named.1 in
    let conditions = both pre (is_few operator.effects && (effects && cost)) short.1 in
    let few = both (is_few operator.effects) (effects && cost) conditions.1 in
    let last = both effects cost few.1 in
    let small : nat_le operator.cost highest_cost ≡ true = last.1 in
    record { pre = conditions.0; effects = last.0; cost = grind (arith, nat_tests, small) }

-- each operator of a well-formed task passes its tests
pub operator-at : (parts : Parts) (op : ℕ) (operator : Operator) → IsWellFormed parts → slice_get parts.operators op ≡ Some operator → IsOperator parts.variables operator
operator-at parts op operator formed at = operator_tests parts.variables operator (list_all_get (is_operator parts.variables) parts.operators op operator formed.operators at)

-- what the test of an effect tells
pub effect-fact : (variables : List Variable) (effect : Effect) → is_effect variables effect ≡ true → is_fact variables effect.fact ≡ true
effect-fact variables effect all =
    (both (is_fact variables effect.fact) (not (is_derived variables effect.fact.var)) (both (are_facts variables effect.conds) (is_fact variables effect.fact && not (is_derived variables effect.fact.var)) all).1).0

effects_are_facts : (parts : Parts) (op : ℕ) (operator : Operator) → IsWellFormed parts → slice_get parts.operators op ≡ Some operator → list_all (λ e. is_fact parts.variables e.fact) operator.effects ≡ true
effects_are_facts parts op operator formed at =
    weaker (is_effect parts.variables) (λ e. is_fact parts.variables e.fact) operator.effects (effect-fact parts.variables) (operator-at parts op operator formed at).effects

pub step-state : (parts : Parts) (state : List ℕ) (op : ℕ) (next : List ℕ) → IsWellFormed parts → IsState parts.variables state → step parts state op ≡ Some next → IsState parts.variables next
step-state parts state op next formed is taken =
    let by = step-by parts state op next taken in
    let there = settled-state parts (written state by.operator.effects) formed (written-state parts.variables state by.operator.effects is (effects_are_facts parts op by.operator formed by.at)) in
    subst (IsState parts.variables) (sym by.is) there

pub step-settled : (parts : Parts) (state : List ℕ) (op : ℕ) (next : List ℕ) → step parts state op ≡ Some next → settled parts next ≡ next
step-settled parts state op next taken =
    let by = step-by parts state op next taken in
    ap (settled parts) by.is ∙ settled-settled parts (written state by.operator.effects) ∙ sym by.is

-- A step is there exactly where the operator is applicable.
pub is_some-step : (parts : Parts) (state : List ℕ) (op : ℕ) → is_some (step parts state op) ≡ is_applicable parts state op
is_some-step parts state op =
    elim (slice_get parts.operators op) as (λ o. slice_get parts.operators op ≡ o → is_some (step parts state op) ≡ is_applicable parts state op) [
      | None ↦ λ at. rw at refl
      | Some o ↦ λ at.
          elim (all_hold state o.pre) as (λ b. all_hold state o.pre ≡ b → is_some (step parts state op) ≡ is_applicable parts state op) [
            | true ↦ λ hold. rw (at, hold) refl
            | false ↦ λ hold. rw (at, hold) refl
          ] refl
    ] refl

-- an applicable operator is one of the task
pub applicable-within : (parts : Parts) (state : List ℕ) (op : ℕ) → is_applicable parts state op ≡ true → op < length parts.operators
applicable-within parts state op is =
    elim (slice_get parts.operators op) as (λ o. slice_get parts.operators op ≡ o → op < length parts.operators) [
      | None ↦ λ at. let k : false ≡ true = rw at at is in cc
      | Some o ↦ λ at. slice_get_within parts.operators op o at
    ] refl

-- the step by an applicable operator
pub step-applicable : (parts : Parts) (state : List ℕ) (op : ℕ) (o : Operator) → slice_get parts.operators op ≡ Some o → is_applicable parts state op ≡ true → step parts state op ≡ Some (settled parts (written state o.effects))
step-applicable parts state op o at is =
    let hold : all_hold state o.pre ≡ true = rw at at is in
    rw (at, hold) refl

-- there is no step where it isn't
pub step-none : (parts : Parts) (state : List ℕ) (op : ℕ) → is_applicable parts state op ≡ false → step parts state op ≡ None
step-none parts state op is =
    elim (step parts state op) as (λ o. step parts state op ≡ o → o ≡ None) [
      | None ↦ λ taken. refl
      | Some next ↦ λ taken.
          let there : is_some (step parts state op) ≡ true = rw taken refl in
          let clash : true ≡ false = sym there ∙ is_some-step parts state op ∙ is in
          cc
    ] refl

-- runs

-- where a run goes on from what it reached
pub end_of-join : (parts : Parts) (start ops more mid : List ℕ) → end_of parts start ops ≡ Some mid → end_of parts start (ops ++ more) ≡ end_of parts mid more
end_of-join parts start [] more mid is = let s : Some start ≡ Some mid = is in let e : start ≡ mid = cc in rw e refl
end_of-join parts start (first ∷ ops) more mid is =
    elim (step parts start first) as (λ o. option_and_then (λ next. end_of parts next ops) o ≡ Some mid → option_and_then (λ next. end_of parts next (ops ++ more)) o ≡ end_of parts mid more) [
      | None ↦ λ e. let k : ◌≡◌ {A = Option (List ℕ)} None (Some mid) = e in cc
      | Some next ↦ λ e. end_of-join parts next ops more mid e
    ] is

-- a run goes on by one step
pub end_of-append : (parts : Parts) (start ops : List ℕ) (op : ℕ) (mid : List ℕ) → end_of parts start ops ≡ Some mid → end_of parts start (ops ++ op ∷ []) ≡ step parts mid op
end_of-append parts start ops op mid is = end_of-join parts start ops (op ∷ []) mid is ∙ last (step parts mid op)
  where
    last : (o : Option (List ℕ)) → option_and_then (λ next. Some next) o ≡ o
    last None = refl
    last (Some x) = refl

-- a run begins with one step more
pub end_of-first : (parts : Parts) (start mid : List ℕ) (op : ℕ) (ops : List ℕ) → step parts start op ≡ Some mid → end_of parts start (op ∷ ops) ≡ end_of parts mid ops
end_of-first parts start mid op ops taken = rw taken refl

-- an operator that is taken is one of the task
pub taken-within : (parts : Parts) (state : List ℕ) (op : ℕ) (next : List ℕ) → step parts state op ≡ Some next → op < length parts.operators
taken-within parts state op next taken = let by = step-by parts state op next taken in slice_get_within parts.operators op by.operator by.at

each-within : (n op : ℕ) (ops : List ℕ) → op < n → ((k : ℕ) → k < length ops → slice_index ops k < n) → (k : ℕ) → k < length (op ∷ ops) → slice_index (op ∷ ops) k < n
each-within n op ops first rest zero lt = first
each-within n op ops first rest (suc k) lt = rest k (omega arith)

-- the operators of a run are operators of the task
pub ops-within : (parts : Parts) (start ops last : List ℕ) → end_of parts start ops ≡ Some last → (k : ℕ) → k < length ops → slice_index ops k < length parts.operators
ops-within parts start [] last run = λ k lt. absurd (omega arith)
ops-within parts start (op ∷ ops) last run =
    elim (step parts start op) as (λ o. step parts start op ≡ o → option_and_then (λ next. end_of parts next ops) o ≡ Some last → (k : ℕ) → k < length (op ∷ ops) → slice_index (op ∷ ops) k < length parts.operators) [
      | None ↦ λ taken r. let e : ◌≡◌ {A = Option (List ℕ)} None (Some last) = r in cc
      | Some next ↦ λ taken r. each-within (length parts.operators) op ops (taken-within parts start op next taken) (ops-within parts next ops last r)
    ] refl run

-- The states of a run are those before its end, its end, and where it goes on, those of what follows.
pub record EndsIn (parts : Parts) (start ops last : List ℕ) : Type 0 where
  pub before : List (List ℕ)
  pub long : length before ≡ length ops
  pub states : states_of parts start ops ≡ Some (before ++ last ∷ [])
  pub goes_on : (more : List ℕ) (after : List (List ℕ)) → states_of parts last more ≡ Some after → states_of parts start (ops ++ more) ≡ Some (before ++ after)

pub states_of-join : (parts : Parts) (start ops last : List ℕ) → end_of parts start ops ≡ Some last → EndsIn parts start ops last
states_of-join parts start [] last is =
    let s : Some start ≡ Some last = is in
    let e : start ≡ last = cc in
    record { before = []; long = refl; states = rw e refl; goes_on = λ more after there. rw e there }
states_of-join parts start (op ∷ ops) last is =
    elim (step parts start op) as (λ o. step parts start op ≡ o → option_and_then (λ next. end_of parts next ops) o ≡ Some last → EndsIn parts start (op ∷ ops) last) [
      | None ↦ λ taken e. let k : ◌≡◌ {A = Option (List ℕ)} None (Some last) = e in cc
      | Some next ↦ λ taken e.
          let rest = states_of-join parts next ops last e in
          record {
            before = start ∷ rest.before;
            long = ap suc rest.long;
            states = rw (taken, rest.states) refl;
            goes_on = λ more after there. let on = rest.goes_on more after there in rw (taken, on) refl;
          }
    ] refl is

-- operators have states exactly where they lead somewhere
pub is_some-states_of : (parts : Parts) (start ops : List ℕ) → is_some (states_of parts start ops) ≡ is_some (end_of parts start ops)
is_some-states_of parts start [] = refl
is_some-states_of parts start (op ∷ ops) = after (step parts start op) (λ next. is_some-states_of parts next ops)
  where
    mapped : (states : Option (List (List ℕ))) → is_some (option_map (λ more. start ∷ more) states) ≡ is_some states
    mapped None = refl
    mapped (Some states) = refl

    after : (o : Option (List ℕ)) → ((next : List ℕ) → is_some (states_of parts next ops) ≡ is_some (end_of parts next ops)) → is_some (option_and_then (λ next. option_map (λ states. start ∷ states) (states_of parts next ops)) o) ≡ is_some (option_and_then (λ next. end_of parts next ops) o)
    after None same = refl
    after (Some next) same = mapped (states_of parts next ops) ∙ same next

pub cost_of-append : (parts : Parts) (ops more : List ℕ) → cost_of parts (ops ++ more) ≡ cost_of parts ops + cost_of parts more
cost_of-append parts ops more = sum_by-append (cost_at parts) ops more

-- an operator costs less than 2 ^ 31
pub cost_at-small : (parts : Parts) (op : ℕ) → IsWellFormed parts → cost_at parts op ≤ highest_cost
cost_at-small parts op formed =
    elim (slice_get parts.operators op) as (λ o. slice_get parts.operators op ≡ o → cost_at parts op ≤ highest_cost) [
      | None ↦ λ at. rw at (omega arith)
      | Some operator ↦ λ at. rw at (operator-at parts op operator formed at).cost
    ] refl

-- operators cost at most their number times the highest cost
pub cost_of-small : (parts : Parts) (ops : List ℕ) → IsWellFormed parts → cost_of parts ops ≤ length ops * highest_cost
cost_of-small parts [] formed = omega arith
cost_of-small parts (op ∷ ops) formed =
    let first = cost_at-small parts op formed in
    let rest = cost_of-small parts ops formed in
    let sum : cost_of parts (op ∷ ops) ≡ cost_at parts op + cost_of parts ops = cost_of-append parts (op ∷ []) ops ∙ ap (λ n. n + cost_of parts ops) (zero-add (cost_at parts op)) in
    omega (arith, first, rest, sum)

-- a list of facts that passed its test
pub facts-test : (variables : List Variable) (facts : List Fact) → are_facts variables facts ≡ true → (length facts ≤ most_listed) × (list_all (is_fact variables) facts ≡ true)
facts-test variables facts all =
    let parts = both (is_few facts) (list_all (is_fact variables) facts) all in
    (le-from_test (length facts) most_listed parts.0, parts.1)

pub goal-facts : (parts : Parts) → IsWellFormed parts → list_all (is_fact parts.variables) parts.goal ≡ true
goal-facts parts formed = (facts-test parts.variables parts.goal formed.goal).1

-- an effect's facts are in range, and it changes no derived variable
pub record IsEffect (variables : List Variable) (effect : Effect) : Type 0 where
  pub conds : list_all (is_fact variables) effect.conds ≡ true
  pub fact : is_fact variables effect.fact ≡ true
  pub stays : is_derived variables effect.fact.var ≡ false

pub effect-tests : (variables : List Variable) (effect : Effect) → is_effect variables effect ≡ true → IsEffect variables effect
effect-tests variables effect all =
    let a = both (are_facts variables effect.conds) (is_fact variables effect.fact && not (is_derived variables effect.fact.var)) all in
    let b = both (is_fact variables effect.fact) (not (is_derived variables effect.fact.var)) a.1 in
    record { conds = (facts-test variables effect.conds a.0).1; fact = b.0; stays = unnegated (is_derived variables effect.fact.var) b.1 }
  where
    unnegated : (b : Bool) → not b ≡ true → b ≡ false
    unnegated true e = let k : false ≡ true = e in cc
    unnegated false e = refl

-- A rule's facts are in range. Its head is of a derived variable and isn't the default, and its conditions lie in the head's layer or below.
pub record IsRule (parts : Parts) (rule : Rule) : Type 0 where
  pub conds : list_all (is_fact parts.variables) rule.conds ≡ true
  pub head : is_fact parts.variables rule.head ≡ true
  pub gives : is_default parts.init rule.head ≡ false
  pub layer : ℕ
  pub derived : layer_of parts.variables rule.head.var ≡ Some layer
  pub below : list_all (is_layered_below parts.variables parts.init layer) rule.conds ≡ true

pub rule-at : (parts : Parts) (place : ℕ) (rule : Rule) → IsWellFormed parts → slice_get parts.rules place ≡ Some rule → IsRule parts rule
rule-at parts place rule formed at =
    let layered = is_layered_rule parts.variables parts.init rule in
    let all = list_all_get (is_rule parts.variables parts.init) parts.rules place rule formed.rules at in
    let a = both (are_facts parts.variables rule.conds) (is_fact parts.variables rule.head && (not (is_default parts.init rule.head) && layered)) all in
    let b = both (is_fact parts.variables rule.head) (not (is_default parts.init rule.head) && layered) a.1 in
    let c = both (not (is_default parts.init rule.head)) layered b.1 in
    elim (layer_of parts.variables rule.head.var) as (λ o. layer_of parts.variables rule.head.var ≡ o → IsRule parts rule) [
      | None ↦ λ is. let k : false ≡ true = rw is at c.1 in cc
      | Some layer ↦ λ is. record {
        conds = (facts-test parts.variables rule.conds a.0).1;
        head = b.0;
        gives = unnegated (is_default parts.init rule.head) c.0;
        layer = layer;
        derived = is;
        below = rw is at c.1;
      }
    ] refl
  where
    unnegated : (b : Bool) → not b ≡ true → b ≡ false
    unnegated true e = let k : false ≡ true = e in cc
    unnegated false e = refl
