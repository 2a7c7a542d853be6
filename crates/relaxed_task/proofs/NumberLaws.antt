-- Numbers of the facts of a task, and what they keep.
use Rattle.std.proofs.Common.{◌≡◌, ◌∙◌, sym, ap, refl, ℕ, zero, suc, ◌+◌, ◌<◌, ◌⊎◌, inl, inr, List, [], ◌∷◌, ◌++◌, length, take, get_or, true, false, Bool, ◌&&◌, map, slice_index, nat_lt, nat_eq, arith, Option, Some, None, slice_get, if◌then◌else◌}
use Rattle.std.specs.Prelude.{filter}
use Rattle.std.specs.List.{list_all, list_any, enumerate_from, flat_map}
use Rattle.std.proofs.lemmas.Bool.{and_from, and_parts, eqb-true, eq-eqb, lt-ltb, ltb-true}
use Rattle.std.proofs.lemmas.List.{map-append}
use Rattle.std.proofs.lemmas.List.Sums.{sum_by_more_le, sum_by-cons}
use Rattle.std.proofs.lemmas.List.Folds.{list_all-append}
use Rattle.std.proofs.lemmas.Option.{get_or_from_slice_get, slice_get_within}
use Rattle.lama_num.specs.declared.estimates.Estimate.{Estimate}
use Rattle.sas_task.specs.Facts.{same_fact}
use Rattle.sas_task.proofs.RunLaws.{init-state, goal-facts, operator-at, effect-tests, rule-at}
use Rattle.sas_task.specs.States.{IsState}
use Rattle.sas_task.specs.WellFormed.{IsWellFormed, is_fact, is_effect, is_derived, range_of, fact_count}
use Rattle.sas_task.specs.declared.contents.CostKind.{CostKind}
use Rattle.sas_task.specs.declared.contents.Effect.{Effect}
use Rattle.sas_task.specs.declared.contents.Fact.{Fact}
use Rattle.sas_task.specs.declared.contents.Operator.{Operator}
use Rattle.sas_task.specs.declared.contents.Parts.{Parts}
use Rattle.sas_task.specs.declared.contents.Rule.{Rule}
use Rattle.sas_task.specs.declared.contents.Variable.{Variable}
use Rattle.relaxed_task.specs.declared.relaxation.Lists.{Lists}
use Rattle.relaxed_task.specs.declared.unary.Unary.{Unary}
use Rattle.relaxed_task.specs.AdditiveCosts.{IsAdditiveCost}
use Rattle.relaxed_task.specs.Facts.{fact_at, facts_of, default_facts, start_facts, over_facts, distinct_facts, UnaryOperator, from_effect, from_rule, unary_operators}
use Rattle.sas_task.proofs.FactLists.{same-true as facts_equal}
use Rattle.relaxed_task.proofs.NumberingLaws.{IsNumbering, HasPlan, are_there, sum_of_map, all_once, any_once, each_once_kept, plan_kept}
use Rattle.relaxed_task.proofs.NumberingLaws.{cost_kept}
use Rattle.relaxed_task.specs.Numbers.{number_by, number_of, numbers_by, numbers_of, costs_by, IsNumbered, over_numbers, distinct, by_number, numbered_unaries, is_below}
use Rattle.relaxed_task.specs.Relaxations.{IsOffsets, IsRelaxed}
use Rattle.relaxed_task.specs.Relaxing.{IsCost, IsSupported, sum_of}
use Rattle.sas_task.specs.Refusals.{is_sound_rule as rule_facts}

-- how many values a variable has
abbrev range : Variable → ℕ
range variable = length variable.values

-- a fact that is there
record IsThere (variables : List Variable) (fact : Fact) : Type 0 where
  variable : Variable
  within : fact.var < length variables
  at : get_or variables fact.var variable ≡ variable
  below : fact.val < range variable

there : (variables : List Variable) (fact : Fact) → is_fact variables fact ≡ true → IsThere variables fact
there variables fact h = found (slice_get variables fact.var) refl h
  where
    found : (o : Option Variable) → slice_get variables fact.var ≡ o → nat_lt fact.val (range_of variables fact.var) ≡ true → IsThere variables fact
    found None is h = let k : nat_lt fact.val 0 ≡ true = rw is at h in (let none = ltb-true fact.val 0 k in absurd (omega arith))
    found (Some v) is h =
        let k : nat_lt fact.val (length v.values) ≡ true = rw is at h in
        record { variable = v; within = slice_get_within variables fact.var v is; at = get_or_from_slice_get variables fact.var v v is; below = ltb-true _ _ k }

-- its variable is one of those
pub fact_within : (variables : List Variable) (fact : Fact) → is_fact variables fact ≡ true → fact.var < length variables
fact_within variables fact h = (there variables fact h).within

-- a number below how many facts there are
pub number_below : (variables : List Variable) (fact : Fact) → is_fact variables fact ≡ true → number_of variables fact < fact_count variables
number_below variables fact h =
    let t = there variables fact h in
    let le = sum_by_more_le range variables fact.var t.variable t.within in
    let e : range (get_or variables fact.var t.variable) ≡ range t.variable = ap range t.at in
    let b = t.below in
    omega arith

-- facts of an earlier variable come first
earlier_first : (variables : List Variable) (a b : Fact) → is_fact variables a ≡ true → a.var < b.var → number_of variables a < fact_count (take b.var variables)
earlier_first variables a b h lt = go variables a.var b.var a.val (there variables a h).variable (there variables a h).within (there variables a h).at (there variables a h).below lt
  where
    go : (variables : List Variable) (i j val : ℕ) (v : Variable) → i < length variables → get_or variables i v ≡ v → val < range v → i < j → fact_count (take i variables) + val < fact_count (take j variables)
    go [] i j val v within at below lt = absurd (omega arith)
    go (x ∷ xs) i zero val v within at below lt = absurd (omega arith)
    go (x ∷ xs) zero (suc j) val v within at below lt =
        let c = sum_by-cons range x (take j xs) in
        let e : range x ≡ range v = ap range at in
        omega arith
    go (x ∷ xs) (suc i) (suc j) val v within at below lt =
        let c = sum_by-cons range x (take j xs) in
        let d = sum_by-cons range x (take i xs) in
        let rest = go xs i j val v (omega arith) at below (omega arith) in
        omega arith

-- two facts that are there have two numbers
pub same_number : (variables : List Variable) (a b : Fact) → is_fact variables a ≡ true → is_fact variables b ≡ true → number_of variables a ≡ number_of variables b → a ≡ b
same_number variables a b ha hb same = by_order (order a.var b.var)
  where
    order : (m n : ℕ) → (m < n) ⊎ ((n < m) ⊎ (m ≡ n))
    order m n = grind arith

    by_order : (a.var < b.var) ⊎ ((b.var < a.var) ⊎ (a.var ≡ b.var)) → a ≡ b
    by_order (inl lt) = let e = earlier_first variables a b ha lt in absurd (omega arith)
    by_order (inr (inl lt)) = let e = earlier_first variables b a hb lt in absurd (omega arith)
    by_order (inr (inr v)) =
        let start : fact_count (take a.var variables) ≡ fact_count (take b.var variables) = ap (λ (n : ℕ). fact_count (take n variables)) v in
        let val : a.val ≡ b.val = omega arith in
        ap (λ (n : ℕ). fact_at n a.val) v ∙ ap (λ (n : ℕ). fact_at b.var n) val

pub number_by-is : (variables : List Variable) (offsets : List ℕ) (fact : Fact) → IsOffsets variables offsets → is_fact variables fact ≡ true → number_by offsets fact ≡ number_of variables fact
number_by-is variables offsets fact is h = ap (λ (n : ℕ). n + fact.val) (is.each fact.var (there variables fact h).within)

pub is_numbered : (variables : List Variable) (offsets : List ℕ) (facts : ℕ) (fact : Fact) → IsOffsets variables offsets → facts ≡ fact_count variables → is_fact variables fact ≡ true → IsNumbered offsets facts fact
is_numbered variables offsets facts fact is count h = record {
  variable = omega (arith, is.long, (there variables fact h).within);
  below = omega (arith, count, number_by-is variables offsets fact is h, number_below variables fact h);
}

-- a value of a state is a fact
pub state_fact : (variables : List Variable) (state : List ℕ) (var : ℕ) → IsState variables state → var < length variables → is_fact variables (fact_at var (slice_index state var)) ≡ true
state_fact variables state var is lt = lt-ltb (slice_index state var) (range_of variables var) (is.in_range var lt)

-- facts place by place: those of a state, and the defaults

-- a test of all facts of some of the places, from that of each place
all_places : (p : Fact → Bool) (kept : ℕ → Bool) (k : ℕ) (values : List ℕ) → ((i : ℕ) → i < length values → p (fact_at (k + i) (slice_index values i)) ≡ true) →
    list_all p (map (λ q. fact_at q.0 q.1) (filter (λ q. kept q.0) (enumerate_from k values))) ≡ true
all_places p kept k [] each = refl
all_places p kept k (x ∷ values) each =
    let z : k + 0 ≡ k = omega arith in
    let here : p (fact_at k x) ≡ true = rw z at (each 0 (omega arith)) in
    by_test (kept k) here (all_places p kept (k + 1) values (λ i lt. let e : k + suc i ≡ (k + 1) + i = omega arith in rw e at (each (suc i) (omega arith))))
  where
    rest : List (ℕ × ℕ)
    rest = filter (λ q. kept q.0) (enumerate_from (k + 1) values)

    by_test : (b : Bool) → p (fact_at k x) ≡ true → list_all p (map (λ q. fact_at q.0 q.1) rest) ≡ true → list_all p (map (λ q. fact_at q.0 q.1) (if b then (k, x) ∷ rest else rest)) ≡ true
    by_test true here more = and_from _ _ here more
    by_test false here more = more

pub everything : {X : Type 0} (xs : List X) → filter (λ x. true) xs ≡ xs
everything [] = refl
everything (x ∷ xs) = ap (λ t. x ∷ t) (everything xs)

pub facts_there : (variables : List Variable) (state : List ℕ) → IsState variables state → list_all (is_fact variables) (facts_of state) ≡ true
facts_there variables state of =
    ap (λ (ps : List (ℕ × ℕ)). list_all (is_fact variables) (map (λ q. fact_at q.0 q.1) ps)) (sym (everything (enumerate_from 0 state)))
    ∙ all_places (is_fact variables) (λ var. true) 0 state (λ i lt. let z : 0 + i ≡ i = omega arith in rw z (state_fact variables state i of (omega (arith, of.long))))

pub defaults_there : (parts : Parts) → IsWellFormed parts → list_all (is_fact parts.variables) (default_facts parts) ≡ true
defaults_there parts formed =
    let init = init-state parts formed in
    all_places (is_fact parts.variables) (is_derived parts.variables) 0 parts.init (λ i lt. let z : 0 + i ≡ i = omega arith in rw z (state_fact parts.variables parts.init i init (omega (arith, init.long))))

pub start_there : (parts : Parts) (state : List ℕ) → IsWellFormed parts → IsState parts.variables state → list_all (is_fact parts.variables) (start_facts parts state) ≡ true
start_there parts state formed of =
    list_all-append (is_fact parts.variables) (facts_of state) (default_facts parts) ∙ and_from _ _ (facts_there parts.variables state of) (defaults_there parts formed)

pub goals_there : (parts : Parts) → IsWellFormed parts → list_all (is_fact parts.variables) (distinct_facts parts.goal) ≡ true
goals_there parts formed = all_once over_facts (is_fact parts.variables) parts.goal ∙ goal-facts parts formed

-- the numbers of such facts

pub numbers_same : (variables : List Variable) (offsets : List ℕ) (facts : List Fact) → IsOffsets variables offsets → list_all (is_fact variables) facts ≡ true → map (number_by offsets) facts ≡ numbers_of variables facts
numbers_same variables offsets [] is all = refl
numbers_same variables offsets (f ∷ facts) is all =
    let t = and_parts (is_fact variables f) (list_all (is_fact variables) facts) all in
    rw (number_by-is variables offsets f is t.0, numbers_same variables offsets facts is t.1) refl

pub numbers_below : (variables : List Variable) (facts : List Fact) → list_all (is_fact variables) facts ≡ true → list_all (is_below (fact_count variables)) (numbers_of variables facts) ≡ true
numbers_below variables [] all = refl
numbers_below variables (f ∷ facts) all =
    let t = and_parts (is_fact variables f) (list_all (is_fact variables) facts) all in
    and_from _ _ (lt-ltb (number_of variables f) (fact_count variables) (number_below variables f t.0)) (numbers_below variables facts t.1)

pub by_pairs : (offsets : List ℕ) (ps : List (ℕ × ℕ)) → map (λ p. number_by offsets (fact_at p.0 p.1)) ps ≡ map (number_by offsets) (map (λ p. fact_at p.0 p.1) ps)
by_pairs offsets [] = refl
by_pairs offsets (p ∷ ps) = ap (λ ns. number_by offsets (fact_at p.0 p.1) ∷ ns) (by_pairs offsets ps)

pub numbers_by-is : (variables : List Variable) (offsets state : List ℕ) → IsOffsets variables offsets → IsState variables state → numbers_by offsets state ≡ numbers_of variables (facts_of state)
numbers_by-is variables offsets state is of = by_pairs offsets (enumerate_from 0 state) ∙ numbers_same variables offsets (facts_of state) is (facts_there variables state of)

pub state_below : (variables : List Variable) (state : List ℕ) → IsState variables state → list_all (is_below (fact_count variables)) (numbers_of variables (facts_of state)) ≡ true
state_below variables state of = numbers_below variables (facts_of state) (facts_there variables state of)

-- what is there at the start, by number
pub start_numbers : (parts : Parts) (kind : CostKind) (lists : Lists) (state : List ℕ) → IsRelaxed parts kind lists → IsState parts.variables state → numbers_by lists.offsets state ++ lists.defaults ≡ numbers_of parts.variables (start_facts parts state)
start_numbers parts kind lists state is of =
    rw (numbers_by-is parts.variables lists.offsets state is.offsets of, is.defaults) (sym (map-append (number_of parts.variables) (facts_of state) (default_facts parts)))

-- the numbers of a state, place by place
pub long_numbers : (offsets state : List ℕ) → length (numbers_by offsets state) ≡ length state
long_numbers offsets state = go 0 state
  where
    go : (n : ℕ) (xs : List ℕ) → length (map (λ (p : ℕ × ℕ). number_by offsets (fact_at p.0 p.1)) (enumerate_from n xs)) ≡ length xs
    go n [] = refl
    go n (x ∷ xs) = ap suc (go (n + 1) xs)

pub number_at : (offsets state : List ℕ) (i : ℕ) → i < length state → get_or (numbers_by offsets state) i 0 ≡ get_or offsets i 0 + get_or state i 0
number_at offsets state i lt = let z : 0 + i ≡ i = omega arith in go 0 state i lt ∙ ap (λ (k : ℕ). get_or offsets k 0 + get_or state i 0) z
  where
    go : (n : ℕ) (xs : List ℕ) (i : ℕ) → i < length xs → get_or (map (λ (p : ℕ × ℕ). number_by offsets (fact_at p.0 p.1)) (enumerate_from n xs)) i 0 ≡ get_or offsets (n + i) 0 + get_or xs i 0
    go n [] i lt = absurd (omega arith)
    go n (x ∷ xs) zero lt = let z : n + 0 ≡ n = omega arith in rw z refl
    go n (x ∷ xs) (suc i) lt = let z : n + suc i ≡ n + 1 + i = omega arith in rw z (go (n + 1) xs i (omega arith))

-- the facts of an effect, an operator and a rule are there

abbrev pub effect_facts : List Variable → Effect → Bool
effect_facts variables effect = list_all (is_fact variables) effect.conds && is_fact variables effect.fact

abbrev pub operator_facts : List Variable → Operator → Bool
operator_facts variables operator = list_all (is_fact variables) operator.pre && list_all (effect_facts variables) operator.effects

-- a test that follows from another, and one from that of each place
pub weaker : {X : Type 0} (p q : X → Bool) (xs : List X) → ((x : X) → p x ≡ true → q x ≡ true) → list_all p xs ≡ true → list_all q xs ≡ true
weaker p q [] one all = refl
weaker p q (x ∷ xs) one all = let t = and_parts (p x) (list_all p xs) all in and_from _ _ (one x t.0) (weaker p q xs one t.1)

each_place : {X : Type 0} (q : X → Bool) (xs : List X) → ((i : ℕ) (x : X) → slice_get xs i ≡ Some x → q x ≡ true) → list_all q xs ≡ true
each_place q [] each = refl
each_place q (x ∷ xs) each = and_from _ _ (each 0 x refl) (each_place q xs (λ i. each (suc i)))

pub operators_facts : (parts : Parts) → IsWellFormed parts → list_all (operator_facts parts.variables) parts.operators ≡ true
operators_facts parts formed = each_place (operator_facts parts.variables) parts.operators (λ op o at.
    let tests = operator-at parts op o formed at in
    and_from _ _ tests.pre (weaker (is_effect parts.variables) (effect_facts parts.variables) o.effects (λ e is. let t = effect-tests parts.variables e is in and_from _ _ t.conds t.fact) tests.effects))

pub rules_facts : (parts : Parts) → IsWellFormed parts → list_all (rule_facts parts.variables) parts.rules ≡ true
rules_facts parts formed = each_place (rule_facts parts.variables) parts.rules (λ i rule at. let r = rule-at parts i rule formed at in and_from _ _ r.conds r.head)

-- and so are those of the unary operators

abbrev pub unary_there : List Variable → UnaryOperator → Bool
unary_there variables = are_there over_facts (is_fact variables)

effects_there : (parts : Parts) (kind : CostKind) (op : ℕ) (o : Operator) (effects : List Effect) → list_all (is_fact parts.variables) o.pre ≡ true → list_all (effect_facts parts.variables) effects ≡ true →
    list_all (unary_there parts.variables) (map (from_effect parts kind op o) effects) ≡ true
effects_there parts kind op o [] pre all = refl
effects_there parts kind op o (e ∷ effects) pre all =
    let t = and_parts (effect_facts parts.variables e) (list_all (effect_facts parts.variables) effects) all in
    let own = and_parts (list_all (is_fact parts.variables) e.conds) (is_fact parts.variables e.fact) t.0 in
    let conds = all_once over_facts (is_fact parts.variables) (o.pre ++ e.conds) ∙ (list_all-append (is_fact parts.variables) o.pre e.conds ∙ and_from _ _ pre own.0) in
    and_from _ _ (and_from _ _ conds own.1) (effects_there parts kind op o effects pre t.1)

operators_there : (parts : Parts) (kind : CostKind) (k : ℕ) (operators : List Operator) → list_all (operator_facts parts.variables) operators ≡ true →
    list_all (unary_there parts.variables) (flat_map (λ p. map (from_effect parts kind p.0 p.1) p.1.effects) (enumerate_from k operators)) ≡ true
operators_there parts kind k [] all = refl
operators_there parts kind k (o ∷ operators) all =
    let t = and_parts (operator_facts parts.variables o) (list_all (operator_facts parts.variables) operators) all in
    let own = and_parts (list_all (is_fact parts.variables) o.pre) (list_all (effect_facts parts.variables) o.effects) t.0 in
    list_all-append (unary_there parts.variables) (map (from_effect parts kind k o) o.effects) (flat_map (λ p. map (from_effect parts kind p.0 p.1) p.1.effects) (enumerate_from (k + 1) operators))
    ∙ and_from _ _ (effects_there parts kind k o o.effects own.0 own.1) (operators_there parts kind (k + 1) operators t.1)

rules_there : (variables : List Variable) (rules : List Rule) → list_all (rule_facts variables) rules ≡ true → list_all (unary_there variables) (map from_rule rules) ≡ true
rules_there variables [] all = refl
rules_there variables (r ∷ rules) all =
    let t = and_parts (rule_facts variables r) (list_all (rule_facts variables) rules) all in
    let own = and_parts (list_all (is_fact variables) r.conds) (is_fact variables r.head) t.0 in
    and_from _ _ (and_from _ _ (all_once over_facts (is_fact variables) r.conds ∙ own.0) own.1) (rules_there variables rules t.1)

pub unary_operators_there : (parts : Parts) (kind : CostKind) → IsWellFormed parts → list_all (unary_there parts.variables) (unary_operators parts kind) ≡ true
unary_operators_there parts kind formed =
    list_all-append (unary_there parts.variables) (flat_map (λ p. map (from_effect parts kind p.0 p.1) p.1.effects) (enumerate_from 0 parts.operators)) (map from_rule parts.rules)
    ∙ and_from _ _ (operators_there parts kind 0 parts.operators (operators_facts parts formed)) (rules_there parts.variables parts.rules (rules_facts parts formed))

-- The numbers of a task's facts are a numbering.

number_test : (variables : List Variable) (a b : Fact) → is_fact variables a ≡ true → is_fact variables b ≡ true → nat_eq (number_of variables a) (number_of variables b) ≡ same_fact a b
number_test variables a b ha hb = by_tests (nat_eq (number_of variables a) (number_of variables b)) (same_fact a b) refl refl
  where
    by_tests : (m s : Bool) → nat_eq (number_of variables a) (number_of variables b) ≡ m → same_fact a b ≡ s → m ≡ s
    by_tests true true is same = refl
    by_tests false false is same = refl
    by_tests true false is same =
        let e : a ≡ b = same_number variables a b ha hb (eqb-true (number_of variables a) (number_of variables b) is) in
        let k : true ≡ false = sym (over_facts.itself b) ∙ (ap (λ f. same_fact f b) (sym e) ∙ same) in
        cc
    by_tests false true is same =
        let k : true ≡ false = sym (eq-eqb (number_of variables a) (number_of variables b) (ap (number_of variables) (facts_equal a b same))) ∙ is in
        cc

pub numbering : (variables : List Variable) → IsNumbering over_facts over_numbers (is_fact variables) (number_of variables) (by_number variables)
numbering variables = record {
  same = number_test variables;
  conds = λ u. refl;
  gives = λ u. refl;
  cost = λ u. refl;
}

pub distinct_numbers : (variables : List Variable) (facts : List Fact) → list_all (is_fact variables) facts ≡ true → distinct (numbers_of variables facts) ≡ numbers_of variables (distinct_facts facts)
distinct_numbers variables facts all = each_once_kept over_facts over_numbers (is_fact variables) (number_of variables) (by_number variables) (numbering variables) facts all

-- A fact costs what its number does.
pub cost_of_fact : (parts : Parts) (kind : CostKind) (state : List ℕ) (without : List Fact) (fact : Fact) (cost : Estimate) → IsWellFormed parts → IsState parts.variables state → list_all (is_fact parts.variables) without ≡ true →
    is_fact parts.variables fact ≡ true → IsCost over_numbers (numbered_unaries parts kind) (numbers_of parts.variables (start_facts parts state)) (numbers_of parts.variables without) (number_of parts.variables fact) cost →
    IsAdditiveCost parts kind state without fact cost
cost_of_fact parts kind state without fact cost formed of all h l =
    cost_kept over_facts over_numbers (is_fact parts.variables) (number_of parts.variables) (by_number parts.variables) (numbering parts.variables)
    (unary_operators parts kind) (start_facts parts state) without (unary_operators_there parts kind formed) (start_there parts state formed of) all fact cost h l

pub sum_by_number : (variables : List Variable) (value : ℕ → Estimate) (facts : List Fact) → sum_of value (numbers_of variables facts) ≡ sum_of (costs_by variables value) facts
sum_by_number variables value facts = sum_of_map (number_of variables) value facts

-- a test of some of the goal facts by their numbers
pub any_of_facts : (variables : List Variable) (p : ℕ → Bool) (facts : List Fact) → list_any p (numbers_of variables (distinct_facts facts)) ≡ list_any (λ fact. p (number_of variables fact)) facts
any_of_facts variables p facts = by_number_test (distinct_facts facts) ∙ any_once over_facts (λ fact. p (number_of variables fact)) facts
  where
    by_number_test : (some : List Fact) → list_any p (numbers_of variables some) ≡ list_any (λ fact. p (number_of variables fact)) some
    by_number_test [] = refl
    by_number_test (f ∷ some) = rw (by_number_test some) refl

-- A relaxed plan over numbers is one over facts.
pub supported_by_facts : (parts : Parts) (kind : CostKind) (state : List ℕ) (value : ℕ → Estimate) (numbers : List Unary) → IsWellFormed parts → IsState parts.variables state →
    IsSupported over_numbers (numbered_unaries parts kind) (numbers_of parts.variables (start_facts parts state)) value (numbers_of parts.variables (distinct_facts parts.goal)) numbers →
    HasPlan over_facts over_numbers (number_of parts.variables) (by_number parts.variables) (unary_operators parts kind) (start_facts parts state) value (distinct_facts parts.goal) numbers
supported_by_facts parts kind state value numbers formed of is =
    plan_kept over_facts over_numbers (is_fact parts.variables) (number_of parts.variables) (by_number parts.variables) (numbering parts.variables)
    (unary_operators parts kind) (start_facts parts state) value (distinct_facts parts.goal) numbers (unary_operators_there parts kind formed) (start_there parts state formed of) (goals_there parts formed) is
