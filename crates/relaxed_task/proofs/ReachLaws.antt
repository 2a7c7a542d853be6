-- What is reached, and what isn't: every fact of a run's states is reached without facts that hold in none of them, and costs are finite exactly where facts are reached.
use Rattle.std.proofs.Common.{◌≡◌, ◌∙◌, sym, ap, subst, refl, ℕ, zero, suc, ◌+◌, ◌<◌, ◌⊎◌, inl, inr, List, [], ◌∷◌, ◌++◌, length, map, Bool, true, false, not, ◌&&◌, ◌||◌, nat_eq, ◌↔◌, arith, add-zero, Option, Some, None, option_map, option_and_then, slice_get, slice_index, if◌then◌else◌}
use Rattle.std.proofs.Math.Path.{fun_ext}
use Rattle.std.specs.Prelude.{filter, is_some}
use Rattle.std.specs.List.{list_all, list_any, enumerate_from, flat_map}
use Rattle.std.proofs.lemmas.Bool.{and_from, and_parts, or_left, or_right, both_ways, not-true, not_from_false, false_from_ne_true, eqb-true, eq-eqb}
use Rattle.std.proofs.lemmas.List.Folds.{list_all-append, list_any-append}
use Rattle.std.proofs.lemmas.Option.{same_Some, none-some}
use Rattle.lama_num.proofs.ListLaws.{list_all_get}
use Rattle.lama_num.specs.declared.estimates.Estimate.{Estimate}
use Rattle.lama_num.specs.declared.estimates.Estimate.TheVariants.{Finite, Infinite}
use Rattle.sas_task.specs.Facts.{same_fact}
use Rattle.sas_task.proofs.RunLaws.{init-state, length-written, settled-stays, goal-facts, operator-at, effect-tests, rule-at, step-by, step-state}
use Rattle.sas_task.specs.Runs.{end_of, is_goal, states_of}
use Rattle.sas_task.specs.States.{IsState, holds, all_hold, fires, given, last_or, written, is_layer, as_effect, rules_of, round_of, rounds_of, size_of, settled_below, settled, default_or, reset, top_of, step}
use Rattle.sas_task.specs.WellFormed.{IsWellFormed, is_fact, is_effect, layer_of, is_derived}
use Rattle.sas_task.specs.declared.contents.CostKind.{CostKind}
use Rattle.sas_task.specs.declared.contents.Effect.{Effect}
use Rattle.sas_task.specs.declared.contents.Fact.{Fact}
use Rattle.sas_task.specs.declared.contents.Operator.{Operator}
use Rattle.sas_task.specs.declared.contents.Parts.{Parts}
use Rattle.sas_task.specs.declared.contents.Rule.{Rule}
use Rattle.relaxed_task.specs.AdditiveCosts.{IsAdditiveCost, AreAdditiveCosts}
use Rattle.relaxed_task.proofs.CostLaws.{infinite_unreached}
use Rattle.relaxed_task.proofs.CostLaws.{finite_reached}
use Rattle.relaxed_task.proofs.Elements.{any_at}
use Rattle.relaxed_task.specs.Estimates.{is_finite}
use Rattle.relaxed_task.specs.Facts.{fact_at, facts_of, default_facts, start_facts, over_facts, from_effect, from_rule, unary_operators}
use Rattle.sas_task.proofs.FactLists.{same-true as facts_equal}
use Rattle.relaxed_task.proofs.NumberLaws.{everything, fact_within}
use Rattle.relaxed_task.proofs.NumberingLaws.{all_once, mapped}
use Rattle.relaxed_task.proofs.PlanLaws.{all_has, all_from, has_append}
use Rattle.relaxed_task.specs.Reached.{effect_gives, rule_gives, is_given, is_reached_in, IsReached, IsDead}
use Rattle.relaxed_task.specs.Relaxing.{has, in_round}
use Rattle.relaxed_task.proofs.RelaxingLaws.{is_given_by}

-- unary operators give what effects and rules give

effects_give : (parts : Parts) (kind : CostKind) (op : ℕ) (reached : Fact → Bool) (fact : Fact) (o : Operator) (effects : List Effect) → is_given_by over_facts (map (from_effect parts kind op o) effects) reached fact ≡ list_any (effect_gives reached fact o) effects
effects_give parts kind op reached fact o [] = refl
effects_give parts kind op reached fact o (e ∷ effects) = rw (all_once over_facts reached (o.pre ++ e.conds), effects_give parts kind op reached fact o effects) refl

operators_give : (parts : Parts) (kind : CostKind) (k : ℕ) (reached : Fact → Bool) (fact : Fact) (operators : List Operator) →
    is_given_by over_facts (flat_map (λ p. map (from_effect parts kind p.0 p.1) p.1.effects) (enumerate_from k operators)) reached fact ≡ list_any (λ o. list_any (effect_gives reached fact o) o.effects) operators
operators_give parts kind k reached fact [] = refl
operators_give parts kind k reached fact (o ∷ operators) =
    list_any-append (λ u. same_fact u.gives fact && list_all reached u.conds) (map (from_effect parts kind k o) o.effects) (flat_map (λ p. map (from_effect parts kind p.0 p.1) p.1.effects) (enumerate_from (k + 1) operators))
    ∙ rw (effects_give parts kind k reached fact o o.effects, operators_give parts kind (k + 1) reached fact operators) refl

rules_give : (reached : Fact → Bool) (fact : Fact) (rules : List Rule) → is_given_by over_facts (map from_rule rules) reached fact ≡ list_any (rule_gives reached fact) rules
rules_give reached fact [] = refl
rules_give reached fact (r ∷ rules) = rw (all_once over_facts reached r.conds, rules_give reached fact rules) refl

pub unary_operators_give : (parts : Parts) (kind : CostKind) → is_given_by over_facts (unary_operators parts kind) ≡ is_given parts
unary_operators_give parts kind = fun_ext (λ reached. fun_ext (λ fact.
    list_any-append (λ u. same_fact u.gives fact && list_all reached u.conds) (flat_map (λ p. map (from_effect parts kind p.0 p.1) p.1.effects) (enumerate_from 0 parts.operators)) (map from_rule parts.rules)
    ∙ rw (operators_give parts kind 0 reached fact parts.operators, rules_give reached fact parts.rules) refl))

reached_by_unary : (parts : Parts) (kind : CostKind) (state : List ℕ) (without : List Fact) (n : ℕ) (fact : Fact) →
    in_round (is_given_by over_facts (unary_operators parts kind)) (has over_facts (start_facts parts state)) (has over_facts without) n fact ≡ is_reached_in parts state without n fact
reached_by_unary parts kind state without n fact = ap (λ (given : (Fact → Bool) → Fact → Bool). in_round given (has over_facts (start_facts parts state)) (has over_facts without) n fact) (unary_operators_give parts kind)

-- What a fact costs is finite exactly where it is reached.
pub finite_exactly : (parts : Parts) (kind : CostKind) (state : List ℕ) (without : List Fact) (fact : Fact) (cost : Estimate) → IsAdditiveCost parts kind state without fact cost →
    (is_finite cost ≡ true) ↔ IsReached parts state without fact
finite_exactly parts kind state without fact (Finite a) l = (
  λ finite. record { round = l.round; reached = sym (reached_by_unary parts kind state without l.round fact) ∙ finite_reached over_facts (unary_operators parts kind) (start_facts parts state) without fact a l },
  λ reached. refl,
)
finite_exactly parts kind state without fact Infinite l = (
  λ finite. (let k : false ≡ true = finite in absurd cc),
  λ r. absurd (both_ways (is_reached_in parts state without r.round fact)
      (sym (reached_by_unary parts kind state without r.round fact) ∙ infinite_unreached over_facts (unary_operators parts kind) (start_facts parts state) without fact r.round l) r.reached),
)

-- an element that passes a test
record Found {X : Type 0} (p : X → Bool) (xs : List X) : Type 0 where
  place : ℕ
  element : X
  at : slice_get xs place ≡ Some element
  passes : p element ≡ true

found_in : {X : Type 0} (p : X → Bool) (xs : List X) → list_any p xs ≡ true → Found p xs
found_in p [] any = let k : false ≡ true = any in cc
found_in p (x ∷ xs) any = by_test (p x) refl any (found_in p xs)
  where
    by_test : (b : Bool) → p x ≡ b → (b || list_any p xs) ≡ true → (list_any p xs ≡ true → Found p xs) → Found p (x ∷ xs)
    by_test true is any rest = record { place = 0; element = x; at = refl; passes = is }
    by_test false is any rest = let found = rest any in record { place = suc found.place; element = found.element; at = found.at; passes = found.passes }

-- A state is dead exactly where some goal fact is infinite.
pub dead_exactly : (parts : Parts) (kind : CostKind) (state : List ℕ) (costs : Fact → Estimate) → IsWellFormed parts → AreAdditiveCosts parts kind state [] costs →
    (list_any (λ fact. not (is_finite (costs fact))) parts.goal ≡ true) ↔ IsDead parts state
dead_exactly parts kind state costs formed each = (
  λ any. (let found = found_in (λ fact. not (is_finite (costs fact))) parts.goal any in
      record {
        place = found.place;
        goal = found.element;
        at = found.at;
        unreached = λ n. false_from_ne_true _ (λ is. both_ways _ (not-true _ found.passes) ((exactly found.place found.element found.at).1 (record { round = n; reached = is })));
      }),
  λ dead. any_at (λ fact. not (is_finite (costs fact))) parts.goal dead.place dead.goal dead.at
      (not_from_false _ (false_from_ne_true _ (λ finite. (let r = (exactly dead.place dead.goal dead.at).0 finite in both_ways _ (dead.unreached r.round) r.reached)))),
)
  where
    exactly : (place : ℕ) (goal : Fact) → slice_get parts.goal place ≡ Some goal → (is_finite (costs goal) ≡ true) ↔ IsReached parts state [] goal
    exactly place goal at = finite_exactly parts kind state [] goal (costs goal) (each goal (list_all_get (is_fact parts.variables) parts.goal place goal (goal-facts parts formed) at))

-- Where the facts of a state after effects, or with defaults, come from.

-- an effect of some that fires in the state and gives the fact
pub record Source (state : List ℕ) (effects : List Effect) (f : Fact) : Type 0 where
  pub effect : Effect
  pub place : ℕ
  pub at : slice_get effects place ≡ Some effect
  pub fires : fires state effect ≡ true
  pub gives : effect.fact ≡ f

-- a value is kept, or the effect that is the last to give one is its source
last_source : (state : List ℕ) (effects : List Effect) (var value x : ℕ) → last_or value (given state effects var) ≡ x → (value ≡ x) ⊎ Source state effects (fact_at var x)
last_source state [] var value x is = inl is
last_source state (e ∷ effects) var value x is = by_test (λ v h. last_source state effects var v x h) (fires state e && nat_eq e.fact.var var) refl is
  where
    later : Source state effects (fact_at var x) → Source state (e ∷ effects) (fact_at var x)
    later s = record { effect = s.effect; place = suc s.place; at = s.at; fires = s.fires; gives = s.gives }

    by_test : ((v : ℕ) → last_or v (given state effects var) ≡ x → (v ≡ x) ⊎ Source state effects (fact_at var x)) →
        (b : Bool) → (fires state e && nat_eq e.fact.var var) ≡ b → last_or value (map (λ e. e.fact.val) (if b then e ∷ filter (λ e. fires state e && nat_eq e.fact.var var) effects else filter (λ e. fires state e && nat_eq e.fact.var var) effects)) ≡ x →
        (value ≡ x) ⊎ Source state (e ∷ effects) (fact_at var x)
    by_test rest true fire is = elim (rest e.fact.val is) [
      | inl same ↦
          let p = and_parts _ _ fire in
          inr (record { effect = e; place = 0; at = refl; fires = p.0; gives = facts_equal e.fact (fact_at var x) (and_from _ _ p.1 (eq-eqb e.fact.val x same)) })
      | inr s ↦ inr (later s)
    ]
    by_test rest false fire is = elim (rest value is) [ inl same ↦ inl same | inr s ↦ inr (later s) ]

-- what is read of places that are changed one by one: the old value, or the new one of the place
read : (f : ℕ → ℕ → ℕ) (k : ℕ) (xs : List ℕ) (j : ℕ) → (slice_index (map (λ p. f p.0 p.1) (enumerate_from k xs)) j ≡ slice_index xs j) ⊎ (slice_index (map (λ p. f p.0 p.1) (enumerate_from k xs)) j ≡ f (k + j) (slice_index xs j))
read f k [] j = inl refl
read f k (x ∷ xs) zero = inr (rw add-zero refl)
read f k (x ∷ xs) (suc j) = let e : (k + 1) + j ≡ k + suc j = omega arith in rw (← e) (read f (k + 1) xs j)

-- A fact after effects held before, or an effect gives it.
written_source : (state : List ℕ) (effects : List Effect) (f : Fact) → holds (written state effects) f ≡ true → (holds state f ≡ true) ⊎ Source state effects f
written_source state effects f h =
    let is : slice_index (written state effects) f.var ≡ f.val = eqb-true _ _ h in
    elim (read (λ k x. last_or x (given state effects k)) 0 state f.var) [
      | inl same ↦ inl (eq-eqb _ _ (sym same ∙ is))
      | inr last ↦
          let z : 0 + f.var ≡ f.var = omega arith in
          by_source (sym (ap (λ k. last_or (slice_index state f.var) (given state effects k)) z) ∙ (sym last ∙ is))
    ]
  where
    by_source : last_or (slice_index state f.var) (given state effects f.var) ≡ f.val → (holds state f ≡ true) ⊎ Source state effects f
    by_source is = elim (last_source state effects f.var (slice_index state f.var) f.val is) [
      | inl same ↦ inl (eq-eqb _ _ same)
      | inr s ↦ inr s
    ]

reset_cases : (parts : Parts) (state : List ℕ) (var : ℕ) → (slice_index (reset parts state) var ≡ slice_index state var) ⊎ ((is_derived parts.variables var ≡ true) × (slice_index (reset parts state) var ≡ slice_index parts.init var))
reset_cases parts state var = elim (read (default_or parts) 0 state var) [
  | inl same ↦ inl same
  | inr new ↦ let z : 0 + var ≡ var = omega arith in by_test (is_derived parts.variables var) refl (new ∙ ap (λ k. default_or parts k (slice_index state var)) z)
]
  where
    by_test : (b : Bool) → is_derived parts.variables var ≡ b → slice_index (reset parts state) var ≡ default_or parts var (slice_index state var) →
        (slice_index (reset parts state) var ≡ slice_index state var) ⊎ ((is_derived parts.variables var ≡ true) × (slice_index (reset parts state) var ≡ slice_index parts.init var))
    by_test true is new = inr (is, new ∙ rw is refl)
    by_test false is new = inl (new ∙ rw is refl)

-- a rule of the layer that holds and gives the fact
record RuleSource (parts : Parts) (layer : ℕ) (state : List ℕ) (f : Fact) : Type 0 where
  place : ℕ
  rule : Rule
  at : slice_get parts.rules place ≡ Some rule
  of_layer : is_layer (layer_of parts.variables rule.head.var) layer ≡ true
  holds : all_hold state rule.conds ≡ true
  gives : rule.head ≡ f

filtered : {X : Type 0} (p : X → Bool) (xs : List X) (i : ℕ) (x : X) → slice_get (filter p xs) i ≡ Some x → (j : ℕ) × (slice_get xs j ≡ Some x) × (p x ≡ true)
filtered p [] i x at = absurd (none-some x at)
filtered p (y ∷ xs) i x at = by_test (λ j there. filtered p xs j x there) (p y) refl i at
  where
    by_test : ((i : ℕ) → slice_get (filter p xs) i ≡ Some x → (j : ℕ) × (slice_get xs j ≡ Some x) × (p x ≡ true)) →
        (b : Bool) → p y ≡ b → (i : ℕ) → slice_get (if b then y ∷ filter p xs else filter p xs) i ≡ Some x → (j : ℕ) × (slice_get (y ∷ xs) j ≡ Some x) × (p x ≡ true)
    by_test rest true is zero at = (0, at, ap p (sym (same_Some y x at)) ∙ is)
    by_test rest true is (suc i) at = let r = rest i at in (suc r.0, r.1, r.2)
    by_test rest false is i at = let r = rest i at in (suc r.0, r.1, r.2)

rule_source : (parts : Parts) (layer : ℕ) (state : List ℕ) (f : Fact) → Source state (rules_of parts.variables layer parts.rules) f → RuleSource parts layer state f
rule_source parts layer state f s =
    let m = mapped as_effect (filter (λ (r : Rule). is_layer (layer_of parts.variables r.head.var) layer) parts.rules) s.place s.effect s.at in
    let g = filtered (λ (r : Rule). is_layer (layer_of parts.variables r.head.var) layer) parts.rules s.place m.0 m.1 in
    record {
      place = g.0;
      rule = m.0;
      at = g.1;
      of_layer = g.2;
      holds = ap (fires state) m.2 ∙ s.fires;
      gives = ap (λ (e : Effect). e.fact) m.2 ∙ s.gives;
    }

-- what is there at the start

has_place : (kept : ℕ → Bool) (k : ℕ) (values : List ℕ) (i : ℕ) → i < length values → kept (k + i) ≡ true →
    has over_facts (map (λ p. fact_at p.0 p.1) (filter (λ p. kept p.0) (enumerate_from k values))) (fact_at (k + i) (slice_index values i)) ≡ true
has_place kept k [] i lt is = absurd (omega arith)
has_place kept k (x ∷ values) zero lt is = let z : k + 0 ≡ k = omega arith in rw z (let here : kept k ≡ true = rw z at is in rw here (or_left _ _ (over_facts.itself (fact_at k x))))
has_place kept k (x ∷ values) (suc i) lt is =
    let e : k + suc i ≡ (k + 1) + i = omega arith in
    let rest = has_place kept (k + 1) values i (omega arith) (rw e at is) in
    rw e (by_test (kept k) rest)
  where
    by_test : (b : Bool) → has over_facts (map (λ p. fact_at p.0 p.1) (filter (λ p. kept p.0) (enumerate_from (k + 1) values))) (fact_at ((k + 1) + i) (slice_index values i)) ≡ true →
        has over_facts (map (λ p. fact_at p.0 p.1) (if b then (k, x) ∷ filter (λ p. kept p.0) (enumerate_from (k + 1) values) else filter (λ p. kept p.0) (enumerate_from (k + 1) values))) (fact_at ((k + 1) + i) (slice_index values i)) ≡ true
    by_test true rest = or_right _ _ rest
    by_test false rest = rest

place_of : (values : List ℕ) (f : Fact) → slice_index values f.var ≡ f.val → fact_at (0 + f.var) (slice_index values f.var) ≡ f
place_of values f is = let z : 0 + f.var ≡ f.var = omega arith in facts_equal _ f (and_from _ _ (eq-eqb _ _ z) (eq-eqb _ _ is))

-- Each fact of a state that operators lead to is reached.

-- none of the facts holds
abbrev pub none_hold : List Fact → List ℕ → Bool
none_hold facts state = list_all (λ f. not (holds state f)) facts

-- no fact is of a derived variable
abbrev pub are_plain : Parts → List Fact → Bool
are_plain parts facts = list_all (λ f. not (is_derived parts.variables f.var)) facts

-- all facts of a state are reached from another without some
pub record AllReached (parts : Parts) (from : List ℕ) (without : List Fact) (state : List ℕ) : Type 0 where
  pub each : (f : Fact) → is_fact parts.variables f ≡ true → holds state f ≡ true → IsReached parts from without f

module _ (parts : Parts) (from : List ℕ) (without : List Fact) (formed : IsWellFormed parts) (of : IsState parts.variables from) (plain : are_plain parts without ≡ true) where
  abbrev reached : ℕ → Fact → Bool
  reached n = is_reached_in parts from without n

  later : (n k : ℕ) (f : Fact) → reached n f ≡ true → reached (k + n) f ≡ true
  later n zero f h = let e : 0 + n ≡ n = omega arith in rw e h
  later n (suc k) f h = let e : suc k + n ≡ suc (k + n) = omega arith in rw e (or_left (reached (k + n) f) _ (later n k f h))

  -- facts that are each reached are all in one round
  common : (facts : List Fact) → ((f : Fact) → has over_facts facts f ≡ true → IsReached parts from without f) → (n : ℕ) × (list_all (reached n) facts ≡ true)
  common [] each = (0, refl)
  common (g ∷ facts) each =
      let own = each g (or_left _ _ (over_facts.itself g)) in
      let rest = common facts (λ f h. each f (or_right (same_fact f g) _ h)) in
      let e : own.round + rest.0 ≡ rest.0 + own.round = omega arith in (
        rest.0 + own.round,
        and_from _ _ (later own.round rest.0 g own.reached) (all_from over_facts _ facts (λ f h. rw (← e) (later rest.0 own.round f (all_has over_facts (reached rest.0) facts f rest.1 h)))),
      )

  -- what is given where all conditions are reached is reached
  given_reached : (f : Fact) (conds : List Fact) → has over_facts without f ≡ false → ((c : Fact) → has over_facts conds c ≡ true → IsReached parts from without c) →
      ((r : Fact → Bool) → list_all r conds ≡ true → is_given parts r f ≡ true) → IsReached parts from without f
  given_reached f conds out each gives =
      let c = common conds each in
      record { round = suc c.0; reached = or_right (reached c.0 f) _ (and_from _ _ (gives (reached c.0) c.1) (not_from_false _ out)) }

  outside : (f : Fact) → is_derived parts.variables f.var ≡ true → has over_facts without f ≡ false
  outside f derived = false_from_ne_true _ (λ h. both_ways _ (not-true _ (all_has over_facts (λ g. not (is_derived parts.variables g.var)) without f plain h)) derived)

  absent : (state : List ℕ) → none_hold without state ≡ true → (f : Fact) → holds state f ≡ true → has over_facts without f ≡ false
  absent state none f h = false_from_ne_true _ (λ among. both_ways _ (not-true _ (all_has over_facts (λ g. not (holds state g)) without f none among)) h)

  conds_reached : (state : List ℕ) → AllReached parts from without state → (conds : List Fact) → list_all (is_fact parts.variables) conds ≡ true → all_hold state conds ≡ true → (c : Fact) → has over_facts conds c ≡ true → IsReached parts from without c
  conds_reached state all conds there hold c h = all.each c (all_has over_facts (is_fact parts.variables) conds c there h) (all_has over_facts (holds state) conds c hold h)

  -- what an operator gives
  operator_reached : (state : List ℕ) (op : ℕ) (o : Operator) (f : Fact) → AllReached parts from without state → slice_get parts.operators op ≡ Some o → all_hold state o.pre ≡ true → Source state o.effects f → has over_facts without f ≡ false → IsReached parts from without f
  operator_reached state op o f all at hold s out =
      let tests = operator-at parts op o formed at in
      let own = effect-tests parts.variables s.effect (list_all_get (is_effect parts.variables) o.effects s.place s.effect tests.effects s.at) in
      let there = list_all-append (is_fact parts.variables) o.pre s.effect.conds ∙ and_from _ _ tests.pre own.conds in
      let true_there = list_all-append (holds state) o.pre s.effect.conds ∙ and_from _ _ hold s.fires in
      given_reached f (o.pre ++ s.effect.conds) out (conds_reached state all (o.pre ++ s.effect.conds) there true_there) (λ r conds.
      let same : same_fact s.effect.fact f ≡ true = ap (λ g. same_fact g f) s.gives ∙ over_facts.itself f in
      or_left _ (list_any (rule_gives r f) parts.rules) (any_at (λ p. list_any (effect_gives r f p) p.effects) parts.operators op o at (any_at (effect_gives r f o) o.effects s.place s.effect s.at (and_from _ _ same conds))))

  -- settling

  is_layer_derived : (layer : Option ℕ) (k : ℕ) → is_layer layer k ≡ true → is_some layer ≡ true
  is_layer_derived None k h = h
  is_layer_derived (Some l) k h = refl

  round_reached : (layer : ℕ) (state : List ℕ) → AllReached parts from without state → AllReached parts from without (round_of parts layer state)
  round_reached layer state all = record {
    each = λ f there h. elim (written_source state (rules_of parts.variables layer parts.rules) f h) [
      | inl held ↦ all.each f there held
      | inr s ↦
          let r = rule_source parts layer state f s in
          let tests = rule-at parts r.place r.rule formed r.at in
          let derived : is_derived parts.variables f.var ≡ true = ap (λ (g : Fact). is_derived parts.variables g.var) (sym r.gives) ∙ is_layer_derived (layer_of parts.variables r.rule.head.var) layer r.of_layer in
          given_reached f r.rule.conds (outside f derived) (conds_reached state all r.rule.conds tests.conds r.holds) (λ p conds.
          let same : same_fact r.rule.head f ≡ true = ap (λ g. same_fact g f) r.gives ∙ over_facts.itself f in
          or_right (list_any (λ o. list_any (effect_gives p f o) o.effects) parts.operators) _ (any_at (rule_gives p f) parts.rules r.place r.rule r.at (and_from _ _ same conds)))
    ];
  }

  rounds_reached : (layer n : ℕ) (state : List ℕ) → AllReached parts from without state → AllReached parts from without (rounds_of parts layer n state)
  rounds_reached layer zero state all = all
  rounds_reached layer (suc n) state all = round_reached layer (rounds_of parts layer n state) (rounds_reached layer n state all)

  layers_reached : (layers : ℕ) (state : List ℕ) → AllReached parts from without state → AllReached parts from without (settled_below parts layers state)
  layers_reached zero state all = all
  layers_reached (suc layer) state all = rounds_reached layer (size_of parts.variables layer) (settled_below parts layer state) (layers_reached layer state all)

  default_reached : (f : Fact) → is_derived parts.variables f.var ≡ true → f.var < length parts.init → slice_index parts.init f.var ≡ f.val → IsReached parts from without f
  default_reached f derived lt is =
      let z : 0 + f.var ≡ f.var = omega arith in
      let there = has_place (is_derived parts.variables) 0 parts.init f.var lt (rw z derived) in
      let among : has over_facts (default_facts parts) f ≡ true = subst (λ g. has over_facts (default_facts parts) g ≡ true) (place_of parts.init f is) there in
      record { round = 0; reached = and_from _ _ (has_append over_facts (facts_of from) (default_facts parts) f ∙ or_right _ _ among) (not_from_false _ (outside f derived)) }

  reset_reached : (state : List ℕ) → AllReached parts from without state → AllReached parts from without (reset parts state)
  reset_reached state all = record {
    each = λ f there h. elim (reset_cases parts state f.var) [
      | inl same ↦ all.each f there (eq-eqb _ _ (sym same ∙ eqb-true _ _ h))
      | inr d ↦
          let init = init-state parts formed in
          let within = fact_within parts.variables f there in
          default_reached f d.0 (omega (arith, init.long, within)) (sym d.1 ∙ eqb-true _ _ h)
    ];
  }

  pub settled_reached : (state : List ℕ) → AllReached parts from without state → AllReached parts from without (settled parts state)
  settled_reached state all = layers_reached (top_of parts.variables) (reset parts state) (reset_reached state all)

  -- A fact that a step gives is reached, if it is of no derived variable and not left out.
  pub gained_reached : (state : List ℕ) (op : ℕ) (next : List ℕ) (f : Fact) → IsState parts.variables state → AllReached parts from without state → step parts state op ≡ Some next → is_fact parts.variables f ≡ true →
      holds next f ≡ true → is_derived parts.variables f.var ≡ false → has over_facts without f ≡ false → IsReached parts from without f
  gained_reached state op next f state_of all taken there h plain_var out =
      let by = step-by parts state op next taken in
      let long : length (written state by.operator.effects) ≡ length state = length-written state by.operator.effects in
      let within = fact_within parts.variables f there in
      let stays = settled-stays parts (written state by.operator.effects) f.var (omega (arith, long, within, state_of.long)) plain_var in
      let before : holds (written state by.operator.effects) f ≡ true = ap (λ v. nat_eq v f.val) (sym stays) ∙ (ap (λ (s : List ℕ). holds s f) (sym by.is) ∙ h) in
      elim (written_source state by.operator.effects f before) [
        | inl held ↦ all.each f there held
        | inr s ↦ operator_reached state op by.operator f all by.at by.holds s out
      ]

  -- A step leads from a state whose facts are reached to another, if none that is left out holds in it.
  pub step_reached : (state : List ℕ) (op : ℕ) (next : List ℕ) → IsState parts.variables state → AllReached parts from without state → step parts state op ≡ Some next → none_hold without next ≡ true → AllReached parts from without next
  step_reached state op next state_of all taken none =
      let by = step-by parts state op next taken in
      let before : List ℕ = written state by.operator.effects in
      let same : next ≡ settled parts before = by.is in
      subst (AllReached parts from without) (sym same) (settled_reached before (record {
        each = λ f there h. elim (written_source state by.operator.effects f h) [
          | inl held ↦ all.each f there held
          | inr s ↦ operator_reached state op by.operator f all by.at by.holds s (by_kind f there h (is_derived parts.variables f.var) refl)
        ];
      }))
    where
      by_kind : (f : Fact) → is_fact parts.variables f ≡ true → holds (written state (step-by parts state op next taken).operator.effects) f ≡ true → (b : Bool) → is_derived parts.variables f.var ≡ b → has over_facts without f ≡ false
      by_kind f there h true derived = outside f derived
      by_kind f there h false derived =
          let by = step-by parts state op next taken in
          let long : length (written state by.operator.effects) ≡ length state = length-written state by.operator.effects in
          let within = fact_within parts.variables f there in
          let stays = settled-stays parts (written state by.operator.effects) f.var (omega (arith, long, within, state_of.long)) derived in
          absent next none f (ap (λ (s : List ℕ). holds s f) by.is ∙ (ap (λ v. nat_eq v f.val) stays ∙ h))

  -- and so are the facts of the state itself
  pub start_reached : none_hold without from ≡ true → AllReached parts from without from
  start_reached none = record {
    each = λ f there h.
        let within = fact_within parts.variables f there in
        let at : f.var < length from = omega (arith, of.long, within) in
        let is : slice_index from f.var ≡ f.val = eqb-true _ _ h in
        let found = has_place (λ var. true) 0 from f.var at refl in
        let all_of : has over_facts (facts_of from) f ≡ true =
        ap (λ (ps : List (ℕ × ℕ)). has over_facts (map (λ p. fact_at p.0 p.1) ps) f) (sym (everything (enumerate_from 0 from)))
        ∙ subst (λ g. has over_facts (map (λ p. fact_at p.0 p.1) (filter (λ p. true) (enumerate_from 0 from))) g ≡ true) (place_of from f is) found in
        record { round = 0; reached = and_from _ _ (has_append over_facts (facts_of from) (default_facts parts) f ∙ or_left _ _ all_of) (not_from_false _ (absent from none f h)) };
  }

  -- the states of a run, while none that is left out holds in them
  first_of : (p : List ℕ → Bool) (state : List ℕ) (ops : List ℕ) (states : List (List ℕ)) → states_of parts state ops ≡ Some states → list_all p states ≡ true → p state ≡ true
  first_of p state [] states run all = (and_parts (p state) true (ap (list_all p) (same_Some _ _ run) ∙ all)).0
  first_of p state (op ∷ ops) states run all =
      elim (step parts state op) as (λ o. option_and_then (λ next. option_map (λ more. state ∷ more) (states_of parts next ops)) o ≡ Some states → p state ≡ true) [
        | None ↦ λ e. absurd (none-some states e)
        | Some next ↦ λ e. elim (states_of parts next ops) as (λ o. option_map (λ more. state ∷ more) o ≡ Some states → p state ≡ true) [
          | None ↦ λ e. absurd (none-some states e)
          | Some more ↦ λ e. (and_parts (p state) (list_all p more) (ap (list_all p) (same_Some _ _ e) ∙ all)).0
        ] e
      ] run

  states_reached : (ops : List ℕ) (state : List ℕ) (states : List (List ℕ)) → IsState parts.variables state → AllReached parts from without state → states_of parts state ops ≡ Some states → list_all (none_hold without) states ≡ true →
      (place : ℕ) (other : List ℕ) → slice_get states place ≡ Some other → AllReached parts from without other
  states_reached [] state states state_of all run none place other at = alone place (ap (λ (ss : List (List ℕ)). slice_get ss place) (same_Some _ _ run) ∙ at)
    where
      alone : (place : ℕ) → slice_get (state ∷ []) place ≡ Some other → AllReached parts from without other
      alone zero at = subst (AllReached parts from without) (same_Some state other at) all
      alone (suc place) at = absurd (none-some other at)
  states_reached (op ∷ ops) state states state_of all run none place other at =
      by_step (step parts state op) refl run
      (λ next taken more rest tests. states_reached ops next more (step-state parts state op next formed state_of taken)
      (step_reached state op next state_of all taken (first_of (none_hold without) next ops more rest tests)) rest tests)
    where
      by_rest : (next : List ℕ) → step parts state op ≡ Some next → (o : Option (List (List ℕ))) → states_of parts next ops ≡ o → option_map (λ more. state ∷ more) o ≡ Some states →
          ((next : List ℕ) → step parts state op ≡ Some next → (more : List (List ℕ)) → states_of parts next ops ≡ Some more → list_all (none_hold without) more ≡ true → (place : ℕ) (other : List ℕ) → slice_get more place ≡ Some other → AllReached parts from without other) →
          AllReached parts from without other
      by_rest next taken None rest e later = absurd (none-some states e)
      by_rest next taken (Some more) rest e later =
          let same = same_Some (state ∷ more) states e in
          by_place place (ap (λ (ss : List (List ℕ)). slice_get ss place) same ∙ at)
          (later next taken more rest (and_parts (none_hold without state) (list_all (none_hold without) more) (ap (list_all (none_hold without)) same ∙ none)).1)
        where
          by_place : (place : ℕ) → slice_get (state ∷ more) place ≡ Some other → ((place : ℕ) (other : List ℕ) → slice_get more place ≡ Some other → AllReached parts from without other) → AllReached parts from without other
          by_place zero at later = subst (AllReached parts from without) (same_Some state other at) all
          by_place (suc place) at later = later place other at

      by_step : (o : Option (List ℕ)) → step parts state op ≡ o → option_and_then (λ next. option_map (λ more. state ∷ more) (states_of parts next ops)) o ≡ Some states →
          ((next : List ℕ) → step parts state op ≡ Some next → (more : List (List ℕ)) → states_of parts next ops ≡ Some more → list_all (none_hold without) more ≡ true → (place : ℕ) (other : List ℕ) → slice_get more place ≡ Some other → AllReached parts from without other) →
          AllReached parts from without other
      by_step None taken e later = absurd (none-some states e)
      by_step (Some next) taken e later = by_rest next taken (states_of parts next ops) refl e later

  -- where operators lead, if what is left out never holds
  end_reached : (ops : List ℕ) (state last : List ℕ) → ((other : List ℕ) → none_hold without other ≡ true) → IsState parts.variables state → AllReached parts from without state → end_of parts state ops ≡ Some last → AllReached parts from without last
  end_reached [] state last never state_of all run = subst (AllReached parts from without) (same_Some state last run) all
  end_reached (op ∷ ops) state last never state_of all run =
      elim (step parts state op) as (λ o. step parts state op ≡ o → option_and_then (λ next. end_of parts next ops) o ≡ Some last → AllReached parts from without last) [
        | None ↦ λ taken e. absurd (none-some last e)
        | Some next ↦ λ taken e. end_reached ops next last never (step-state parts state op next formed state_of taken) (step_reached state op next state_of all taken (never next)) e
      ] refl run

  -- In a run from the state, if none of the facts that are left out holds in any of its states, all facts of its states are reached without them.
  pub run_reached : (ops : List ℕ) (states : List (List ℕ)) → states_of parts from ops ≡ Some states → list_all (none_hold without) states ≡ true →
      (place : ℕ) (state : List ℕ) → slice_get states place ≡ Some state → AllReached parts from without state
  run_reached ops states run none = states_reached ops from states of (start_reached (first_of (none_hold without) from ops states run none)) run none

-- No operators lead from a dead state to a goal.
pub no_operators_reach_the_goal : (parts : Parts) (state ops last : List ℕ) → IsWellFormed parts → IsState parts.variables state → IsDead parts state → end_of parts state ops ≡ Some last → is_goal parts last ≡ false
no_operators_reach_the_goal parts state ops last formed of dead run = false_from_ne_true _ (λ goal.
    let all = end_reached parts state [] formed of refl ops state last (λ other. refl) of (start_reached parts state [] formed of refl refl) run in
    let there = list_all_get (is_fact parts.variables) parts.goal dead.place dead.goal (goal-facts parts formed) dead.at in
    let r = all.each dead.goal there (list_all_get (holds last) parts.goal dead.place dead.goal goal dead.at) in
    both_ways _ (dead.unreached r.round) r.reached)
