-- Layer after layer, leaving out those without rules.
use Rattle.std.proofs.Common.{◌≡◌, ◌≢◌, ◌∙◌, sym, ap, refl, subst, ℕ, zero, suc, ◌+◌, ◌-◌, ◌<◌, ◌≤◌, List, [], ◌∷◌, length, map, max, Bool, true, false, nat_eq, nat_le, nat_lt, ◌||◌, arith, Option, Some, None}
use Rattle.std.specs.Prelude.{is_some}
use Rattle.std.specs.List.{list_any, enumerate_from}
use Rattle.std.proofs.lemmas.Bool.Decides.{nat_tests}
use Rattle.sas_task.specs.declared.contents.Variable.{Variable}
use Rattle.sas_task.specs.declared.contents.Rule.{Rule}
use Rattle.sas_task.specs.declared.contents.Parts.{Parts}
use Rattle.sas_task.specs.WellFormed.{layer_of, is_derived}
use Rattle.sas_task.specs.States.{written, rules_of, round_of, rounds_of, size_of, settled_below, settled, above, top_of, reset, default_or}
use Rattle.axiom_eval.specs.Layers.{is_of}
use Rattle.axiom_eval.specs.Rules.{layer_at, AreRules}
use Rattle.axiom_eval.proofs.Written.{written_none}
use Rattle.axiom_eval.specs.declared.tables.Rules.{Rules}
use Rattle.axiom_eval.proofs.Sound.{same_layer}
use Rattle.axiom_eval.proofs.TriedRules.{any_found, IsFound}

-- a layer without rules
no_rules : (parts : Parts) (layer : ℕ) (rules : List Rule) → list_any (λ r. is_of parts layer r.head.var) rules ≡ false → rules_of parts.variables layer rules ≡ []
no_rules parts layer [] none = refl
no_rules parts layer (rule ∷ rules) none = by (is_of parts layer rule.head.var) refl (λ more. no_rules parts layer rules more)
  where
    by : (b : Bool) → is_of parts layer rule.head.var ≡ b → (list_any (λ r. is_of parts layer r.head.var) rules ≡ false → rules_of parts.variables layer rules ≡ []) → rules_of parts.variables layer (rule ∷ rules) ≡ []
    by true is rest = let k : true ≡ false = rw is at none in cc
    by false is rest = rw is (rest (rw is at none))

rounds_none : (parts : Parts) (layer n : ℕ) (state : List ℕ) → rules_of parts.variables layer parts.rules ≡ [] → rounds_of parts layer n state ≡ state
rounds_none parts layer zero state none = refl
rounds_none parts layer (suc n) state none =
    let before = rounds_none parts layer n state none in
    ap (round_of parts layer) before ∙ (ap (written state) none ∙ sym (written_none state))

empty_layer : (parts : Parts) (rules : Rules) (layer n : ℕ) (state : List ℕ) → AreRules parts rules → ((place : ℕ) → place < length rules.heads → layer_at rules place ≢ layer) → rounds_of parts layer n state ≡ state
empty_layer parts rules layer n state are none = rounds_none parts layer n state (no_rules parts layer parts.rules (by (list_any (λ r. is_of parts layer r.head.var) parts.rules) refl))
  where
    absent : IsFound (λ r. is_of parts layer r.head.var) parts.rules → ⊥
    absent found =
        let has = are.complete found.place found.item found.at in
        let same : Some (layer_at rules has.place) ≡ Some layer = sym has.stands.layer ∙ same_layer (layer_of parts.variables found.item.head.var) layer found.is in
        none has.place has.within (let e : layer_at rules has.place ≡ layer = cc in e)

    by : (b : Bool) → list_any (λ r. is_of parts layer r.head.var) parts.rules ≡ b → b ≡ false
    by true is = absurd (absent (any_found (λ r. is_of parts layer r.head.var) parts.rules is))
    by false is = refl

skip : (parts : Parts) (rules : Rules) (low more : ℕ) (state : List ℕ) → AreRules parts rules → ((layer place : ℕ) → low ≤ layer → layer < low + more → place < length rules.heads → layer_at rules place ≢ layer) → settled_below parts (low + more) state ≡ settled_below parts low state
skip parts rules low zero state are none = let e : low + 0 ≡ low = omega arith in ap (λ (n : ℕ). settled_below parts n state) e
skip parts rules low (suc more) state are none =
    let e : low + suc more ≡ suc (low + more) = omega arith in
    let before = skip parts rules low more state are (λ layer place a b. none layer place a (omega (arith, b))) in
    ap (λ (n : ℕ). settled_below parts n state) e
    ∙ (empty_layer parts rules (low + more) (size_of parts.variables (low + more)) (settled_below parts (low + more) state) are (λ place lt. none (low + more) place (omega arith) (omega arith) lt) ∙ before)

-- the layers of the first places are settled
pub record IsSettledTo (parts : Parts) (rules : Rules) (place : ℕ) (start values : List ℕ) : Type 0 where
  pub apart : (low high : ℕ) → low < place → place ≤ high → high < length rules.heads → layer_at rules low < layer_at rules high
  pub below : (layer : ℕ) → ((low : ℕ) → low < place → low < length rules.heads → layer_at rules low < layer) → ((high : ℕ) → place ≤ high → high < length rules.heads → layer ≤ layer_at rules high) → values ≡ settled_below parts layer start

pub settled_to_none : (parts : Parts) (rules : Rules) (start : List ℕ) → AreRules parts rules → IsSettledTo parts rules 0 start start
settled_to_none parts rules start are = record {
  apart = λ low high less. absurd (omega arith);
  below = λ layer lower upper. sym (by layer upper);
}
  where
    by : (layer : ℕ) → ((high : ℕ) → 0 ≤ high → high < length rules.heads → layer ≤ layer_at rules high) → settled_below parts layer start ≡ start
    by layer upper =
        let e : layer ≡ 0 + layer = omega arith in
        ap (λ (n : ℕ). settled_below parts n start) e ∙ skip parts rules 0 layer start are (λ k place a b lt same. absurd (let up = upper place (omega arith) lt in omega (arith, up, b, same)))

-- one layer more, whose rules end at a place
pub settled_to_more : (parts : Parts) (rules : Rules) (place end : ℕ) (start values now : List ℕ) → AreRules parts rules → place < length rules.heads → place < end → end ≤ length rules.heads → IsSettledTo parts rules place start values →
    now ≡ rounds_of parts (layer_at rules place) (size_of parts.variables (layer_at rules place)) values → ((p : ℕ) → place ≤ p → p < end → layer_at rules p ≡ layer_at rules place) → (end < length rules.heads → layer_at rules place < layer_at rules end) → IsSettledTo parts rules end start now
settled_to_more parts rules place end start values now are lt onwards within so is those next = record {
  apart = λ low high less le here. apart_at low high less le here (nat_lt low place) refl;
  below = λ layer lower upper. below_at layer lower upper;
}
  where
    above_end : (high : ℕ) → end ≤ high → high < length rules.heads → layer_at rules place < layer_at rules high
    above_end high le here =
        let up = are.upwards end high le here in
        let first = next (omega (arith, le, here)) in
        omega (arith, up, first)

    apart_at : (low high : ℕ) → low < end → end ≤ high → high < length rules.heads → (b : Bool) → nat_lt low place ≡ b → layer_at rules low < layer_at rules high
    apart_at low high less le here true early = so.apart low high (grind (arith, nat_tests, early)) (omega (arith, le, onwards)) here
    apart_at low high less le here false late =
        let same = those low (grind (arith, nat_tests, late)) less in
        let over = above_end high le here in
        omega (arith, same, over)

    before : values ≡ settled_below parts (layer_at rules place) start
    before = so.below (layer_at rules place) (λ low less here. so.apart low place less (omega arith) lt) (λ high le here. are.upwards place high le here)

    after : now ≡ settled_below parts (suc (layer_at rules place)) start
    after = is ∙ ap (rounds_of parts (layer_at rules place) (size_of parts.variables (layer_at rules place))) before

    low_at : (p : ℕ) → p < end → p < length rules.heads → (b : Bool) → nat_lt p place ≡ b → layer_at rules p ≤ layer_at rules place
    low_at p less here true early = let under = so.apart p place (grind (arith, nat_tests, early)) (omega arith) lt in omega (arith, under)
    low_at p less here false late = let same = those p (grind (arith, nat_tests, late)) less in omega (arith, same)

    below_at : (layer : ℕ) → ((low : ℕ) → low < end → low < length rules.heads → layer_at rules low < layer) → ((high : ℕ) → end ≤ high → high < length rules.heads → layer ≤ layer_at rules high) → now ≡ settled_below parts layer start
    below_at layer lower upper =
        let less = lower place onwards lt in
        let e : suc (layer_at rules place) + (layer - suc (layer_at rules place)) ≡ layer = omega (arith, less) in
        after ∙ (sym (skip parts rules (suc (layer_at rules place)) (layer - suc (layer_at rules place)) start are (λ k p a b here same. absurd (by k p a (omega (arith, b, e)) here same (nat_lt p end) refl))) ∙ ap (λ (n : ℕ). settled_below parts n start) e)
      where
        by : (k p : ℕ) → suc (layer_at rules place) ≤ k → k < layer → p < length rules.heads → layer_at rules p ≡ k → (b : Bool) → nat_lt p end ≡ b → ⊥
        by k p a b here same true early = let low = low_at p (grind (arith, nat_tests, early)) here (nat_lt p place) refl in omega (arith, low, a, same)
        by k p a b here same false late = let high = upper p (grind (arith, nat_tests, late)) here in omega (arith, high, b, same)

layer_below_top : (variables : List Variable) (var layer : ℕ) → layer_of variables var ≡ Some layer → layer < top_of variables
layer_below_top [] var layer at = let c : ◌≡◌ {A = Option ℕ} None (Some layer) = at in cc
layer_below_top (v ∷ variables) zero layer at = let here : above v.layer ≡ layer + 1 = ap above at in omega (arith, here)
layer_below_top (v ∷ variables) (suc var) layer at = let rest = layer_below_top variables var layer at in omega (arith, rest)

pub settled_to_all : (parts : Parts) (rules : Rules) (place : ℕ) (start values : List ℕ) → AreRules parts rules → length rules.heads ≤ place → IsSettledTo parts rules place start values → values ≡ settled_below parts (top_of parts.variables) start
settled_to_all parts rules place start values are past so = so.below (top_of parts.variables) (λ low less here. top_at low here) (λ high le here. absurd (omega (arith, le, here, past)))
  where
    top_at : (low : ℕ) → low < length rules.heads → layer_at rules low < top_of parts.variables
    top_at low here =
        let has = are.sound low here in
        layer_below_top parts.variables has.rule.head.var (layer_at rules low) has.stands.layer

-- a task without derived variables
no_top : (variables : List Variable) → ((var : ℕ) → is_derived variables var ≡ false) → top_of variables ≡ 0
no_top [] none = refl
no_top (v ∷ variables) none =
    let rest = no_top variables (λ var. none (suc var)) in
    let here : above v.layer ≡ 0 = no_layer v.layer (none 0) in
    omega (arith, rest, here)
  where
    no_layer : (layer : Option ℕ) → is_some layer ≡ false → above layer ≡ 0
    no_layer None is = refl
    no_layer (Some l) is = let k : true ≡ false = is in cc

reset_none : (parts : Parts) (k : ℕ) (xs : List ℕ) → ((var : ℕ) → is_derived parts.variables var ≡ false) → map (λ p. default_or parts p.0 p.1) (enumerate_from k xs) ≡ xs
reset_none parts k [] none = refl
reset_none parts k (x ∷ xs) none =
    let own : default_or parts k x ≡ x = rw (none k) refl in
    let rest = reset_none parts (k + 1) xs none in
    cc

pub settled_none : (parts : Parts) (state : List ℕ) → ((var : ℕ) → is_derived parts.variables var ≡ false) → state ≡ settled parts state
settled_none parts state none = sym (ap (λ n. settled_below parts n (reset parts state)) (no_top parts.variables none) ∙ reset_none parts 0 state none)
