-- Rules of a well-formed task give a derived variable the value that is not its default.
use Rattle.std.proofs.Common.{◌≡◌, ◌≢◌, ◌∙◌, sym, ap, refl, ℕ, zero, suc, ◌-◌, ◌<◌, ◌⊎◌, inl, inr, List, [], ◌∷◌, length, Bool, true, false, nat_eq, nat_lt, nat_le, ◌&&◌, ◌||◌, arith, slice_get, get_or, Option, Some, None, if◌then◌else◌}
use Rattle.std.specs.List.{list_all, list_any}
use Rattle.std.proofs.lemmas.Bool.Decides.{nat_tests}
use Rattle.std.proofs.lemmas.Option.{slice_get_within}
use Rattle.lama_num.proofs.ListLaws.{both, list_all_get}
use Rattle.sas_task.specs.declared.contents.Fact.{Fact}
use Rattle.sas_task.specs.declared.contents.Variable.{Variable}
use Rattle.sas_task.specs.declared.contents.Rule.{Rule}
use Rattle.sas_task.specs.declared.contents.Parts.{Parts}
use Rattle.sas_task.specs.WellFormed.{IsWellFormed, layer_of, range_of, is_fact, is_default, is_variable, is_layered, is_layered_below, is_short}
use Rattle.sas_task.specs.States.{is_layer}
use Rattle.sas_task.proofs.RunLaws.{init-state, IsRule, rule-at}
use Rattle.axiom_eval.specs.Layers.{is_of, gain}
use Rattle.axiom_eval.proofs.Rounds.{is_sound_cond, is_sound_rule, are_sound}

pub all_from_get : {X : Type 0} (p : X → Bool) (xs : List X) → ((i : ℕ) (x : X) → slice_get xs i ≡ Some x → p x ≡ true) → list_all p xs ≡ true
all_from_get p [] each = refl
all_from_get p (x ∷ xs) each =
    let here = each 0 x refl in
    rw here (all_from_get p xs (λ i y at. each (suc i) y at))

pub same_layer : (layer : Option ℕ) (k : ℕ) → is_layer layer k ≡ true → layer ≡ Some k
same_layer None k is = let c : false ≡ true = is in cc
same_layer (Some l) k is = let e : l ≡ k = grind (arith, nat_tests, is) in ap (λ (n : ℕ). Some n) e

pub layer_same : (layer : Option ℕ) (k : ℕ) → layer ≡ Some k → is_layer layer k ≡ true
layer_same layer k is = let e : nat_eq k k ≡ true = grind (arith, nat_tests) in rw is e

-- a derived variable has two values
range_is : (variables : List Variable) (var layer : ℕ) → list_all is_variable variables ≡ true → layer_of variables var ≡ Some layer → range_of variables var ≡ 2
range_is [] var layer are at = let c : ◌≡◌ {A = Option ℕ} None (Some layer) = at in cc
range_is (v ∷ variables) zero layer are at =
    let own = (both (is_variable v) (list_all is_variable variables) are).0 in
    let layered = both (is_layered v.layer (length v.values)) _ (both (is_short v.name) _ own).1 in
    let two = rw at at layered.0 in
    let test = (both (nat_le layer _) (nat_eq (length v.values) 2) two).1 in
    grind (arith, nat_tests, test)
range_is (v ∷ variables) (suc var) layer are at = range_is variables var layer (both (is_variable v) (list_all is_variable variables) are).1 at

gain_of : (parts : Parts) (fact : Fact) (layer : ℕ) → IsWellFormed parts → is_fact parts.variables fact ≡ true → layer_of parts.variables fact.var ≡ Some layer → is_default parts.init fact ≡ false → fact.val ≡ gain parts fact.var
gain_of parts fact layer formed is at other =
    let two = range_is parts.variables fact.var layer formed.variables at in
    let below = rw two at is in
    let within = var_within parts.variables fact.var layer at in
    let state = (init-state parts formed).in_range fact.var within in
    let small : get_or parts.init fact.var 0 < 2 = rw two at state in
    grind (arith, nat_tests, below, other, small)
  where
    var_within : (variables : List Variable) (var layer : ℕ) → layer_of variables var ≡ Some layer → var < length variables
    var_within [] var layer at = let c : ◌≡◌ {A = Option ℕ} None (Some layer) = at in cc
    var_within (v ∷ variables) zero layer at = omega arith
    var_within (v ∷ variables) (suc var) layer at = let rest = var_within variables var layer at in omega arith

conds_sound : (parts : Parts) (layer : ℕ) (conds : List Fact) → IsWellFormed parts → list_all (is_fact parts.variables) conds ≡ true → list_all (is_layered_below parts.variables parts.init layer) conds ≡ true → list_all (is_sound_cond parts layer) conds ≡ true
conds_sound parts layer conds formed facts below = all_from_get (is_sound_cond parts layer) conds (λ i c at. by c (is_of parts layer c.var) refl (list_all_get (is_fact parts.variables) conds i c facts at) (list_all_get (is_layered_below parts.variables parts.init layer) conds i c below at))
  where
    not_default : (c : Fact) (d : Bool) → is_default parts.init c ≡ d → layer_of parts.variables c.var ≡ Some layer → is_layered_below parts.variables parts.init layer c ≡ true → d ≡ false
    not_default c true is at low = let less : nat_lt layer layer ≡ true = rw (at, is) at low in absurd (grind (arith, nat_tests, less))
    not_default c false is at low = refl

    by : (c : Fact) (b : Bool) → is_of parts layer c.var ≡ b → is_fact parts.variables c ≡ true → is_layered_below parts.variables parts.init layer c ≡ true → is_sound_cond parts layer c ≡ true
    by c true own is low =
        let at = same_layer (layer_of parts.variables c.var) layer own in
        let other = not_default c (is_default parts.init c) refl at low in
        let gains = gain_of parts c layer formed is at other in
        let test : nat_eq c.val (gain parts c.var) ≡ true = grind (arith, nat_tests, gains) in
        rw own test
    by c false own is low = rw own refl

pub rule_sound : (parts : Parts) (layer : ℕ) (rule : Rule) → IsWellFormed parts → IsRule parts rule → is_sound_rule parts layer rule ≡ true
rule_sound parts layer rule formed is = by (is_of parts layer rule.head.var) refl
  where
    by : (b : Bool) → is_of parts layer rule.head.var ≡ b → is_sound_rule parts layer rule ≡ true
    by true own =
        let at = same_layer (layer_of parts.variables rule.head.var) layer own in
        let same : Some is.layer ≡ Some layer = sym is.derived ∙ at in
        let e : is.layer ≡ layer = cc in
        let below = rw e at is.below in
        let gains = gain_of parts rule.head layer formed is.head at is.gives in
        let test : nat_eq rule.head.val (gain parts rule.head.var) ≡ true = grind (arith, nat_tests, gains) in
        rw (own, test) (conds_sound parts layer rule.conds formed is.conds below)
    by false own = rw own refl

pub rules_sound : (parts : Parts) (layer : ℕ) → IsWellFormed parts → are_sound parts layer parts.rules ≡ true
rules_sound parts layer formed = all_from_get (is_sound_rule parts layer) parts.rules (λ i rule at. rule_sound parts layer rule formed (rule-at parts i rule formed at))

-- what a rule of a layer gives
pub head_gains : (parts : Parts) (rule : Rule) (layer : ℕ) → IsWellFormed parts → IsRule parts rule → layer_of parts.variables rule.head.var ≡ Some layer → rule.head.val ≡ gain parts rule.head.var
head_gains parts rule layer formed is at = gain_of parts rule.head layer formed is.head at is.gives
