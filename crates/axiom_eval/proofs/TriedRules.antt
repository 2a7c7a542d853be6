-- Rules of a layer that are tried, one after the other.
use Rattle.std.proofs.Common.{◌≡◌, ◌≢◌, ◌∙◌, sym, ap, refl, subst, ℕ, zero, suc, ◌+◌, ◌-◌, ◌<◌, ◌≤◌, ◌⊎◌, inl, inr, List, [], ◌∷◌, ◌++◌, length, length-append, drop, Bool, true, false, not, nat_eq, nat_lt, nat_le, ◌&&◌, ◌||◌, IsTrue, arith, slice_get, slice_set, get_or, get_or-set_same, get_or-set_other, Option, Some, None, if◌then◌else◌}
use Rattle.std.specs.List.{list_all, list_any}
use Rattle.std.proofs.lemmas.Bool.Decides.{nat_tests}
use Rattle.std.proofs.lemmas.List.{length-set, drop_more}
use Rattle.std.proofs.lemmas.Option.{get_or_from_slice_get}
use Rattle.lama_num.specs.Rows.{row_at}
use Rattle.std.proofs.lemmas.List.Folds.{list_any-append, list_all-append}
use Rattle.lama_num.proofs.ListLaws.{both}
use Rattle.sas_task.specs.declared.contents.Fact.{Fact}
use Rattle.sas_task.specs.declared.contents.Rule.{Rule}
use Rattle.sas_task.specs.declared.contents.Parts.{Parts}
use Rattle.sas_task.specs.WellFormed.{IsWellFormed, layer_of, starts}
use Rattle.sas_task.specs.States.{is_layer, holds, all_hold, round_of, rounds_of, size_of}
use Rattle.sas_task.proofs.RunLaws.{init-state, rule-at}
use Rattle.axiom_eval.specs.Layers.{is_of, gain, Below, open_among, open_of}
use Rattle.axiom_eval.proofs.FiringLaws.{fires_on, some_fires}
use Rattle.axiom_eval.specs.Rules.{layer_at, given_at, conds_at, head_at, is_on, is_due, is_watching, AreWithin, StandsAt, HasRule, HasPlace, AreRules}
use Rattle.axiom_eval.specs.Settling.{is_awaited, IsHeard, IsHearing, IsBetween}
use Rattle.axiom_eval.specs.declared.tables.Head.{Head}
use Rattle.axiom_eval.specs.declared.tables.Rules.{Rules}
use Rattle.axiom_eval.proofs.Rounds.{is_sound_rule, are_sound, IsClosed, closed_is_rounds, rounds_grow, below_same, fire_grows, fire_reached, open_le_size, size_le_length, open_less}
use Rattle.axiom_eval.proofs.Sound.{same_layer, layer_same, rules_sound, head_gains}
use Rattle.std.proofs.lemmas.Bool.{eqb-true as same_nat}

pub any_get : {X : Type 0} (p : X → Bool) (xs : List X) (i : ℕ) (x : X) → slice_get xs i ≡ Some x → p x ≡ true → list_any p xs ≡ true
any_get p [] i x at is = let k : ◌≡◌ {A = _} (slice_get [] i) (Some x) = at in cc
any_get p (y ∷ xs) zero x at is = let k : Some y ≡ Some x = at in let e : y ≡ x = cc in let here : p y ≡ true = ap p e ∙ is in rw here refl
any_get p (y ∷ xs) (suc i) x at is = or_yes (p y) (any_get p xs i x at is)
  where
    or_yes : (a : Bool) → list_any p xs ≡ true → (a || list_any p xs) ≡ true
    or_yes true b = refl
    or_yes false b = b

pub record IsFound {X : Type 0} (p : X → Bool) (xs : List X) : Type 0 where
  pub place : ℕ
  pub item : X
  pub at : slice_get xs place ≡ Some item
  pub is : p item ≡ true

pub any_found : {X : Type 0} (p : X → Bool) (xs : List X) → list_any p xs ≡ true → IsFound p xs
any_found p [] any = let k : false ≡ true = any in cc
any_found p (x ∷ xs) any = by (p x) refl (λ more. any_found p xs more)
  where
    by : (b : Bool) → p x ≡ b → (list_any p xs ≡ true → IsFound p xs) → IsFound p (x ∷ xs)
    by true is rest = record { place = 0; item = x; at = refl; is = is }
    by false is rest = let found = rest (rw is at any) in record { place = suc found.place; item = found.item; at = found.at; is = found.is }

-- what the rule at a place gives
pub record Fits (parts : Parts) (rules : Rules) (place : ℕ) : Type 0 where
  pub own : is_of parts (layer_at rules place) (given_at rules place).var ≡ true
  pub gains : (given_at rules place).val ≡ gain parts (given_at rules place).var

pub fits_at : (parts : Parts) (rules : Rules) (place : ℕ) → IsWellFormed parts → AreRules parts rules → place < length rules.heads → Fits parts rules place
fits_at parts rules place formed are lt =
    let has = are.sound place lt in
    let is = rule-at parts has.number has.rule formed has.at in
    record {
      own = rw has.stands.given (layer_same (layer_of parts.variables has.rule.head.var) (layer_at rules place) has.stands.layer);
      gains = rw has.stands.given (head_gains parts has.rule (layer_at rules place) formed is has.stands.layer);
    }

pub var_within : (n : ℕ) (rules : Rules) (place : ℕ) → AreWithin n rules → place < length rules.heads → (given_at rules place).var < n
var_within n rules place within lt = by rules.heads place within.heads_within lt
  where
    by : (heads : List Head) (i : ℕ) → list_all (λ h. nat_lt h.fact.var n) heads ≡ true → i < length heads → (head_at heads i).fact.var < n
    by [] i all lt = absurd (omega arith)
    by (h ∷ heads) zero all lt = let here = (both (nat_lt h.fact.var n) (list_all (λ x. nat_lt x.fact.var n) heads) all).0 in grind (arith, nat_tests, here)
    by (h ∷ heads) (suc i) all lt = by heads i (both (nat_lt h.fact.var n) (list_all (λ x. nat_lt x.fact.var n) heads) all).1 (omega arith)

-- the rule at a place fires where its conditions hold
fires_at : (parts : Parts) (rules : Rules) (layer place : ℕ) (values : List ℕ) → AreRules parts rules → place < length rules.heads → layer_at rules place ≡ layer → all_hold values (conds_at rules place) ≡ true → some_fires parts layer values (given_at rules place).var parts.rules ≡ true
fires_at parts rules layer place values are lt at hold =
    let has = are.sound place lt in
    let own : is_of parts layer has.rule.head.var ≡ true = rw (← at) (layer_same (layer_of parts.variables has.rule.head.var) (layer_at rules place) has.stands.layer) in
    let held : all_hold values has.rule.conds ≡ true = rw has.stands.conds at hold in
    let same : nat_eq has.rule.head.var has.rule.head.var ≡ true = grind (arith, nat_tests) in
    let fires : fires_on parts layer values has.rule.head.var has.rule ≡ true = rw (own, held, same) refl in
    rw has.stands.given (any_get (fires_on parts layer values has.rule.head.var) parts.rules has.number has.rule has.at fires)

-- a write to another variable leaves conditions as they were
hold_still : (values : List ℕ) (var value : ℕ) (conds : List Fact) → is_on conds var ≡ false → all_hold (slice_set values var value) conds ≡ all_hold values conds
hold_still values var value [] off = refl
hold_still values var value (c ∷ conds) off = by (nat_eq c.var var) refl (λ more. hold_still values var value conds more)
  where
    by : (b : Bool) → nat_eq c.var var ≡ b → (is_on conds var ≡ false → all_hold (slice_set values var value) conds ≡ all_hold values conds) → all_hold (slice_set values var value) (c ∷ conds) ≡ all_hold values (c ∷ conds)
    by true is rest = let k : true ≡ false = rw is at off in cc
    by false is rest =
        let ne : c.var ≢ var = grind (arith, nat_tests, is) in
        let same : get_or (slice_set values var value) c.var 0 ≡ get_or values c.var 0 = get_or-set_other values var c.var value 0 ne in
        rw (same, rest (rw is at off)) refl

-- what is known of a rule that is due
due_holds : (rules : Rules) (place : ℕ) (values : List ℕ) → is_due rules place values ≡ true → (get_or values (given_at rules place).var 0 ≢ (given_at rules place).val) × (all_hold values (conds_at rules place) ≡ true)
due_holds rules place values due =
    let split = both (not (nat_eq (get_or values (given_at rules place).var 0) (given_at rules place).val)) (all_hold values (conds_at rules place)) due in
    let ne : get_or values (given_at rules place).var 0 ≢ (given_at rules place).val = grind (arith, nat_tests, split.0) in
    (ne, split.1)

not_due : (rules : Rules) (place : ℕ) (values : List ℕ) → is_due rules place values ≡ false → all_hold values (conds_at rules place) ≡ true → get_or values (given_at rules place).var 0 ≡ (given_at rules place).val
not_due rules place values due hold =
    let test : (not (nat_eq (get_or values (given_at rules place).var 0) (given_at rules place).val) && true) ≡ false = rw hold at due in
    grind (arith, nat_tests, test)

-- a rule that is due lowers the number of those that are open
due_less : (parts : Parts) (rules : Rules) (layer place : ℕ) (values : List ℕ) → IsWellFormed parts → AreRules parts rules → place < length rules.heads → layer_at rules place ≡ layer → length values ≡ length parts.variables → is_due rules place values ≡ true →
    open_of parts layer (slice_set values (given_at rules place).var (gain parts (given_at rules place).var)) + 1 ≡ open_of parts layer values
due_less parts rules layer place values formed are lt at long due =
    let fits = fits_at parts rules place formed are lt in
    let ne : get_or values (given_at rules place).var 0 ≢ gain parts (given_at rules place).var = rw fits.gains at (due_holds rules place values due).0 in
    let within = var_within (length parts.variables) rules place are.within lt in
    let own : is_of parts layer (given_at rules place).var ≡ true = rw at at fits.own in
    open_less layer parts.variables parts.init values (given_at rules place).var (init-state parts formed).long long (omega (arith, within)) own ne

pub due_room : (parts : Parts) (rules : Rules) (layer place room : ℕ) (values waiting : List ℕ) (later : ℕ → Bool) → IsWellFormed parts → AreRules parts rules → place < length rules.heads → layer_at rules place ≡ layer → IsHearing parts rules layer values waiting later →
    length parts.variables ≤ room → is_due rules place values ≡ true → length waiting < room
due_room parts rules layer place room values waiting later formed are lt at hearing much due =
    let less = due_less parts rules layer place values formed are lt at hearing.long due in
    omega (arith, less, hearing.room)

-- a rule was tried
pub record Tried (parts : Parts) (rules : Rules) (layer : ℕ) (values waiting now more : List ℕ) (later : ℕ → Bool) : Type 0 where
  pub hearing : IsHearing parts rules layer now more later
  pub left : length more + open_of parts layer now ≡ length waiting + open_of parts layer values
  pub between : (start : List ℕ) → IsBetween parts layer start values → IsBetween parts layer start now

awaited_more : (waiting : List ℕ) (var : ℕ) (facts : List Fact) → is_awaited waiting facts ≡ true → is_awaited (waiting ++ var ∷ []) facts ≡ true
awaited_more waiting var facts is = rw (list_any-append (is_on facts) waiting (var ∷ []), is) refl

awaited_last : (waiting : List ℕ) (var : ℕ) (facts : List Fact) → is_on facts var ≡ true → is_awaited (waiting ++ var ∷ []) facts ≡ true
awaited_last waiting var facts is = rw (list_any-append (is_on facts) waiting (var ∷ []), is) (or_true (is_awaited waiting facts))
  where
    or_true : (a : Bool) → (a || true) ≡ true
    or_true true = refl
    or_true false = refl

-- what was heard stays so where a rule that is due gives its head
heard_due : (parts : Parts) (rules : Rules) (layer place : ℕ) (values waiting now more : List ℕ) (later after : ℕ → Bool) → IsWellFormed parts → AreRules parts rules → place < length rules.heads → layer_at rules place ≡ layer → IsHearing parts rules layer values waiting later →
    ((p : ℕ) → later p ≡ true → (after p ≡ true) ⊎ (p ≡ place)) → now ≡ slice_set values (given_at rules place).var (gain parts (given_at rules place).var) → more ≡ waiting ++ (given_at rules place).var ∷ [] →
    (p : ℕ) → p < length rules.heads → layer_at rules p ≡ layer → all_hold now (conds_at rules p) ≡ true → IsHeard rules now more after p
heard_due parts rules layer place values waiting now more later after formed are lt at hearing drops now_is more_is p ltp atp hold = by (is_on (conds_at rules p) (given_at rules place).var) refl
  where
    same_head : (given_at rules p).var ≡ (given_at rules place).var → get_or now (given_at rules p).var 0 ≡ (given_at rules p).val
    same_head same =
        let within = var_within (length parts.variables) rules place are.within lt in
        let in_values : (given_at rules place).var < length values = omega (arith, within, hearing.long) in
        let now_at : get_or now (given_at rules p).var 0 ≡ gain parts (given_at rules place).var = ap (λ (vs : List ℕ). get_or vs (given_at rules p).var 0) now_is ∙ (ap (λ (n : ℕ). get_or (slice_set values (given_at rules place).var (gain parts (given_at rules place).var)) n 0) same ∙ get_or-set_same values (given_at rules place).var (gain parts (given_at rules place).var) 0 in_values) in
        now_at ∙ (ap (gain parts) (sym same) ∙ sym (fits_at parts rules p formed are ltp).gains)

    other_head : (b : Bool) → nat_eq (given_at rules p).var (given_at rules place).var ≡ b → get_or values (given_at rules p).var 0 ≡ (given_at rules p).val → get_or now (given_at rules p).var 0 ≡ (given_at rules p).val
    other_head true is was = same_head (same_nat (given_at rules p).var (given_at rules place).var is)
    other_head false is was =
        let ne : (given_at rules p).var ≢ (given_at rules place).var = grind (arith, nat_tests, is) in
        ap (λ (vs : List ℕ). get_or vs (given_at rules p).var 0) now_is ∙ (get_or-set_other values (given_at rules place).var (given_at rules p).var (gain parts (given_at rules place).var) 0 ne ∙ was)

    on : IsHeard rules values waiting later p → IsHeard rules now more after p
    on (inl was) = inl (other_head (nat_eq (given_at rules p).var (given_at rules place).var) refl was)
    on (inr (inl awaited)) = inr (inl (rw more_is (awaited_more waiting (given_at rules place).var (conds_at rules p) awaited)))
    on (inr (inr late)) = tried_there (drops p late)
      where
        tried_there : (after p ≡ true) ⊎ (p ≡ place) → IsHeard rules now more after p
        tried_there (inl still) = inr (inr still)
        tried_there (inr same) = inl (same_head (ap (λ (n : ℕ). (given_at rules n).var) same))

    by : (b : Bool) → is_on (conds_at rules p) (given_at rules place).var ≡ b → IsHeard rules now more after p
    by true is = inr (inl (rw more_is (awaited_last waiting (given_at rules place).var (conds_at rules p) is)))
    by false is =
        let held : all_hold (slice_set values (given_at rules place).var (gain parts (given_at rules place).var)) (conds_at rules p) ≡ true = rw now_is at hold in
        on (hearing.heard p ltp atp (sym (hold_still values (given_at rules place).var (gain parts (given_at rules place).var) (conds_at rules p) is) ∙ held))

tried_due : (parts : Parts) (rules : Rules) (layer place : ℕ) (values waiting now more : List ℕ) (later after : ℕ → Bool) → IsWellFormed parts → AreRules parts rules → place < length rules.heads → layer_at rules place ≡ layer → IsHearing parts rules layer values waiting later →
    ((p : ℕ) → later p ≡ true → (after p ≡ true) ⊎ (p ≡ place)) → is_due rules place values ≡ true →
    now ≡ slice_set values (given_at rules place).var (gain parts (given_at rules place).var) → more ≡ waiting ++ (given_at rules place).var ∷ [] → Tried parts rules layer values waiting now more after
tried_due parts rules layer place values waiting now more later after formed are lt at hearing drops due now_is more_is =
    let within = var_within (length parts.variables) rules place are.within lt in
    let in_values : (given_at rules place).var < length values = omega (arith, within, hearing.long) in
    let own : is_of parts layer (given_at rules place).var ≡ true = rw at at (fits_at parts rules place formed are lt).own in
    let less = due_less parts rules layer place values formed are lt at hearing.long due in
    let open_is : open_of parts layer now ≡ open_of parts layer (slice_set values (given_at rules place).var (gain parts (given_at rules place).var)) = ap (open_of parts layer) now_is in
    let grown : length more ≡ length waiting + 1 = ap length more_is ∙ length-append waiting ((given_at rules place).var ∷ []) in
    let fires = fires_at parts rules layer place values are lt at (due_holds rules place values due).1 in
    record {
      hearing = record {
        long = ap length now_is ∙ (length-set values (given_at rules place).var (gain parts (given_at rules place).var) ∙ hearing.long);
        room = omega (arith, less, hearing.room, open_is, grown);
        known = (let test : nat_lt (given_at rules place).var (length parts.variables) ≡ true = grind (arith, nat_tests, within) in
            let before = hearing.known in
            rw (more_is, list_all-append (λ v. nat_lt v (length parts.variables) && is_of parts layer v) waiting ((given_at rules place).var ∷ []), before, test, own) refl);
        heard = heard_due parts rules layer place values waiting now more later after formed are lt at hearing drops now_is more_is;
      };
      left = omega (arith, less, open_is, grown);
      between = λ start between. record {
        grown = rw now_is (fire_grows parts layer start values (given_at rules place).var own in_values between.grown);
        reached = (let most = open_le_size layer parts.variables parts.init values in
            let next : size_of parts.variables layer - open_of parts layer now ≡ suc (size_of parts.variables layer - open_of parts layer values) = omega (arith, less, most, open_is) in
            let reach = fire_reached parts layer values (rounds_of parts layer (size_of parts.variables layer - open_of parts layer values) start) (given_at rules place).var (rules_sound parts layer formed) fires in_values between.reached in
            let at_now : Below parts layer now (rounds_of parts layer (suc (size_of parts.variables layer - open_of parts layer values)) start) = rw now_is reach in
            subst (λ (n : ℕ). Below parts layer now (rounds_of parts layer n start)) (sym next) at_now);
      };
    }

tried_still : (parts : Parts) (rules : Rules) (layer place : ℕ) (values waiting now more : List ℕ) (later after : ℕ → Bool) → IsHearing parts rules layer values waiting later →
    ((p : ℕ) → later p ≡ true → (after p ≡ true) ⊎ (p ≡ place)) → is_due rules place values ≡ false → now ≡ values → more ≡ waiting → Tried parts rules layer values waiting now more after
tried_still parts rules layer place values waiting now more later after hearing drops due now_is more_is =
    subst (λ (vs : List ℕ). Tried parts rules layer values waiting vs more after) (sym now_is) (subst (λ (ws : List ℕ). Tried parts rules layer values waiting values ws after) (sym more_is) (record {
      hearing = record { long = hearing.long; room = hearing.room; known = hearing.known; heard = λ p lt at hold. on p hold (hearing.heard p lt at hold) };
      left = refl;
      between = λ start between. between;
    }))
  where
    tried_there : (p : ℕ) → all_hold values (conds_at rules p) ≡ true → (after p ≡ true) ⊎ (p ≡ place) → IsHeard rules values waiting after p
    tried_there p hold (inl still) = inr (inr still)
    tried_there p hold (inr same) =
        let there : get_or values (given_at rules place).var 0 ≡ (given_at rules place).val = not_due rules place values due (subst (λ (n : ℕ). all_hold values (conds_at rules n) ≡ true) same hold) in
        inl (subst (λ (n : ℕ). get_or values (given_at rules n).var 0 ≡ (given_at rules n).val) (sym same) there)

    on : (p : ℕ) → all_hold values (conds_at rules p) ≡ true → IsHeard rules values waiting later p → IsHeard rules values waiting after p
    on p hold (inl was) = inl was
    on p hold (inr (inl awaited)) = inr (inl awaited)
    on p hold (inr (inr late)) = tried_there p hold (drops p late)

-- A rule of the layer was tried: it needn't be tried any more.
pub tried : (parts : Parts) (rules : Rules) (layer place : ℕ) (values waiting now more : List ℕ) (later after : ℕ → Bool) → IsWellFormed parts → AreRules parts rules → place < length rules.heads → layer_at rules place ≡ layer → IsHearing parts rules layer values waiting later →
    ((p : ℕ) → later p ≡ true → (after p ≡ true) ⊎ (p ≡ place)) →
    now ≡ (if is_due rules place values then slice_set values (given_at rules place).var (given_at rules place).val else values) → more ≡ (if is_due rules place values then waiting ++ (given_at rules place).var ∷ [] else waiting) → Tried parts rules layer values waiting now more after
tried parts rules layer place values waiting now more later after formed are lt at hearing drops now_is more_is = by (is_due rules place values) refl
  where
    by : (b : Bool) → is_due rules place values ≡ b → Tried parts rules layer values waiting now more after
    by true due =
        let fits = fits_at parts rules place formed are lt in
        let wrote = rw (due, fits.gains) at now_is in
        let waits = rw due at more_is in
        tried_due parts rules layer place values waiting now more later after formed are lt at hearing drops due wrote waits
    by false due = tried_still parts rules layer place values waiting now more later after hearing drops due (rw due at now_is) (rw due at more_is)

-- fewer rules are still to be tried
pub fewer : (parts : Parts) (rules : Rules) (layer : ℕ) (values waiting : List ℕ) (later after : ℕ → Bool) → IsHearing parts rules layer values waiting later →
    ((p : ℕ) → p < length rules.heads → layer_at rules p ≡ layer → later p ≡ true → after p ≡ true) → IsHearing parts rules layer values waiting after
fewer parts rules layer values waiting later after hearing drops = record { long = hearing.long; room = hearing.room; known = hearing.known; heard = λ p lt at hold. on p lt at (hearing.heard p lt at hold) }
  where
    on : (p : ℕ) → p < length rules.heads → layer_at rules p ≡ layer → IsHeard rules values waiting later p → IsHeard rules values waiting after p
    on p lt at (inl was) = inl was
    on p lt at (inr (inl awaited)) = inr (inl awaited)
    on p lt at (inr (inr late)) = inr (inr (drops p lt at late))

-- the places from one on, one by one
pub from_next : (from p : ℕ) → nat_le from p ≡ true → (nat_le (from + 1) p ≡ true) ⊎ (p ≡ from)
from_next from p is = by (nat_eq p from) refl
  where
    by : (b : Bool) → nat_eq p from ≡ b → (nat_le (from + 1) p ≡ true) ⊎ (p ≡ from)
    by true same = inr (same_nat p from same)
    by false ne = inl (grind (arith, nat_tests, is, ne))

pub past_end : (parts : Parts) (rules : Rules) (layer place : ℕ) (values waiting : List ℕ) → AreRules parts rules → IsHearing parts rules layer values waiting (λ p. nat_le place p) → (place < length rules.heads → layer < layer_at rules place) → IsHearing parts rules layer values waiting (λ p. false)
past_end parts rules layer place values waiting are hearing end = fewer parts rules layer values waiting (λ p. nat_le place p) (λ p. false) hearing (λ p lt at is. none p lt at is)
  where
    none : (p : ℕ) → p < length rules.heads → layer_at rules p ≡ layer → nat_le place p ≡ true → false ≡ true
    none p lt at is =
        let le : place ≤ p = grind (arith, nat_tests, is) in
        let up = are.upwards place p le lt in
        let above = end (omega (arith, le, lt)) in
        absurd (omega (arith, up, above, at))

-- those that watch a variable, one by one
pub watching_next : (row : List ℕ) (i place p : ℕ) → i < length row → place ≡ get_or row i 0 → list_any (nat_eq p) (drop i row) ≡ true → (list_any (nat_eq p) (drop (i + 1) row) ≡ true) ⊎ (p ≡ place)
watching_next row i place p lt at any = by (nat_eq p (get_or row i 0)) refl
  where
    split : list_any (nat_eq p) (get_or row i 0 ∷ drop (i + 1) row) ≡ true
    split = ap (list_any (nat_eq p)) (sym (drop_more row i 0 lt)) ∙ any

    by : (b : Bool) → nat_eq p (get_or row i 0) ≡ b → (list_any (nat_eq p) (drop (i + 1) row) ≡ true) ⊎ (p ≡ place)
    by true is = inr (same_nat p (get_or row i 0) is ∙ sym at)
    by false is = inl (rw is at split)

-- a layer begins
pub begins : (parts : Parts) (rules : Rules) (layer from : ℕ) (start : List ℕ) → layer_at rules from ≡ layer → ((p : ℕ) → p < from → layer_at rules p < layer_at rules from) → length start ≡ length parts.variables → IsHearing parts rules layer start [] (λ p. nat_le from p)
begins parts rules layer from start at first long = record {
  long = long;
  room = omega (arith, open_le_size layer parts.variables parts.init start, size_le_length layer parts.variables);
  known = refl;
  heard = λ p lt here hold. inr (inr (by p here (nat_le from p) refl));
}
  where
    by : (p : ℕ) → layer_at rules p ≡ layer → (b : Bool) → nat_le from p ≡ b → b ≡ true
    by p here true is = refl
    by p here false is = let less : p < from = grind (arith, nat_tests, is) in let low = first p less in absurd (omega (arith, low, at, here))

pub begins_between : (parts : Parts) (layer : ℕ) (start : List ℕ) → IsWellFormed parts → IsBetween parts layer start start
begins_between parts layer start formed = record { grown = below_same parts layer start; reached = rounds_grow parts layer start 0 (size_of parts.variables layer - open_of parts layer start) (rules_sound parts layer formed) (omega arith) }

-- a variable that waited is looked at
pub taken : (parts : Parts) (rules : Rules) (layer var : ℕ) (values waiting old : List ℕ) → AreRules parts rules → IsHearing parts rules layer values old (λ p. false) → old ≡ waiting ++ var ∷ [] → IsHearing parts rules layer values waiting (is_watching rules var) × (var < length parts.variables)
taken parts rules layer var values waiting old are hearing is =
    let grown : length old ≡ length waiting + 1 = ap length is ∙ length-append waiting (var ∷ []) in
    let both_known = known_split (rw (is, list_all-append (λ v. nat_lt v (length parts.variables) && is_of parts layer v) waiting (var ∷ [])) at hearing.known) in
    (record { long = hearing.long; room = omega (arith, hearing.room, grown); known = both_known.0; heard = λ p lt at hold. on both_known.2 p lt at (hearing.heard p lt at hold) }, both_known.1)
  where
    known_split : (list_all (λ v. nat_lt v (length parts.variables) && is_of parts layer v) waiting && ((nat_lt var (length parts.variables) && is_of parts layer var) && true)) ≡ true → (list_all (λ v. nat_lt v (length parts.variables) && is_of parts layer v) waiting ≡ true) × (var < length parts.variables) × (is_of parts layer var ≡ true)
    known_split h =
        let first = both (list_all (λ v. nat_lt v (length parts.variables) && is_of parts layer v) waiting) ((nat_lt var (length parts.variables) && is_of parts layer var) && true) h in
        let second = both (nat_lt var (length parts.variables)) (is_of parts layer var) (both (nat_lt var (length parts.variables) && is_of parts layer var) true first.1).0 in
        (first.0, grind (arith, nat_tests, second.0), second.1)

    on : is_of parts layer var ≡ true → (p : ℕ) → p < length rules.heads → layer_at rules p ≡ layer → IsHeard rules values old (λ p. false) p → IsHeard rules values waiting (is_watching rules var) p
    on own p lt at (inl was) = inl was
    on own p lt at (inr (inr late)) = let k : false ≡ true = late in cc
    on own p lt at (inr (inl awaited)) = by (is_awaited waiting (conds_at rules p)) refl (rw (is, list_any-append (is_on (conds_at rules p)) waiting (var ∷ [])) at awaited)
      where
        by : (b : Bool) → is_awaited waiting (conds_at rules p) ≡ b → (is_awaited waiting (conds_at rules p) || (is_on (conds_at rules p) var || false)) ≡ true → IsHeard rules values waiting (is_watching rules var) p
        by true before any = inr (inl before)
        by false before any =
            let own_at : is_of parts (layer_at rules p) var ≡ true = rw at own in
            inr (inr (are.watched p var lt (or_false (is_on (conds_at rules p) var) (rw before at any)) own_at))
          where
            or_false : (a : Bool) → (a || false) ≡ true → a ≡ true
            or_false true h = refl
            or_false false h = h

-- where no rule is due the layer is settled
closed : (parts : Parts) (rules : Rules) (layer : ℕ) (values : List ℕ) → IsWellFormed parts → AreRules parts rules → IsHearing parts rules layer values [] (λ p. false) → IsClosed parts layer values
closed parts rules layer values formed are hearing = record { at = λ var lt fires. heard var (any_found (fires_on parts layer values var) parts.rules fires) }
  where
    heard : (var : ℕ) → IsFound (fires_on parts layer values var) parts.rules → get_or values var 0 ≡ gain parts var
    heard var found =
        let split = both (is_of parts layer found.item.head.var) (all_hold values found.item.conds && nat_eq found.item.head.var var) found.is in
        let fired = both (all_hold values found.item.conds) (nat_eq found.item.head.var var) split.1 in
        let has = are.complete found.place found.item found.at in
        let at_layer = same_layer (layer_of parts.variables found.item.head.var) layer split.0 in
        let same : Some (layer_at rules has.place) ≡ Some layer = sym has.stands.layer ∙ at_layer in
        let at : layer_at rules has.place ≡ layer = cc in
        let hold : all_hold values (conds_at rules has.place) ≡ true = rw has.stands.conds fired.0 in
        let var_is : (given_at rules has.place).var ≡ var = ap (λ (f : Fact). f.var) has.stands.given ∙ same_nat found.item.head.var var fired.1 in
        by has.place var_is (fits_at parts rules has.place formed are has.within).gains (hearing.heard has.place has.within at hold)
      where
        by : (p : ℕ) → (given_at rules p).var ≡ var → (given_at rules p).val ≡ gain parts (given_at rules p).var → IsHeard rules values [] (λ p. false) p → get_or values var 0 ≡ gain parts var
        by p same gains (inl was) = ap (λ (n : ℕ). get_or values n 0) (sym same) ∙ (was ∙ (gains ∙ ap (gain parts) same))
        by p same gains (inr (inl awaited)) = let k : false ≡ true = awaited in cc
        by p same gains (inr (inr late)) = let k : false ≡ true = late in cc

pub settles : (parts : Parts) (rules : Rules) (layer : ℕ) (start values : List ℕ) → IsWellFormed parts → AreRules parts rules → IsHearing parts rules layer values [] (λ p. false) → IsBetween parts layer start values → values ≡ rounds_of parts layer (size_of parts.variables layer) start
settles parts rules layer start values formed are hearing between = closed_is_rounds parts layer (size_of parts.variables layer - open_of parts layer values) (size_of parts.variables layer) start values (rules_sound parts layer formed) between.grown (closed parts rules layer values formed are hearing) between.reached (omega arith)

-- the head of a rule as it is read
pub head_read : (rules : Rules) (place : ℕ) (head : Head) → slice_get rules.heads place ≡ Some head → head_at rules.heads place ≡ head
head_read rules place head at = get_or_from_slice_get rules.heads place head (record { layer = 0; fact = record { var = 0; val = 0 } }) at

given_read : (rules : Rules) (place : ℕ) (head : Head) → slice_get rules.heads place ≡ Some head → given_at rules place ≡ head.fact
given_read rules place head at = ap (λ (h : Head). h.fact) (head_read rules place head at)

pub read_within : (n : ℕ) (rules : Rules) (place : ℕ) (head : Head) → AreWithin n rules → place < length rules.heads → slice_get rules.heads place ≡ Some head → head.fact.var < n
read_within n rules place head within lt at = subst (λ (f : Fact). f.var < n) (given_read rules place head at) (var_within n rules place within lt)

due_by : (rules : Rules) (place : ℕ) (values : List ℕ) (fact : Fact) → given_at rules place ≡ fact → is_due rules place values ≡ (not (nat_eq (get_or values fact.var 0) fact.val) && all_hold values (conds_at rules place))
due_by rules place values fact is = ap (λ (f : Fact). not (nat_eq (get_or values f.var 0) f.val) && all_hold values (conds_at rules place)) is

pub due_as : (rules : Rules) (place : ℕ) (values : List ℕ) (head : Head) (held : Bool) → slice_get rules.heads place ≡ Some head → not (nat_eq (get_or values head.fact.var 0) head.fact.val) ≡ true → held ≡ all_hold values (conds_at rules place) → held ≡ is_due rules place values
due_as rules place values head held at ne is = sym (due_by rules place values head.fact (given_read rules place head at) ∙ rw (ne, ← is) refl)

pub not_due_as : (rules : Rules) (place : ℕ) (values : List ℕ) (head : Head) → slice_get rules.heads place ≡ Some head → not (nat_eq (get_or values head.fact.var 0) head.fact.val) ≡ false → not (nat_eq (get_or values head.fact.var 0) head.fact.val) ≡ is_due rules place values
not_due_as rules place values head at none = sym (due_by rules place values head.fact (given_read rules place head at) ∙ rw none refl)

pub wrote_as : (rules : Rules) (place : ℕ) (values : List ℕ) (head : Head) → slice_get rules.heads place ≡ Some head → is_due rules place values ≡ true →
    slice_set values head.fact.var head.fact.val ≡ (if is_due rules place values then slice_set values (given_at rules place).var (given_at rules place).val else values)
wrote_as rules place values head at due = rw due (ap (λ (f : Fact). slice_set values f.var f.val) (sym (given_read rules place head at)))

pub waits_as : (rules : Rules) (place : ℕ) (values waiting : List ℕ) (head : Head) → slice_get rules.heads place ≡ Some head → is_due rules place values ≡ true →
    waiting ++ head.fact.var ∷ [] ≡ (if is_due rules place values then waiting ++ (given_at rules place).var ∷ [] else waiting)
waits_as rules place values waiting head at due = rw due (ap (λ (f : Fact). waiting ++ f.var ∷ []) (sym (given_read rules place head at)))

-- a place in a row of watchers
row_item : (n : ℕ) (row : List ℕ) (i : ℕ) → list_all (λ place. nat_lt place n) row ≡ true → i < length row → get_or row i 0 < n
row_item n [] i all lt = absurd (omega arith)
row_item n (x ∷ row) zero all lt = let here = (both (nat_lt x n) (list_all (λ place. nat_lt place n) row) all).0 in grind (arith, nat_tests, here)
row_item n (x ∷ row) (suc i) all lt = row_item n row i (both (nat_lt x n) (list_all (λ place. nat_lt place n) row) all).1 (omega arith)

row_all : (n : ℕ) (table : List (List ℕ)) (var : ℕ) → list_all (list_all (λ place. nat_lt place n)) table ≡ true → list_all (λ place. nat_lt place n) (row_at table var) ≡ true
row_all n [] var all = refl
row_all n (row ∷ table) zero all = (both (list_all (λ place. nat_lt place n) row) (list_all (list_all (λ place. nat_lt place n)) table) all).0
row_all n (row ∷ table) (suc var) all = row_all n table var (both (list_all (λ place. nat_lt place n) row) (list_all (list_all (λ place. nat_lt place n)) table) all).1

pub watcher_within : (n : ℕ) (rules : Rules) (var i : ℕ) (row : List ℕ) → AreWithin n rules → row ≡ row_at rules.watchers var → i < length row → get_or row i 0 < length rules.heads
watcher_within n rules var i row within is lt = row_item (length rules.heads) row i (rw is (row_all (length rules.heads) rules.watchers var within.watchers_within)) lt

pub those_more : (rules : Rules) (layer from place : ℕ) → ((p : ℕ) → from ≤ p → p < place → layer_at rules p ≡ layer) → layer_at rules place ≡ layer → (p : ℕ) → from ≤ p → p < place + 1 → layer_at rules p ≡ layer
those_more rules layer from place before here p low less = by (nat_eq p place) refl
  where
    by : (b : Bool) → nat_eq p place ≡ b → layer_at rules p ≡ layer
    by true is = ap (layer_at rules) (same_nat p place is) ∙ here
    by false is = before p low (grind (arith, nat_tests, is, less))

-- A rule that watches, but isn't of the layer, is passed by.
pub passed : (parts : Parts) (rules : Rules) (layer place : ℕ) (values waiting now more : List ℕ) (later after : ℕ → Bool) → IsHearing parts rules layer values waiting later → ((p : ℕ) → later p ≡ true → (after p ≡ true) ⊎ (p ≡ place)) → nat_eq (layer_at rules place) layer ≡ false →
    now ≡ values → more ≡ waiting → Tried parts rules layer values waiting now more after
passed parts rules layer place values waiting now more later after hearing drops other now_is more_is =
    subst (λ (vs : List ℕ). Tried parts rules layer values waiting vs more after) (sym now_is) (subst (λ (ws : List ℕ). Tried parts rules layer values waiting values ws after) (sym more_is) (record {
      hearing = fewer parts rules layer values waiting later after hearing (λ p lt at late. by p at (drops p late));
      left = refl;
      between = λ start between. between;
    }))
  where
    by : (p : ℕ) → layer_at rules p ≡ layer → (after p ≡ true) ⊎ (p ≡ place) → after p ≡ true
    by p at (inl still) = still
    by p at (inr same) =
        let here : layer_at rules place ≡ layer = ap (layer_at rules) (sym same) ∙ at in
        absurd (grind (arith, nat_tests, here, other))
