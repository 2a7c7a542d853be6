-- How the tables of rules are made.
use Rattle.std.proofs.Common.{◌≡◌, ◌≢◌, ◌∙◌, sym, ap, refl, subst, ℕ, zero, suc, ◌+◌, ◌<◌, ◌≤◌, ◌⊎◌, inl, inr, List, [], ◌∷◌, ◌++◌, length, length-append, map, take, replicate, Bool, true, false, not, nat_eq, nat_lt, ◌&&◌, ◌||◌, IsTrue, arith, slice_get, slice_set, get_or, get_or-set_same, get_or-set_other, Option, Some, None, if◌then◌else◌}
use Rattle.std.specs.List.{list_all, list_any}
use Rattle.std.specs.List.Sorted.{IsPermutation, IsNonDecreasingBy}
use Rattle.std.proofs.lemmas.Bool.Decides.{nat_tests}
use Rattle.std.proofs.lemmas.List.{length-set, length-map, take_more, map-append}
use Rattle.std.proofs.lemmas.List.Folds.{list_any_more, list_any-append, list_all-append}
use Rattle.std.proofs.lemmas.List.Sorted.{list_any-IsPermutation, length_permutation}
use Rattle.std.proofs.lemmas.Option.{slice_get_within, slice_get-get_or, get_or_from_slice_get}
use Rattle.lama_num.proofs.ListLaws.{both, list_all_get, found_at}
use Rattle.lama_num.specs.Rows.{row_at}
use Rattle.sas_task.specs.declared.contents.Fact.{Fact}
use Rattle.sas_task.specs.declared.contents.Variable.{Variable}
use Rattle.sas_task.specs.declared.contents.Rule.{Rule}
use Rattle.sas_task.specs.declared.contents.Parts.{Parts}
use Rattle.sas_task.specs.WellFormed.{IsWellFormed, layer_of, is_rule, is_fact}
use Rattle.sas_task.specs.Within.{is_within}
use Rattle.sas_task.proofs.WithinLaws.{fact_within, all_facts_within}
use Rattle.sas_task.specs.States.{is_layer}
use Rattle.sas_task.proofs.RunLaws.{IsRule, rule-at}
use Rattle.axiom_eval.specs.Layers.{is_of}
use Rattle.axiom_eval.specs.Rules.{head_at, layer_at, given_at, conds_at, is_on, is_watching, AreWithin, StandsAt, HasRule, HasPlace, AreRules}
use Rattle.axiom_eval.specs.Building.{is_slot, AreSlots, is_rule_below, head_of, conds_of, AddsWatcher, AreWatchers}
use Rattle.axiom_eval.specs.declared.building.Slot.{Slot}
use Rattle.axiom_eval.specs.declared.tables.Head.{Head}
use Rattle.axiom_eval.specs.declared.tables.Rules.{Rules}
use Rattle.axiom_eval.proofs.Sound.{all_from_get, same_layer, layer_same}
use Rattle.axiom_eval.proofs.TriedRules.{any_get, any_found, IsFound}
use Rattle.axiom_eval.proofs.DefaultValues.{all_at}
use Rattle.std.proofs.lemmas.Bool.{eqb-true as same_nat}

or_true : (a : Bool) → (a || true) ≡ true
or_true true = refl
or_true false = refl

none_left : (a b : Bool) → a ≡ false → b ≡ false → (a || (b || false)) ≡ false
none_left a b is bs = rw (is, bs) refl

-- a slot for each of the first rules
pub record AreSlotsTo (parts : Parts) (i : ℕ) (slots : List Slot) : Type 0 where
  pub long : length slots ≡ i
  pub sound : list_any (λ s. not (is_slot parts s)) slots ≡ false
  pub complete : (number : ℕ) → number < i → list_any (λ s. nat_eq s.rule number) slots ≡ true

pub slots_none : (parts : Parts) → AreSlotsTo parts 0 []
slots_none parts = record { long = refl; sound = refl; complete = λ number lt. absurd (omega arith) }

pub slots_more : (parts : Parts) (i : ℕ) (rule : Rule) (slot : Slot) (slots now : List Slot) → IsWellFormed parts → slice_get parts.rules i ≡ Some rule → ((layer : ℕ) → layer_of parts.variables rule.head.var ≡ Some layer → slot.layer ≡ layer) → slot.rule ≡ i → AreSlotsTo parts i slots → now ≡ slots ++ slot ∷ [] → AreSlotsTo parts (i + 1) now
slots_more parts i rule slot slots now formed at layer_is rule_is so is =
    let own = rule-at parts i rule formed at in
    let layer : slot.layer ≡ own.layer = layer_is own.layer own.derived in
    let here : is_slot parts slot ≡ true = slot_at own.layer layer own.derived in
    record {
      long = omega (arith, ap length is, length-append slots (slot ∷ []), so.long);
      sound = (let before = so.sound in
          let quiet : not (is_slot parts slot) ≡ false = rw here refl in
          ap (list_any (λ s. not (is_slot parts s))) is ∙ (list_any-append (λ s. not (is_slot parts s)) slots (slot ∷ []) ∙ none_left (list_any (λ s. not (is_slot parts s)) slots) (not (is_slot parts slot)) before quiet));
      complete = λ number lt. ap (list_any (λ s. nat_eq s.rule number)) is ∙ (list_any-append (λ (s : Slot). nat_eq s.rule number) slots (slot ∷ []) ∙ by number lt (nat_eq slot.rule number) refl);
    }
  where
    slot_at : (layer : ℕ) → slot.layer ≡ layer → layer_of parts.variables rule.head.var ≡ Some layer → is_slot parts slot ≡ true
    slot_at layer same derived =
        let at_slot : slice_get parts.rules slot.rule ≡ Some rule = ap (slice_get parts.rules) rule_is ∙ at in
        rw (at_slot, same) (layer_same (layer_of parts.variables rule.head.var) layer derived)

    by : (number : ℕ) → number < i + 1 → (b : Bool) → nat_eq slot.rule number ≡ b → (list_any (λ s. nat_eq s.rule number) slots || (nat_eq slot.rule number || false)) ≡ true
    by number lt true same = rw same (or_true (list_any (λ s. nat_eq s.rule number) slots))
    by number lt false other =
        let before = so.complete number (grind (arith, nat_tests, other, rule_is, lt)) in
        rw before refl

pub slots_all : (parts : Parts) (i : ℕ) (slots : List Slot) → i ≡ length parts.rules → AreSlotsTo parts i slots → AreSlots parts slots
slots_all parts i slots past so = record { long = so.long ∙ past; sound = so.sound; complete = λ number lt. so.complete number (omega arith) }

-- in another order they are slots as well
pub slots_moved : (parts : Parts) (slots now : List Slot) → IsPermutation slots now → AreSlots parts slots → AreSlots parts now
slots_moved parts slots now moved so = record {
  long = length_permutation slots now moved ∙ so.long;
  sound = sym (list_any-IsPermutation (λ s. not (is_slot parts s)) slots now moved) ∙ so.sound;
  complete = λ number lt. sym (list_any-IsPermutation (λ (s : Slot). nat_eq s.rule number) slots now moved) ∙ so.complete number lt;
}

-- the rule of a slot
pub record HasSlotRule (parts : Parts) (slot : Slot) : Type 0 where
  pub rule : Rule
  pub at : slice_get parts.rules slot.rule ≡ Some rule
  pub layer : layer_of parts.variables rule.head.var ≡ Some slot.layer

slot_rule : (parts : Parts) (slot : Slot) → is_slot parts slot ≡ true → HasSlotRule parts slot
slot_rule parts slot is = by (slice_get parts.rules slot.rule) refl
  where
    by : (o : Option Rule) → slice_get parts.rules slot.rule ≡ o → HasSlotRule parts slot
    by None at = let k : false ≡ true = rw at at is in cc
    by (Some rule) at = record { rule = rule; at = at; layer = same_layer (layer_of parts.variables rule.head.var) slot.layer (rw at at is) }

slot_sound : (parts : Parts) (slots : List Slot) (place : ℕ) (slot : Slot) → AreSlots parts slots → slice_get slots place ≡ Some slot → HasSlotRule parts slot
slot_sound parts slots place slot so at = slot_rule parts slot (by (is_slot parts slot) refl)
  where
    by : (b : Bool) → is_slot parts slot ≡ b → b ≡ true
    by true is = refl
    by false is =
        let bad : not (is_slot parts slot) ≡ true = rw is refl in
        let any = any_get (λ s. not (is_slot parts s)) slots place slot at bad in
        let k : true ≡ false = sym any ∙ so.sound in
        cc

pub slots_below : (parts : Parts) (slots : List Slot) → AreSlots parts slots → list_all (is_rule_below (length parts.rules)) slots ≡ true
slots_below parts slots so = all_from_get (is_rule_below (length parts.rules)) slots (λ i slot at. below slot (slot_sound parts slots i slot so at))
  where
    below : (slot : Slot) → HasSlotRule parts slot → is_rule_below (length parts.rules) slot ≡ true
    below slot has = let lt = slice_get_within parts.rules slot.rule has.rule has.at in grind (arith, nat_tests, lt)

abbrev make : ℕ → Fact → Head
make layer fact = record { layer = layer; fact = fact }

-- an item as it is read
pub read_at : {X : Type 0} (xs items : List X) (i : ℕ) (x : X) → items ≡ xs → i < length items → x ≡ get_or items i x → slice_get xs i ≡ Some x
read_at {X} xs items i x same lt at =
    let here : slice_get items i ≡ Some (get_or items i x) = slice_get-get_or items i x lt in
    ap (λ (ys : List X). slice_get ys i) (sym same) ∙ (here ∙ ap (λ (y : X). Some y) (sym at))

pub rule_below : (rules : List Rule) (slots : List Slot) (i : ℕ) (d : Slot) → list_all (is_rule_below (length rules)) slots ≡ true → i < length slots → (get_or slots i d).rule < length rules
rule_below rules slots i d all lt = let test = all_at (is_rule_below (length rules)) slots i d all lt in grind (arith, nat_tests, test)

-- one head more, and one row of conditions more
pub heads_more : (rules : List Rule) (slots : List Slot) (i : ℕ) (d : Slot) (rule : Rule) (heads now : List Head) (head : Head) → i < length slots → slice_get rules (get_or slots i d).rule ≡ Some rule → heads ≡ map (head_of rules) (take i slots) → now ≡ heads ++ head ∷ [] → head.layer ≡ (get_or slots i d).layer → head.fact ≡ rule.head → now ≡ map (head_of rules) (take (i + 1) slots)
heads_more rules slots i d rule heads now head lt at so is layer_is fact_is =
    let one : head_of rules (get_or slots i d) ≡ make (get_or slots i d).layer rule.head = rw at refl in
    let same : make (get_or slots i d).layer rule.head ≡ head = ap (λ (n : ℕ). make n rule.head) (sym layer_is) ∙ ap (make head.layer) (sym fact_is) in
    is ∙ (ap (λ (hs : List Head). hs ++ head ∷ []) so ∙ (ap (λ (h : Head). map (head_of rules) (take i slots) ++ h ∷ []) (sym (one ∙ same)) ∙ (sym (map-append (head_of rules) (take i slots) (get_or slots i d ∷ [])) ∙ ap (map (head_of rules)) (sym (take_more slots i d lt)))))

pub conds_more : (rules : List Rule) (slots : List Slot) (i : ℕ) (d : Slot) (rule : Rule) (row : List Fact) (rows now : List (List Fact)) → i < length slots → slice_get rules (get_or slots i d).rule ≡ Some rule → row ≡ rule.conds → rows ≡ map (conds_of rules) (take i slots) → now ≡ rows ++ row ∷ [] → now ≡ map (conds_of rules) (take (i + 1) slots)
conds_more rules slots i d rule row rows now lt at shown so is =
    let one : conds_of rules (get_or slots i d) ≡ rule.conds = rw at refl in
    is ∙ (ap (λ (rs : List (List Fact)). rs ++ row ∷ []) so ∙ (ap (λ (r : List Fact). map (conds_of rules) (take i slots) ++ r ∷ []) (shown ∙ sym one) ∙ (sym (map-append (conds_of rules) (take i slots) (get_or slots i d ∷ [])) ∙ ap (map (conds_of rules)) (sym (take_more slots i d lt)))))

-- lists that watch
all_set : {X : Type 0} (p : X → Bool) (xs : List X) (i : ℕ) (x : X) → list_all p xs ≡ true → p x ≡ true → list_all p (slice_set xs i x) ≡ true
all_set p [] i x all here = refl
all_set p (y ∷ ys) zero x all here = rw here (both (p y) (list_all p ys) all).1
all_set p (y ∷ ys) (suc i) x all here = let parts = both (p y) (list_all p ys) all in rw parts.0 (all_set p ys i x parts.1 here)

all_row : (p : List ℕ → Bool) (rows : List (List ℕ)) (i : ℕ) → list_all p rows ≡ true → p [] ≡ true → p (row_at rows i) ≡ true
all_row p [] i all none = none
all_row p (row ∷ rows) zero all none = (both (p row) (list_all p rows) all).0
all_row p (row ∷ rows) (suc i) all none = all_row p rows i (both (p row) (list_all p rows) all).1 none

pub watch_none : (variables : List Variable) (layer place : ℕ) (lists : List (List ℕ)) → AddsWatcher variables layer place [] lists lists
watch_none variables layer place lists = record {
  long = refl;
  kept = λ var other any. any;
  added = λ var on own. (let k : false ≡ true = on in cc);
  within = λ n lt all. all;
}

watch_added : (variables : List Variable) (layer place : ℕ) (facts : List Fact) (i : ℕ) (d : Fact) (old mid now : List (List ℕ)) → i < length facts → (get_or facts i d).var < length mid → now ≡ slice_set mid (get_or facts i d).var (row_at mid (get_or facts i d).var ++ place ∷ []) → AddsWatcher variables layer place (take i facts) old mid → AddsWatcher variables layer place (take (i + 1) facts) old now
watch_added variables layer place facts i d old mid now lt within is so = record {
  long = ap length is ∙ (length-set mid (get_or facts i d).var (row_at mid (get_or facts i d).var ++ place ∷ []) ∙ so.long);
  kept = λ var other any. kept var other (so.kept var other any);
  added = λ var on own. added var own (nat_eq (get_or facts i d).var var) refl (sym (list_any_more (λ (f : Fact). nat_eq f.var var) facts i d lt) ∙ on);
  within = λ n less all. (let mid_all = so.within n less all in
      let here : nat_lt place n ≡ true = grind (arith, nat_tests) in
      let own = all_row (list_all (λ p. nat_lt p n)) mid (get_or facts i d).var mid_all refl in
      let row : list_all (λ p. nat_lt p n) (row_at mid (get_or facts i d).var ++ place ∷ []) ≡ true = rw (list_all-append (λ p. nat_lt p n) (row_at mid (get_or facts i d).var) (place ∷ []), own, here) refl in
      rw is (all_set (list_all (λ p. nat_lt p n)) mid (get_or facts i d).var (row_at mid (get_or facts i d).var ++ place ∷ []) mid_all row));
}
  where
    row_same : row_at now (get_or facts i d).var ≡ row_at mid (get_or facts i d).var ++ place ∷ []
    row_same = ap (λ (rows : List (List ℕ)). row_at rows (get_or facts i d).var) is ∙ get_or-set_same mid (get_or facts i d).var (row_at mid (get_or facts i d).var ++ place ∷ []) [] within

    row_other : (var : ℕ) → var ≢ (get_or facts i d).var → row_at now var ≡ row_at mid var
    row_other var ne = ap (λ (rows : List (List ℕ)). row_at rows var) is ∙ get_or-set_other mid (get_or facts i d).var var (row_at mid (get_or facts i d).var ++ place ∷ []) [] ne

    kept_at : (var other : ℕ) (b : Bool) → nat_eq var (get_or facts i d).var ≡ b → list_any (nat_eq other) (row_at mid var) ≡ true → list_any (nat_eq other) (row_at now var) ≡ true
    kept_at var other true same any =
        let e : var ≡ (get_or facts i d).var = same_nat var (get_or facts i d).var same in
        let there : list_any (nat_eq other) (row_at mid (get_or facts i d).var) ≡ true = ap (λ (n : ℕ). list_any (nat_eq other) (row_at mid n)) (sym e) ∙ any in
        ap (λ (n : ℕ). list_any (nat_eq other) (row_at now n)) e ∙ (ap (list_any (nat_eq other)) row_same ∙ (list_any-append (nat_eq other) (row_at mid (get_or facts i d).var) (place ∷ []) ∙ rw there refl))
    kept_at var other false ne any = ap (list_any (nat_eq other)) (row_other var (grind (arith, nat_tests, ne))) ∙ any

    kept : (var other : ℕ) → list_any (nat_eq other) (row_at mid var) ≡ true → list_any (nat_eq other) (row_at now var) ≡ true
    kept var other any = kept_at var other (nat_eq var (get_or facts i d).var) refl any

    added : (var : ℕ) → is_layer (layer_of variables var) layer ≡ true → (b : Bool) → nat_eq (get_or facts i d).var var ≡ b → (list_any (λ (f : Fact). nat_eq f.var var) (take i facts) || nat_eq (get_or facts i d).var var) ≡ true → list_any (nat_eq place) (row_at now var) ≡ true
    added var own true same on =
        let e : var ≡ (get_or facts i d).var = sym (same_nat (get_or facts i d).var var same) in
        let there : nat_eq place place ≡ true = grind (arith, nat_tests) in
        ap (λ (n : ℕ). list_any (nat_eq place) (row_at now n)) e ∙ (ap (list_any (nat_eq place)) row_same ∙ (list_any-append (nat_eq place) (row_at mid (get_or facts i d).var) (place ∷ []) ∙ rw there (or_true (list_any (nat_eq place) (row_at mid (get_or facts i d).var)))))
    added var own false other on = kept var place (so.added var (left_of (list_any (λ (f : Fact). nat_eq f.var var) (take i facts)) (rw other at on)) own)
      where
        left_of : (a : Bool) → (a || false) ≡ true → a ≡ true
        left_of true h = refl
        left_of false h = h

watch_left : (variables : List Variable) (layer place : ℕ) (facts : List Fact) (i : ℕ) (d : Fact) (old mid : List (List ℕ)) → i < length facts → is_layer (layer_of variables (get_or facts i d).var) layer ≡ false → AddsWatcher variables layer place (take i facts) old mid → AddsWatcher variables layer place (take (i + 1) facts) old mid
watch_left variables layer place facts i d old mid lt other so = record {
  long = so.long;
  kept = so.kept;
  added = λ var on own. added var own (nat_eq (get_or facts i d).var var) refl (sym (list_any_more (λ (f : Fact). nat_eq f.var var) facts i d lt) ∙ on);
  within = so.within;
}
  where
    left_of : (a : Bool) → (a || false) ≡ true → a ≡ true
    left_of true h = refl
    left_of false h = h

    added : (var : ℕ) → is_layer (layer_of variables var) layer ≡ true → (b : Bool) → nat_eq (get_or facts i d).var var ≡ b → (list_any (λ (f : Fact). nat_eq f.var var) (take i facts) || nat_eq (get_or facts i d).var var) ≡ true → list_any (nat_eq place) (row_at mid var) ≡ true
    added var own true same on =
        let e : (get_or facts i d).var ≡ var = same_nat (get_or facts i d).var var same in
        let k : true ≡ false = sym own ∙ (ap (λ (n : ℕ). is_layer (layer_of variables n) layer) (sym e) ∙ other) in
        cc
    added var own false ne on = so.added var (left_of (list_any (λ (f : Fact). nat_eq f.var var) (take i facts)) (rw ne at on)) own

-- one condition more
pub watch_more : (variables : List Variable) (layer place : ℕ) (facts : List Fact) (i : ℕ) (d : Fact) (old mid now : List (List ℕ)) → i < length facts → (get_or facts i d).var < length mid →
    now ≡ (if is_layer (layer_of variables (get_or facts i d).var) layer then slice_set mid (get_or facts i d).var (row_at mid (get_or facts i d).var ++ place ∷ []) else mid) → AddsWatcher variables layer place (take i facts) old mid → AddsWatcher variables layer place (take (i + 1) facts) old now
watch_more variables layer place facts i d old mid now lt within is so = by (is_layer (layer_of variables (get_or facts i d).var) layer) refl
  where
    by : (b : Bool) → is_layer (layer_of variables (get_or facts i d).var) layer ≡ b → AddsWatcher variables layer place (take (i + 1) facts) old now
    by true own = watch_added variables layer place facts i d old mid now lt within (rw own at is) so
    by false other = let same : now ≡ mid = rw other at is in subst (λ (rows : List (List ℕ)). AddsWatcher variables layer place (take (i + 1) facts) old rows) (sym same) (watch_left variables layer place facts i d old mid lt other so)

-- no list watches
no_length : (n : ℕ) → (let none : List ℕ = [] in length (replicate n none)) ≡ n
no_length zero = refl
no_length (suc n) = let rest = no_length n in omega arith

none_within : (m n : ℕ) → list_all (list_all (λ p. nat_lt p m)) (replicate n []) ≡ true
none_within m zero = refl
none_within m (suc n) = none_within m n

pub watchers_none : (variables : List Variable) (heads : List Head) (conds : List (List Fact)) (lists : List (List ℕ)) → lists ≡ replicate (length variables) [] → AreWatchers variables heads conds 0 lists
watchers_none variables heads conds lists is = record {
  long = ap length is ∙ no_length (length variables);
  watched = λ place var lt. absurd (omega arith);
  within = rw is (none_within (length heads) (length variables));
}

-- one rule more
pub watchers_more : (variables : List Variable) (heads : List Head) (conds : List (List Fact)) (place layer : ℕ) (row : List Fact) (lists now : List (List ℕ)) → place < length heads → layer ≡ (head_at heads place).layer → row ≡ row_at conds place → AreWatchers variables heads conds place lists → AddsWatcher variables layer place row lists now → AreWatchers variables heads conds (place + 1) now
watchers_more variables heads conds place layer row lists now lt layer_is row_is so added = record {
  long = added.long ∙ so.long;
  watched = λ p var less on own. by p var less on own (nat_eq p place) refl;
  within = added.within (length heads) lt so.within;
}
  where
    by : (p var : ℕ) → p < place + 1 → is_on (row_at conds p) var ≡ true → is_layer (layer_of variables var) (head_at heads p).layer ≡ true → (b : Bool) → nat_eq p place ≡ b → list_any (nat_eq p) (row_at now var) ≡ true
    by p var less on own true same =
        let e : p ≡ place = same_nat p place same in
        let on_row : is_on row var ≡ true = ap (λ (r : List Fact). is_on r var) row_is ∙ (ap (λ (n : ℕ). is_on (row_at conds n) var) (sym e) ∙ on) in
        let own_layer : is_layer (layer_of variables var) layer ≡ true = ap (is_layer (layer_of variables var)) layer_is ∙ (ap (λ (n : ℕ). is_layer (layer_of variables var) (head_at heads n).layer) (sym e) ∙ own) in
        ap (λ (n : ℕ). list_any (nat_eq n) (row_at now var)) e ∙ added.added var on_row own_layer
    by p var less on own false other = added.kept var p (so.watched p var (grind (arith, nat_tests, less, other)) on own)

-- all rules are in the tables
get_map : {X Y : Type 0} (f : X → Y) (xs : List X) (i : ℕ) (d : Y) (x : X) → slice_get xs i ≡ Some x → get_or (map f xs) i d ≡ f x
get_map f [] i d x at = let k : ◌≡◌ {A = _} (slice_get [] i) (Some x) = at in cc
get_map f (y ∷ xs) zero d x at = let k : Some y ≡ Some x = at in let e : y ≡ x = cc in ap f e
get_map f (y ∷ xs) (suc i) d x at = get_map f xs i d x at

stands_at : (parts : Parts) (slots : List Slot) (rules : Rules) (place : ℕ) (slot : Slot) (rule : Rule) → rules.heads ≡ map (head_of parts.rules) slots → rules.conds ≡ map (conds_of parts.rules) slots → slice_get slots place ≡ Some slot → slice_get parts.rules slot.rule ≡ Some rule → layer_of parts.variables rule.head.var ≡ Some slot.layer → StandsAt parts rules rule place
stands_at parts slots rules place slot rule heads_are conds_are at at_rule layer =
    let head : head_at rules.heads place ≡ head_of parts.rules slot = ap (λ (hs : List Head). head_at hs place) heads_are ∙ get_map (head_of parts.rules) slots place (record { layer = 0; fact = record { var = 0; val = 0 } }) slot at in
    let row : conds_at rules place ≡ conds_of parts.rules slot = ap (λ (rs : List (List Fact)). row_at rs place) conds_are ∙ get_map (conds_of parts.rules) slots place [] slot at in
    record {
      layer = layer ∙ ap (λ (n : ℕ). Some n) (sym (ap (λ (h : Head). h.layer) head));
      given = ap (λ (h : Head). h.fact) head ∙ rw at_rule refl;
      conds = row ∙ rw at_rule refl;
    }

rule_facts : (parts : Parts) (slots : List Slot) (i : ℕ) (slot : Slot) → IsWellFormed parts → AreSlots parts slots → slice_get slots i ≡ Some slot → (list_all (is_within (length parts.variables)) (conds_of parts.rules slot) ≡ true) × (nat_lt (head_of parts.rules slot).fact.var (length parts.variables) ≡ true)
rule_facts parts slots i slot formed so at =
    let has = slot_sound parts slots i slot so at in
    let is = rule-at parts slot.rule has.rule formed has.at in
    (rw has.at (all_facts_within parts.variables has.rule.conds is.conds), rw has.at (fact_within parts.variables has.rule.head is.head))

all_map : {X Y : Type 0} (p : Y → Bool) (f : X → Y) (xs : List X) → ((i : ℕ) (x : X) → slice_get xs i ≡ Some x → p (f x) ≡ true) → list_all p (map f xs) ≡ true
all_map p f [] each = refl
all_map p f (x ∷ xs) each = let here = each 0 x refl in rw here (all_map p f xs (λ i y at. each (suc i) y at))

pub conds_within : (parts : Parts) (slots : List Slot) (conds : List (List Fact)) → IsWellFormed parts → AreSlots parts slots → conds ≡ map (conds_of parts.rules) slots → list_all (list_all (is_within (length parts.variables))) conds ≡ true
conds_within parts slots conds formed so are = rw are (all_map (list_all (is_within (length parts.variables))) (conds_of parts.rules) slots (λ i slot at. (rule_facts parts slots i slot formed so at).0))

pub are_rules : (parts : Parts) (slots : List Slot) (rules : Rules) → IsWellFormed parts → AreSlots parts slots → IsNonDecreasingBy (λ (s : Slot). s.layer) slots → rules.heads ≡ map (head_of parts.rules) slots → rules.conds ≡ map (conds_of parts.rules) slots →
    AreWatchers parts.variables rules.heads rules.conds (length rules.heads) rules.watchers → AreRules parts rules
are_rules parts slots rules formed so order heads_are conds_are watchers = record {
  within = record {
    conds = conds_long;
    watchers = watchers.long;
    heads_within = rw heads_are (all_map (λ (h : Head). nat_lt h.fact.var (length parts.variables)) (head_of parts.rules) slots (λ i slot at. (rule_facts parts slots i slot formed so at).1));
    conds_within = conds_within parts slots rules.conds formed so conds_are;
    watchers_within = watchers.within;
  };
  upwards = λ low high le lt. upwards low high le lt;
  sound = λ place lt. sound place lt;
  complete = λ number rule at. complete number rule at;
  watched = λ place var lt on own. watchers.watched place var lt on own;
}
  where
    heads_long : length rules.heads ≡ length slots
    heads_long = ap length heads_are ∙ length-map slots (head_of parts.rules)

    conds_long : length rules.conds ≡ length rules.heads
    conds_long = ap length conds_are ∙ (length-map slots (conds_of parts.rules) ∙ sym heads_long)

    layer_is : (place : ℕ) (slot : Slot) → slice_get slots place ≡ Some slot → layer_at rules place ≡ slot.layer
    layer_is place slot at = ap (λ (hs : List Head). (head_at hs place).layer) heads_are ∙ ap (λ (h : Head). h.layer) (get_map (head_of parts.rules) slots place (record { layer = 0; fact = record { var = 0; val = 0 } }) slot at)

    upwards : (low high : ℕ) → low ≤ high → high < length rules.heads → layer_at rules low ≤ layer_at rules high
    upwards low high le lt =
        let first = found_at slots low (omega (arith, heads_long)) in
        let second = found_at slots high (omega (arith, heads_long)) in
        let sorted = order low high first.0 le (omega (arith, heads_long)) in
        let a = get_or_from_slice_get slots low first.0 first.0 first.1 in
        let b = get_or_from_slice_get slots high second.0 first.0 second.1 in
        let low_is = layer_is low first.0 first.1 in
        let high_is = layer_is high second.0 second.1 in
        omega (arith, sorted, low_is, high_is, ap (λ (s : Slot). s.layer) a, ap (λ (s : Slot). s.layer) b)

    sound : (place : ℕ) → place < length rules.heads → HasRule parts rules place
    sound place lt =
        let slot = found_at slots place (omega (arith, heads_long)) in
        let has = slot_sound parts slots place slot.0 so slot.1 in
        record { number = slot.0.rule; rule = has.rule; at = has.at; stands = stands_at parts slots rules place slot.0 has.rule heads_are conds_are slot.1 has.at has.layer }

    complete : (number : ℕ) (rule : Rule) → slice_get parts.rules number ≡ Some rule → HasPlace parts rules rule
    complete number rule at =
        let found = any_found (λ (s : Slot). nat_eq s.rule number) slots (so.complete number (slice_get_within parts.rules number rule at)) in
        let same : found.item.rule ≡ number = same_nat found.item.rule number found.is in
        let at_slot : slice_get parts.rules found.item.rule ≡ Some rule = ap (slice_get parts.rules) same ∙ at in
        let has = slot_sound parts slots found.place found.item so found.at in
        let rule_same : Some has.rule ≡ Some rule = sym has.at ∙ at_slot in
        let e : has.rule ≡ rule = cc in
        let layer : layer_of parts.variables rule.head.var ≡ Some found.item.layer = ap (λ (r : Rule). layer_of parts.variables r.head.var) (sym e) ∙ has.layer in
        record { place = found.place; within = omega (arith, heads_long, slice_get_within slots found.place found.item found.at); stands = stands_at parts slots rules found.place found.item rule heads_are conds_are found.at at_slot layer }
