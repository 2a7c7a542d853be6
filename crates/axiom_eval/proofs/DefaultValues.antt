-- Derived variables that get their defaults one by one.
use Rattle.std.proofs.Common.{◌≡◌, ◌≢◌, ◌∙◌, sym, ap, refl, ℕ, zero, suc, ◌+◌, ◌<◌, ◌≤◌, List, [], ◌∷◌, ◌++◌, length, map, take, Bool, true, false, nat_eq, nat_lt, ◌&&◌, ◌||◌, IsTrue, arith, slice_get, slice_set, get_or, get_or-set_same, get_or-set_other, Option, Some, None, if◌then◌else◌}
use Rattle.std.specs.Prelude.{is_some}
use Rattle.std.specs.List.{list_all, list_any, enumerate_from}
use Rattle.std.proofs.lemmas.Bool.Decides.{nat_tests}
use Rattle.std.proofs.lemmas.List.{ext_get_or, length-set, take_all}
use Rattle.std.proofs.lemmas.List.Folds.{list_any_more, list_any-append, list_all-append}
use Rattle.lama_num.proofs.ListLaws.{both}
use Rattle.sas_task.specs.declared.contents.Variable.{Variable}
use Rattle.sas_task.specs.declared.contents.Parts.{Parts}
use Rattle.sas_task.specs.WellFormed.{is_derived, layer_of}
use Rattle.sas_task.specs.States.{reset, default_or}
use Rattle.axiom_eval.specs.Defaults.{is_listed, has_default, AreDerived}
use Rattle.axiom_eval.specs.declared.tables.Derived.{Derived}

reset_from : (parts : Parts) (k : ℕ) (xs : List ℕ) (i : ℕ) → i < length xs → get_or (map (λ p. default_or parts p.0 p.1) (enumerate_from k xs)) i 0 ≡ default_or parts (k + i) (get_or xs i 0)
reset_from parts k [] i lt = absurd (omega arith)
reset_from parts k (x ∷ xs) zero lt = let e : k ≡ k + 0 = omega arith in ap (λ (n : ℕ). default_or parts n x) e
reset_from parts k (x ∷ xs) (suc i) lt = let e : k + 1 + i ≡ k + suc i = omega arith in reset_from parts (k + 1) xs i (omega arith) ∙ ap (λ (n : ℕ). default_or parts n (get_or xs i 0)) e

reset_long : (parts : Parts) (k : ℕ) (xs : List ℕ) → length (map (λ p. default_or parts p.0 p.1) (enumerate_from k xs)) ≡ length xs
reset_long parts k [] = refl
reset_long parts k (x ∷ xs) = let rest = reset_long parts (k + 1) xs in omega arith

pub all_at : {X : Type 0} (p : X → Bool) (xs : List X) (i : ℕ) (d : X) → list_all p xs ≡ true → i < length xs → p (get_or xs i d) ≡ true
all_at p [] i d all lt = absurd (omega arith)
all_at p (x ∷ xs) zero d all lt = (both (p x) (list_all p xs) all).0
all_at p (x ∷ xs) (suc i) d all lt = all_at p xs i d (both (p x) (list_all p xs) all).1 (omega arith)

-- some of the derived variables have their defaults
pub record IsResetTo (parts : Parts) (derived : List Derived) (old now : List ℕ) : Type 0 where
  pub long : length now ≡ length old
  pub at : (var : ℕ) → get_or now var 0 ≡ (if is_listed derived var then get_or parts.init var 0 else get_or old var 0)

pub reset_none : (parts : Parts) (old : List ℕ) → IsResetTo parts [] old old
reset_none parts old = record { long = refl; at = λ var. refl }

pub reset_more : (parts : Parts) (derived : List Derived) (i : ℕ) (d : Derived) (old mid now : List ℕ) → AreDerived parts derived → length old ≡ length parts.variables → i < length derived → IsResetTo parts (take i derived) old mid →
    now ≡ slice_set mid (get_or derived i d).var (get_or derived i d).default → IsResetTo parts (take (i + 1) derived) old now
reset_more parts derived i d old mid now are long lt so is = record {
  long = ap length is ∙ (length-set mid (get_or derived i d).var (get_or derived i d).default ∙ so.long);
  at = λ var. ap (λ (xs : List ℕ). get_or xs var 0) is ∙ (by var (nat_eq (get_or derived i d).var var) refl ∙ sym (ap (λ (b : Bool). if b then get_or parts.init var 0 else get_or old var 0) (list_any_more (λ x. nat_eq x.var var) derived i d lt)));
}
  where
    or_true : (a : Bool) → (a || true) ≡ true
    or_true true = refl
    or_true false = refl

    or_false : (a : Bool) → (a || false) ≡ a
    or_false true = refl
    or_false false = refl

    by : (var : ℕ) (b : Bool) → nat_eq (get_or derived i d).var var ≡ b → get_or (slice_set mid (get_or derived i d).var (get_or derived i d).default) var 0 ≡ (if is_listed (take i derived) var || nat_eq (get_or derived i d).var var then get_or parts.init var 0 else get_or old var 0)
    by var true same =
        let e : var ≡ (get_or derived i d).var = grind (arith, nat_tests, same) in
        let within = all_at (λ x. nat_lt x.var (length parts.variables)) derived i d are.within lt in
        let there : (get_or derived i d).var < length mid = grind (arith, nat_tests, within, so.long, long) in
        let test = all_at (has_default parts) derived i d are.defaults lt in
        let default : (get_or derived i d).default ≡ get_or parts.init (get_or derived i d).var 0 = grind (arith, nat_tests, test) in
        rw (same, or_true (is_listed (take i derived) var)) (ap (λ (n : ℕ). get_or (slice_set mid (get_or derived i d).var (get_or derived i d).default) n 0) e ∙ (get_or-set_same mid (get_or derived i d).var (get_or derived i d).default 0 there ∙ (default ∙ ap (λ (n : ℕ). get_or parts.init n 0) (sym e))))
    by var false other =
        let ne : var ≢ (get_or derived i d).var = grind (arith, nat_tests, other) in
        rw (other, or_false (is_listed (take i derived) var)) (get_or-set_other mid (get_or derived i d).var var (get_or derived i d).default 0 ne ∙ so.at var)

pub reset_all : (parts : Parts) (derived : List Derived) (i : ℕ) (old now : List ℕ) → AreDerived parts derived → length derived ≤ i → IsResetTo parts (take i derived) old now → now ≡ reset parts old
reset_all parts derived i old now are past so = ext_get_or 0 now (reset parts old) (so.long ∙ sym (reset_long parts 0 old)) (λ var lt. by var (omega (arith, lt, so.long)))
  where
    by : (var : ℕ) → var < length old → get_or now var 0 ≡ get_or (reset parts old) var 0
    by var lt =
        let e : 0 + var ≡ var = omega arith in
        let listed : is_listed (take i derived) var ≡ is_derived parts.variables var = ap (λ (xs : List Derived). is_listed xs var) (take_all i derived past) ∙ are.those var in
        so.at var ∙ (ap (λ (b : Bool). if b then get_or parts.init var 0 else get_or old var 0) listed ∙ (ap (λ (n : ℕ). default_or parts n (get_or old var 0)) (sym e) ∙ sym (reset_from parts 0 old var lt)))

-- the table of derived variables, as it is made
pub record AreDerivedTo (parts : Parts) (i : ℕ) (derived : List Derived) : Type 0 where
  pub those : (var : ℕ) → is_listed derived var ≡ (nat_lt var i && is_derived parts.variables var)
  pub defaults : IsTrue (list_all (has_default parts) derived)
  pub within : IsTrue (list_all (λ d. nat_lt d.var (length parts.variables)) derived)

pub derived_none : (parts : Parts) → AreDerivedTo parts 0 []
derived_none parts = record { those = λ var. none var; defaults = refl; within = refl }
  where
    none : (var : ℕ) → false ≡ (nat_lt var 0 && is_derived parts.variables var)
    none var = let less : nat_lt var 0 ≡ false = grind (arith, nat_tests) in rw less refl

is_derived_at : (variables : List Variable) (i : ℕ) (v : Variable) → slice_get variables i ≡ Some v → is_derived variables i ≡ is_some v.layer
is_derived_at variables i v at = rw at refl

same_below : (var i : ℕ) (own : Bool) → nat_eq i var ≡ false → (nat_lt var i && own) ≡ (nat_lt var (i + 1) && own)
same_below var i own other = let same : nat_lt var i ≡ nat_lt var (i + 1) = grind (arith, nat_tests, other) in rw same refl

pub derived_more : (parts : Parts) (i : ℕ) (v : Variable) (derived now : List Derived) (d : Derived) → slice_get parts.variables i ≡ Some v → is_some v.layer ≡ true → i < length parts.variables → AreDerivedTo parts i derived → now ≡ derived ++ d ∷ [] → d.var ≡ i → d.default ≡ get_or parts.init i 0 → AreDerivedTo parts (i + 1) now
derived_more parts i v derived now d at some lt so is var_is default_is = record {
  those = λ var. ap (λ (xs : List Derived). is_listed xs var) is ∙ (list_any-append (λ x. nat_eq x.var var) derived (d ∷ []) ∙ by var (nat_eq i var) refl);
  defaults = (let before = so.defaults in
      let here : has_default parts d ≡ true = grind (arith, nat_tests, default_is, ap (λ (n : ℕ). get_or parts.init n 0) var_is) in
      rw (is, list_all-append (has_default parts) derived (d ∷ []), before, here) refl);
  within = (let before = so.within in
      let here : nat_lt d.var (length parts.variables) ≡ true = grind (arith, nat_tests) in
      rw (is, list_all-append (λ (x : Derived). nat_lt x.var (length parts.variables)) derived (d ∷ []), before, here) refl);
}
  where
    or_true : (a : Bool) → (a || true) ≡ true
    or_true true = refl
    or_true false = refl

    or_false : (a : Bool) → (a || false) ≡ a
    or_false true = refl
    or_false false = refl

    by : (var : ℕ) (b : Bool) → nat_eq i var ≡ b → (is_listed derived var || (nat_eq d.var var || false)) ≡ (nat_lt var (i + 1) && is_derived parts.variables var)
    by var true same =
        let e : var ≡ i = grind (arith, nat_tests, same) in
        let here : nat_eq d.var var ≡ true = grind (arith, nat_tests, e, var_is) in
        let less : nat_lt var (i + 1) ≡ true = grind (arith, nat_tests, e) in
        let own : is_derived parts.variables var ≡ true = ap (is_derived parts.variables) e ∙ (is_derived_at parts.variables i v at ∙ some) in
        rw (here, less, own) (or_true (is_listed derived var))
    by var false other =
        let here : nat_eq d.var var ≡ false = grind (arith, nat_tests, other, var_is) in
        rw here (or_false (is_listed derived var) ∙ (so.those var ∙ same_below var i (is_derived parts.variables var) other))

pub derived_same : (parts : Parts) (i : ℕ) (v : Variable) (derived : List Derived) → slice_get parts.variables i ≡ Some v → is_some v.layer ≡ false → AreDerivedTo parts i derived → AreDerivedTo parts (i + 1) derived
derived_same parts i v derived at none so = record { those = λ var. so.those var ∙ by var (nat_eq i var) refl; defaults = so.defaults; within = so.within }
  where
    and_false : (a : Bool) → (a && false) ≡ false
    and_false true = refl
    and_false false = refl

    by : (var : ℕ) (b : Bool) → nat_eq i var ≡ b → (nat_lt var i && is_derived parts.variables var) ≡ (nat_lt var (i + 1) && is_derived parts.variables var)
    by var true same =
        let e : var ≡ i = grind (arith, nat_tests, same) in
        let own : is_derived parts.variables var ≡ false = ap (is_derived parts.variables) e ∙ (is_derived_at parts.variables i v at ∙ none) in
        rw own (and_false (nat_lt var i) ∙ sym (and_false (nat_lt var (i + 1))))
    by var false other = same_below var i (is_derived parts.variables var) other

pub derived_all : (parts : Parts) (i : ℕ) (derived : List Derived) → length parts.variables ≤ i → AreDerivedTo parts i derived → AreDerived parts derived
derived_all parts i derived past so = record { those = λ var. so.those var ∙ by var (nat_lt var i) refl; defaults = so.defaults; within = so.within }
  where
    past_none : (variables : List Variable) (var : ℕ) → length variables ≤ var → is_derived variables var ≡ false
    past_none [] var le = refl
    past_none (v ∷ variables) zero le = absurd (omega arith)
    past_none (v ∷ variables) (suc var) le = past_none variables var (omega arith)

    by : (var : ℕ) (b : Bool) → nat_lt var i ≡ b → (nat_lt var i && is_derived parts.variables var) ≡ is_derived parts.variables var
    by var true less = rw less refl
    by var false more =
        let none = past_none parts.variables var (grind (arith, nat_tests, more, past)) in
        rw more (sym none)
