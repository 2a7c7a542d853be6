-- How one more effect changes the order of preconditions.
use Rattle.std.specs.Prelude.{◌≡◌, ℕ, List, [], ◌∷◌, ◌++◌, length, Bool, true, false, ◌&&◌, ◌||◌, not, nat_eq, filter, take, drop, slice_get, zero, suc, Some, None}
use Rattle.std.proofs.Common.{arith, refl, sym, ap, ◌∙◌, subst, append-nil}
use Rattle.std.specs.List.{list_all}
use Rattle.std.proofs.lemmas.List.{length_push}
use Rattle.std.proofs.lemmas.List.Elements.{filter-append, filter_agree}
use Rattle.std.proofs.lemmas.Bool.Decides.{nat_tests}
use Rattle.lama_num.proofs.ListLaws.{both}
use Rattle.sas_task.specs.Facts.{same_fact, has_fact}
use Rattle.sas_task.specs.Order.{on_variable, effects_on, is_prevail, prevail}
use Rattle.sas_task.specs.declared.contents.Fact.{Fact}
use Rattle.sas_task.specs.declared.contents.Effect.{Effect}
use Rattle.sas_task.proofs.FactLists.{same-refl, same-true, isn't, has-append, filter-same, Apart, apart-filter}
use Rattle.lama_num.proofs.BoolLaws.{nat_eq-refl}
use Rattle.std.proofs.lemmas.Bool.{eqb-true as same_numbers}

-- filters

pub filter-swap : {X : Type 0} (p q : X → Bool) (xs : List X) → filter p (filter q xs) ≡ filter q (filter p xs)
filter-swap p q [] = refl
filter-swap p q (x ∷ xs) =
    let rest = filter-swap p q xs in
    elim (p x) as (λ b. p x ≡ b → filter p (filter q (x ∷ xs)) ≡ filter q (filter p (x ∷ xs))) [
      | true ↦ λ a. elim (q x) as (λ b. q x ≡ b → filter p (filter q (x ∷ xs)) ≡ filter q (filter p (x ∷ xs))) [
        | true ↦ λ b. simp (a, b) (ap (λ zs. x ∷ zs) rest)
        | false ↦ λ b. simp (a, b) rest
      ] refl
      | false ↦ λ a. elim (q x) as (λ b. q x ≡ b → filter p (filter q (x ∷ xs)) ≡ filter q (filter p (x ∷ xs))) [
        | true ↦ λ b. simp (a, b) rest
        | false ↦ λ b. simp (a, b) rest
      ] refl
    ] refl

-- one filter after another
pub filter-twice : {X : Type 0} (p q : X → Bool) (xs : List X) → filter p (filter q xs) ≡ filter (λ x. q x && p x) xs
filter-twice p q [] = refl
filter-twice p q (x ∷ xs) =
    let rest = filter-twice p q xs in
    elim (q x) as (λ b. q x ≡ b → filter p (filter q (x ∷ xs)) ≡ filter (λ x. q x && p x) (x ∷ xs)) [
      | true ↦ λ b. elim (p x) as (λ a. p x ≡ a → filter p (filter q (x ∷ xs)) ≡ filter (λ x. q x && p x) (x ∷ xs)) [
        | true ↦ λ a. simp (a, b) (ap (λ zs. x ∷ zs) rest)
        | false ↦ λ a. simp (a, b) rest
      ] refl
      | false ↦ λ b. simp b rest
    ] refl

pub filter-true : {X : Type 0} (xs : List X) → filter (λ x. true) xs ≡ xs
filter-true [] = refl
filter-true (x ∷ xs) = ap (λ zs. x ∷ zs) (filter-true xs)

-- what holds of each fact of a list holds of one that is there
pub has-all : (p : Fact → Bool) (xs : List Fact) (f : Fact) → list_all p xs ≡ true → has_fact xs f ≡ true → p f ≡ true
has-all p [] f all is = let k : false ≡ true = is in cc
has-all p (x ∷ xs) f all is =
    let parts = both (p x) (list_all p xs) all in
    elim (same_fact x f) as (λ b. same_fact x f ≡ b → p f ≡ true) [
      | true ↦ λ same. subst (λ g. p g ≡ true) (same-true x f same) parts.0
      | false ↦ λ other. let there : has_fact xs f ≡ true = rw other at is in has-all p xs f parts.1 there
    ] refl

pub filter-all : {X : Type 0} (p : X → Bool) (xs : List X) → list_all p (filter p xs) ≡ true
filter-all p [] = refl
filter-all p (x ∷ xs) =
    elim (p x) as (λ b. p x ≡ b → list_all p (filter p (x ∷ xs)) ≡ true) [
      | true ↦ λ is. simp is (filter-all p xs)
      | false ↦ λ is. simp is (filter-all p xs)
    ] refl

abbrev pub on : ℕ → Fact → Bool
on var f = nat_eq f.var var

-- a fact that is on a variable
pub on-var : (var : ℕ) (xs : List Fact) (f : Fact) → has_fact (on_variable var xs) f ≡ true → f.var ≡ var
on-var var xs f is = same_numbers f.var var (has-all (on var) (on_variable var xs) f (filter-all (on var) xs) is)

-- the facts that aren't among the first ones
filter_past : (m : ℕ) (xs : List Fact) → Apart xs → filter (λ f. not (has_fact (take m xs) f)) xs ≡ drop m xs
filter_past zero xs apart = filter-true xs
filter_past (suc m) [] apart = refl
filter_past (suc m) (x ∷ xs) apart =
    let agree = λ (f : Fact) (in_xs : has_fact xs f ≡ true). apart_from x f xs m apart.0 in_xs in
    rw (same-refl x) (filter-same (λ f. not (same_fact x f || has_fact (take m xs) f)) (λ f. not (has_fact (take m xs) f)) xs agree ∙ filter_past m xs apart.1)
  where
    apart_from : (x f : Fact) (xs : List Fact) (m : ℕ) → has_fact xs x ≡ false → has_fact xs f ≡ true → not (same_fact x f || has_fact (take m xs) f) ≡ not (has_fact (take m xs) f)
    apart_from x f xs m none is =
        elim (same_fact x f) as (λ b. same_fact x f ≡ b → not (same_fact x f || has_fact (take m xs) f) ≡ not (has_fact (take m xs) f)) [
          | true ↦ λ same. let k : has_fact xs x ≡ true = subst (λ g. has_fact xs g ≡ true) (sym (same-true x f same)) is in let clash : true ≡ false = sym k ∙ none in cc
          | false ↦ λ other. rw other refl
        ] refl

-- The prevail conditions on a variable are what the effects on it leave.
pub on-prevail : (pre : List Fact) (effects : List Effect) (var : ℕ) → Apart pre → on_variable var (prevail pre effects) ≡ drop (effects_on var effects) (on_variable var pre)
on-prevail pre effects var apart =
    let facts = on_variable var pre in
    let agree = λ (f : Fact) (is : has_fact facts f ≡ true). ap (λ w. not (has_fact (take (effects_on w effects) (on_variable w pre)) f)) (on-var var pre f is) in
    filter-swap (on var) (is_prevail pre effects) pre
    ∙ filter-same (is_prevail pre effects) (λ f. not (has_fact (take (effects_on var effects) facts) f)) facts agree
    ∙ filter_past (effects_on var effects) facts (apart-filter (on var) pre apart)

-- one more effect

abbrev acts_on : ℕ → Effect → Bool
acts_on var e = nat_eq e.fact.var var

pub effects_on-same : (effects : List Effect) (e : Effect) → effects_on e.fact.var (effects ++ e ∷ []) ≡ suc (effects_on e.fact.var effects)
effects_on-same effects e =
    let one : filter (acts_on e.fact.var) (e ∷ []) ≡ e ∷ [] = rw (nat_eq-refl e.fact.var) refl in
    let more = length_push (filter (acts_on e.fact.var) effects) e in
    ap length (filter-append (acts_on e.fact.var) effects (e ∷ []) ∙ ap (λ es. filter (acts_on e.fact.var) effects ++ es) one) ∙ omega (arith, more)

pub effects_on-other : (effects : List Effect) (e : Effect) (var : ℕ) → nat_eq e.fact.var var ≡ false → effects_on var (effects ++ e ∷ []) ≡ effects_on var effects
effects_on-other effects e var other =
    let none : filter (acts_on var) (e ∷ []) ≡ [] = rw other refl in
    ap length (filter-append (acts_on var) effects (e ∷ []) ∙ ap (λ es. filter (acts_on var) effects ++ es) none ∙ append-nil (filter (acts_on var) effects))

-- one more of a list

pub take-none : {X : Type 0} (xs : List X) (m : ℕ) → slice_get xs m ≡ None → take (suc m) xs ≡ take m xs
take-none [] zero none = refl
take-none [] (suc m) none = refl
take-none (x ∷ xs) zero none = let k : Some x ≡ None = none in cc
take-none (x ∷ xs) (suc m) none = ap (λ zs. x ∷ zs) (take-none xs m none)

pub take-some : {X : Type 0} (xs : List X) (m : ℕ) (x : X) → slice_get xs m ≡ Some x → take (suc m) xs ≡ take m xs ++ x ∷ []
take-some [] m x is = let k : None ≡ Some x = is in cc
take-some (y ∷ xs) zero x is = let k : Some y ≡ Some x = is in let e : y ≡ x = cc in ap (λ z. z ∷ []) e
take-some (y ∷ xs) (suc m) x is = ap (λ zs. y ∷ zs) (take-some xs m x is)

pub drop-some : {X : Type 0} (xs : List X) (m : ℕ) (x : X) → slice_get xs m ≡ Some x → drop m xs ≡ x ∷ drop (suc m) xs
drop-some [] m x is = let k : None ≡ Some x = is in cc
drop-some (y ∷ xs) zero x is = let k : Some y ≡ Some x = is in let e : y ≡ x = cc in ap (λ z. z ∷ xs) e
drop-some (y ∷ xs) (suc m) x is = drop-some xs m x is

pub drop-none : {X : Type 0} (xs : List X) (m : ℕ) → slice_get xs m ≡ None → drop m xs ≡ []
drop-none [] zero none = refl
drop-none [] (suc m) none = refl
drop-none (y ∷ xs) zero none = let k : Some y ≡ None = none in cc
drop-none (y ∷ xs) (suc m) none = drop-none xs m none

pub has-get : (xs : List Fact) (m : ℕ) (x : Fact) → slice_get xs m ≡ Some x → has_fact xs x ≡ true
has-get [] m x is = let k : None ≡ Some x = is in cc
has-get (y ∷ xs) zero x is = let k : Some y ≡ Some x = is in let e : y ≡ x = cc in subst (λ z. has_fact (z ∷ xs) x ≡ true) (sym e) (rw (same-refl x) refl)
has-get (y ∷ xs) (suc m) x is =
    elim (same_fact y x) as (λ b. same_fact y x ≡ b → has_fact (y ∷ xs) x ≡ true) [
      | true ↦ λ same. rw same refl
      | false ↦ λ other. rw other (has-get xs m x is)
    ] refl

-- An effect for which no precondition is left changes nothing.
pub prevail-none : (pre : List Fact) (effects : List Effect) (e : Effect) → slice_get (on_variable e.fact.var pre) (effects_on e.fact.var effects) ≡ None → prevail pre (effects ++ e ∷ []) ≡ prevail pre effects
prevail-none pre effects e none = filter_agree (is_prevail pre (effects ++ e ∷ [])) (is_prevail pre effects) agree pre
  where
    agree : (f : Fact) → is_prevail pre (effects ++ e ∷ []) f ≡ is_prevail pre effects f
    agree f =
        elim (nat_eq e.fact.var f.var) as (λ b. nat_eq e.fact.var f.var ≡ b → is_prevail pre (effects ++ e ∷ []) f ≡ is_prevail pre effects f) [
          | true ↦ λ is.
              let at : (w : ℕ) → e.fact.var ≡ w → take (effects_on w (effects ++ e ∷ [])) (on_variable w pre) ≡ take (effects_on w effects) (on_variable w pre) = λ w same. subst (λ w. take (effects_on w (effects ++ e ∷ [])) (on_variable w pre) ≡ take (effects_on w effects) (on_variable w pre)) same (ap (λ n. take n (on_variable e.fact.var pre)) (effects_on-same effects e) ∙ take-none (on_variable e.fact.var pre) (effects_on e.fact.var effects) none) in
              ap (λ fs. not (has_fact fs f)) (at f.var (same_numbers e.fact.var f.var is))
          | false ↦ λ other. ap (λ n. not (has_fact (take n (on_variable f.var pre)) f)) (effects_on-other effects e f.var other)
        ] refl

-- Else the first that is left is a prevail condition no more.
pub prevail-some : (pre : List Fact) (effects : List Effect) (e : Effect) (x : Fact) → slice_get (on_variable e.fact.var pre) (effects_on e.fact.var effects) ≡ Some x → prevail pre (effects ++ e ∷ []) ≡ filter (isn't x) (prevail pre effects)
prevail-some pre effects e x some = filter_agree (is_prevail pre (effects ++ e ∷ [])) (λ f. is_prevail pre effects f && isn't x f) agree pre ∙ sym (filter-twice (isn't x) (is_prevail pre effects) pre)
  where
    x_on : x.var ≡ e.fact.var
    x_on = on-var e.fact.var pre x (has-get (on_variable e.fact.var pre) (effects_on e.fact.var effects) x some)

    nor : (a b : Bool) → not (a || (b || false)) ≡ (not a && not b)
    nor true b = refl
    nor false true = refl
    nor false false = refl

    and_true : (a : Bool) → a ≡ (a && true)
    and_true true = refl
    and_true false = refl

    agree : (f : Fact) → is_prevail pre (effects ++ e ∷ []) f ≡ (is_prevail pre effects f && isn't x f)
    agree f =
        elim (nat_eq e.fact.var f.var) as (λ b. nat_eq e.fact.var f.var ≡ b → is_prevail pre (effects ++ e ∷ []) f ≡ (is_prevail pre effects f && isn't x f)) [
          | true ↦ λ is.
              let at : (w : ℕ) → e.fact.var ≡ w → take (effects_on w (effects ++ e ∷ [])) (on_variable w pre) ≡ take (effects_on w effects) (on_variable w pre) ++ x ∷ [] = λ w same. subst (λ w. take (effects_on w (effects ++ e ∷ [])) (on_variable w pre) ≡ take (effects_on w effects) (on_variable w pre) ++ x ∷ []) same (ap (λ n. take n (on_variable e.fact.var pre)) (effects_on-same effects e) ∙ take-some (on_variable e.fact.var pre) (effects_on e.fact.var effects) x some) in
              let before = take (effects_on f.var effects) (on_variable f.var pre) in
              ap (λ fs. not (has_fact fs f)) (at f.var (same_numbers e.fact.var f.var is)) ∙ ap not (has-append before (x ∷ []) f) ∙ nor (has_fact before f) (same_fact x f)
          | false ↦ λ other.
              let no : nat_eq x.var f.var ≡ false = subst (λ w. nat_eq w f.var ≡ false) (sym x_on) other in
              let apart : isn't x f ≡ true = rw no refl in
              ap (λ n. not (has_fact (take n (on_variable f.var pre)) f)) (effects_on-other effects e f.var other) ∙ and_true (is_prevail pre effects f) ∙ ap (λ b. is_prevail pre effects f && b) (sym apart)
        ] refl
