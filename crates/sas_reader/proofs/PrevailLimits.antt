-- There are no more prevail conditions than were listed before the effects.
use Rattle.std.proofs.Common.{◌≡◌, ◌∙◌, sym, ap, refl, ℕ, ◌+◌, ◌-◌, ◌<◌, ◌≤◌, ◌++◌, ◌∷◌, [], List, length, take, drop, Bool, true, false, nat_eq, map, filter, Option, Some, None, arith, length-append, length-drop}
use Rattle.std.specs.Prelude.{option_to_list, not, if◌then◌else◌}
use Rattle.std.specs.List.{list_all}
use Rattle.std.proofs.lemmas.List.{take-append-drop}
use Rattle.std.proofs.lemmas.List.Elements.{filter-append}
use Rattle.std.proofs.lemmas.List.Folds.{list_all-append}
use Rattle.std.proofs.lemmas.Bool.Decides.{nat_tests}
use Rattle.lama_num.proofs.ListLaws.{both}
use Rattle.sas_task.specs.Facts.{same_fact, has_fact}
use Rattle.sas_task.specs.Order.{distinct, on_variable, effects_on, is_prevail, prevail}
use Rattle.sas_task.proofs.TestLaws.{and_true, all-one, all-two}
use Rattle.sas_task.specs.declared.contents.Fact.{Fact}
use Rattle.sas_task.specs.declared.contents.Effect.{Effect}
use Rattle.sas_reader.specs.TaskText.{preconditions}
use Rattle.std.proofs.lemmas.Bool.{eqb-true as same_number}

-- how many facts are on a variable
abbrev on : ℕ → List Fact → ℕ
on var facts = length (on_variable var facts)

itself : (a : ℕ) → nat_eq a a ≡ true
itself a = grind (arith, nat_tests)

-- filters

filter_shorter : {X : Type 0} (p : X → Bool) (xs : List X) → length (filter p xs) ≤ length xs
filter_shorter p [] = omega arith
filter_shorter p (x ∷ xs) =
    let rest = filter_shorter p xs in
    elim (p x) as (λ t. p x ≡ t → length (filter p (x ∷ xs)) ≤ length (x ∷ xs)) [ true ↦ λ is. rw is (omega arith) | false ↦ λ is. rw is (omega arith) ] refl

filter_append : {X : Type 0} (p : X → Bool) (xs ys : List X) → length (filter p (xs ++ ys)) ≡ length (filter p xs) + length (filter p ys)
filter_append p xs ys = ap length (filter-append p xs ys) ∙ length-append (filter p xs) (filter p ys)

filter_twice : {X : Type 0} (p q : X → Bool) (xs : List X) → filter p (filter q xs) ≡ filter q (filter p xs)
filter_twice p q [] = refl
filter_twice p q (x ∷ xs) =
    let rest = filter_twice p q xs in
    elim (p x) as (λ t. p x ≡ t → filter p (filter q (x ∷ xs)) ≡ filter q (filter p (x ∷ xs))) [
      | true ↦ λ a. elim (q x) as (λ t. q x ≡ t → filter p (filter q (x ∷ xs)) ≡ filter q (filter p (x ∷ xs))) [ true ↦ λ b. rw (a, b, a, rest) refl | false ↦ λ b. rw (a, b, rest) refl ] refl
      | false ↦ λ a. elim (q x) as (λ t. q x ≡ t → filter p (filter q (x ∷ xs)) ≡ filter q (filter p (x ∷ xs))) [ true ↦ λ b. rw (a, b, a, rest) refl | false ↦ λ b. rw (a, b, rest) refl ] refl
    ] refl

-- distinct facts are no more than the facts, whatever the test
distinct_shorter : (p : Fact → Bool) (facts : List Fact) → length (filter p (distinct facts)) ≤ length (filter p facts)
distinct_shorter p [] = omega arith
distinct_shorter p (f ∷ fs) =
    let rest = distinct_shorter p fs in
    let fewer : length (filter (λ g. not (same_fact f g)) (filter p (distinct fs))) ≤ length (filter p (distinct fs)) = filter_shorter (λ g. not (same_fact f g)) (filter p (distinct fs)) in
    let same : filter p (filter (λ g. not (same_fact f g)) (distinct fs)) ≡ filter (λ g. not (same_fact f g)) (filter p (distinct fs)) = filter_twice p (λ g. not (same_fact f g)) (distinct fs) in
    elim (p f) as (λ t. p f ≡ t → length (filter p (distinct (f ∷ fs))) ≤ length (filter p (f ∷ fs))) [ true ↦ λ is. rw (is, same) (omega arith) | false ↦ λ is. rw (is, same) (omega arith) ] refl

-- facts that aren't among the first of a list are no more than the others

has_itself : (facts : List Fact) → list_all (has_fact facts) facts ≡ true
has_itself [] = refl
has_itself (f ∷ fs) = and_true (has_fact (f ∷ fs) f) (list_all (has_fact (f ∷ fs)) fs) (rw (itself f.var, itself f.val) refl) (all-one (has_fact fs) (has_fact (f ∷ fs)) fs more (has_itself fs))
  where
    more : (g : Fact) → has_fact fs g ≡ true → has_fact (f ∷ fs) g ≡ true
    more g is = elim (same_fact f g) as (λ t. same_fact f g ≡ t → has_fact (f ∷ fs) g ≡ true) [ true ↦ λ e. rw e refl | false ↦ λ e. rw (e, is) refl ] refl

filter_none : {X : Type 0} (p : X → Bool) (xs : List X) → list_all (λ x. not (p x)) xs ≡ true → length (filter p xs) ≡ 0
filter_none p [] all = refl
filter_none p (x ∷ xs) all =
    let two = both (not (p x)) (list_all (λ x. not (p x)) xs) all in
    elim (p x) as (λ t. p x ≡ t → length (filter p (x ∷ xs)) ≡ 0) [ true ↦ λ is. let c : false ≡ true = rw is at two.0 in cc | false ↦ λ is. rw is (filter_none p xs two.1) ] refl

filter_all : {X : Type 0} (p : X → Bool) (xs : List X) → list_all p (filter p xs) ≡ true
filter_all p [] = refl
filter_all p (x ∷ xs) = elim (p x) as (λ t. p x ≡ t → list_all p (filter p (x ∷ xs)) ≡ true) [ true ↦ λ is. rw (is, is) (filter_all p xs) | false ↦ λ is. rw is (filter_all p xs) ] refl

-- those of a variable that prevail are no more than those behind the first of them, one for each effect
prevail_on : (pre : List Fact) (effects : List Effect) (var : ℕ) → length (on_variable var (prevail pre effects)) ≤ length (on_variable var pre) - effects_on var effects
prevail_on pre effects var =
    let here : List Fact = on_variable var pre in
    let k : ℕ = effects_on var effects in
    let p : Fact → Bool = is_prevail pre effects in
    let turned : on_variable var (prevail pre effects) ≡ filter p here = filter_twice (λ f. nat_eq f.var var) p pre in
    let cut : take k here ++ drop k here ≡ here = take-append-drop k here in
    let split : length (filter p (take k here ++ drop k here)) ≡ length (filter p (take k here)) + length (filter p (drop k here)) = filter_append p (take k here) (drop k here) in
    let own : list_all (λ f. nat_eq f.var var) (take k here) ≡ true = (both (list_all (λ f. nat_eq f.var var) (take k here)) _ (sym (list_all-append (λ f. nat_eq f.var var) (take k here) (drop k here)) ∙ rw cut (filter_all (λ f. nat_eq f.var var) pre))).0 in
    let fails : list_all (λ f. not (p f)) (take k here) ≡ true = all-two (λ f. nat_eq f.var var) (has_fact (take k here)) (λ f. not (p f)) (take k here) (each pre effects var) own (has_itself (take k here)) in
    let none : length (filter p (take k here)) ≡ 0 = filter_none p (take k here) fails in
    let few : length (filter p (drop k here)) ≤ length (drop k here) = filter_shorter p (drop k here) in
    let rest : length (drop k here) ≡ length here - k = length-drop k here in
    let whole : length (filter p here) ≡ length (filter p (take k here ++ drop k here)) = ap (λ xs. length (filter p xs)) (sym cut) in
    let all : length (on_variable var (prevail pre effects)) ≡ length (filter p here) = ap length turned in
    omega arith
  where
    each : (pre : List Fact) (effects : List Effect) (var : ℕ) (f : Fact) → nat_eq f.var var ≡ true → has_fact (take (effects_on var effects) (on_variable var pre)) f ≡ true → not (is_prevail pre effects f) ≡ true
    each pre effects var f here has = ap (λ v. not (not (has_fact (take (effects_on v effects) (on_variable v pre)) f))) (same_number f.var var here) ∙ ap (λ b. not (not b)) has

-- an effect's precondition is on the variable that the effect changes
abbrev pub is_own_change : Option Fact × Effect → Bool
is_own_change e = list_all (λ f. nat_eq f.var e.1.fact.var) (option_to_list e.0)

own_on : (var : ℕ) (es : List (Option Fact × Effect)) → list_all is_own_change es ≡ true → on var (preconditions es) ≤ effects_on var (map (λ e. e.1) es)
own_on var [] good = omega arith
own_on var (e ∷ es) good = let two = both (is_own_change e) (list_all is_own_change es) good in one e.0 e.1 two.0 (own_on var es two.1)
  where
    one : (pre : Option Fact) (effect : Effect) → is_own_change (pre, effect) ≡ true → on var (preconditions es) ≤ effects_on var (map (λ e. e.1) es) → on var (preconditions ((pre, effect) ∷ es)) ≤ effects_on var (effect ∷ map (λ e. e.1) es)
    one None effect own rest = elim (nat_eq effect.fact.var var) as (λ t. nat_eq effect.fact.var var ≡ t → on var (preconditions ((None, effect) ∷ es)) ≤ effects_on var (effect ∷ map (λ e. e.1) es)) [
      | true ↦ λ is. rw is (omega arith)
      | false ↦ λ is. rw is rest
    ] refl
    one (Some f) effect own rest =
        let same : f.var ≡ effect.fact.var = same_number f.var effect.fact.var (both (nat_eq f.var effect.fact.var) true own).0 in
        elim (nat_eq effect.fact.var var) as (λ t. nat_eq effect.fact.var var ≡ t → on var (preconditions ((Some f, effect) ∷ es)) ≤ effects_on var (effect ∷ map (λ e. e.1) es)) [
          | true ↦ λ is. rw (same, is) (omega arith)
          | false ↦ λ is. rw (same, is) rest
        ] refl

-- a list with no more facts on any variable has no more facts

abbrev one_if : ℕ → ℕ → ℕ
one_if a b = if nat_eq a b then 1 else 0

on-cons : (var : ℕ) (f : Fact) (fs : List Fact) → on var (f ∷ fs) ≡ one_if f.var var + on var fs
on-cons var f fs = elim (nat_eq f.var var) as (λ t. nat_eq f.var var ≡ t → on var (f ∷ fs) ≡ one_if f.var var + on var fs) [ true ↦ λ is. rw is (omega arith) | false ↦ λ is. rw is (omega arith) ] refl

-- the facts but for the first on the variable
abbrev without : ℕ → List Fact → List Fact
without var [] = []
without var (f ∷ fs) = if nat_eq f.var var then fs else f ∷ without var fs

length-without : (var : ℕ) (fs : List Fact) → 0 < on var fs → length (without var fs) + 1 ≡ length fs
length-without var [] some = absurd (omega arith)
length-without var (f ∷ fs) some = elim (nat_eq f.var var) as (λ t. nat_eq f.var var ≡ t → length (without var (f ∷ fs)) + 1 ≡ length (f ∷ fs)) [
  | true ↦ λ is. rw is (omega arith)
  | false ↦ λ is. let more : 0 < on var fs = rw is at some in let rest = length-without var fs more in rw is (omega arith)
] refl

on-without : (var other : ℕ) (fs : List Fact) → on other fs ≤ on other (without var fs) + one_if var other
on-without var other [] = omega arith
on-without var other (f ∷ fs) =
    let here = on-cons other f fs in
    elim (nat_eq f.var var) as (λ t. nat_eq f.var var ≡ t → on other (f ∷ fs) ≤ on other (without var (f ∷ fs)) + one_if var other) [
      | true ↦ λ is. let same : f.var ≡ var = same_number f.var var is in let counted : on other (f ∷ fs) ≡ one_if var other + on other fs = here ∙ ap (λ v. one_if v other + on other fs) same in rw is (omega arith)
      | false ↦ λ is. let rest = on-without var other fs in let kept = on-cons other f (without var fs) in rw is (omega arith)
    ] refl

fewer : (xs ys : List Fact) → ((var : ℕ) → on var xs ≤ on var ys) → length xs ≤ length ys
fewer [] ys le = omega arith
fewer (x ∷ xs) ys le =
    let counted : on x.var (x ∷ xs) ≡ 1 + on x.var xs = on-cons x.var x xs ∙ ap (λ b. (if b then 1 else 0) + on x.var xs) (itself x.var) in
    let here : on x.var (x ∷ xs) ≤ on x.var ys = le x.var in
    let one : length (without x.var ys) + 1 ≡ length ys = length-without x.var ys (omega arith) in
    let rest : length xs ≤ length (without x.var ys) = fewer xs (without x.var ys) (λ var. let a = on-cons var x xs in let b = le var in let c = on-without x.var var ys in omega arith) in
    omega arith

-- the conditions that prevail are no more than those that were listed to
pub prevail_few : (listed : List Fact) (es : List (Option Fact × Effect)) → list_all is_own_change es ≡ true → length (prevail (distinct (listed ++ preconditions es)) (map (λ e. e.1) es)) ≤ length listed
prevail_few listed es good = fewer (prevail (distinct (listed ++ preconditions es)) (map (λ e. e.1) es)) listed (λ var.
    let prevailing = prevail_on (distinct (listed ++ preconditions es)) (map (λ e. e.1) es) var in
    let shorter = distinct_shorter (λ f. nat_eq f.var var) (listed ++ preconditions es) in
    let split = filter_append (λ f. nat_eq f.var var) listed (preconditions es) in
    let own = own_on var es good in
    omega arith)
