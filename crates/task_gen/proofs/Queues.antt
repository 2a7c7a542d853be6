-- Queues of preconditions, step by step.
use Rattle.std.proofs.Common.{◌≡◌, ◌≢◌, ◌∙◌, sym, ap, subst, refl, ℕ, zero, suc, ◌+◌, ◌<◌, ◌≤◌, List, [], ◌∷◌, ◌++◌, length, take, drop, map, get_or, set, Bool, true, false, ◌&&◌, ◌||◌, not, nat_eq, nat_lt, Option, Some, None, arith, append-nil, get_or-set_same, get_or-set_other}
use Rattle.std.specs.Prelude.{slice_get, option_map, option_to_list}
use Rattle.std.specs.List.{list_all, filter, enumerate_from}
use Rattle.std.proofs.lemmas.Bool.Decides.{nat_tests}
use Rattle.std.proofs.lemmas.List.{length-set, length-take-le, length_push, get_or_push, get_or_append_left, take_more, take_all, drop_more, drop_all, map-append}
use Rattle.std.proofs.lemmas.List.Elements.{filter-append, filter_agree}
use Rattle.std.proofs.lemmas.Option.{slice_get-get_or}
use Rattle.lama_num.proofs.ListLaws.{list_all_get}
use Rattle.sas_task.specs.Facts.{same_fact, has_fact}
use Rattle.sas_task.specs.Order.{distinct, on_variable, effects_on, is_prevail, prevail}
use Rattle.sas_task.specs.declared.contents.Fact.{Fact}
use Rattle.sas_task.specs.declared.contents.Effect.{Effect}
use Rattle.task_gen.specs.Printed.{old_value}
use Rattle.task_gen.specs.Waiting.{Waits, first_is, is_front}
use Rattle.std.proofs.lemmas.Bool.{eqb-true as same_number}
use Rattle.lama_num.proofs.BoolLaws.{nat_eq-refl as same_test}
use Rattle.task_gen.proofs.SameFacts.{has-filter, effects_on-append}
use Rattle.sas_task.proofs.FactLists.{Apart}
use Rattle.sas_task.proofs.MovedPreconditions.{prevail-nil}

-- one more fact waits

on-push_same : (facts : List Fact) (f : Fact) → on_variable f.var (facts ++ f ∷ []) ≡ on_variable f.var facts ++ f ∷ []
on-push_same facts f = filter-append (λ g. nat_eq g.var f.var) facts (f ∷ []) ∙ rw (same_test f.var) refl

on-push_other : (facts : List Fact) (f : Fact) (var : ℕ) → nat_eq f.var var ≡ false → on_variable var (facts ++ f ∷ []) ≡ on_variable var facts
on-push_other facts f var other = filter-append (λ g. nat_eq g.var var) facts (f ∷ []) ∙ rw other (append-nil (on_variable var facts))

and_false : (a b : Bool) → a ≡ false → (a && b) ≡ false
and_false true b is = let k : true ≡ false = is in cc
and_false false b is = refl

or_false : (a b : Bool) → (a || b) ≡ false → (a ≡ false) × (b ≡ false)
or_false true b is = let k : true ≡ false = is in cc
or_false false b is = (refl, is)

apart-filter : (p : Fact → Bool) (xs : List Fact) → Apart xs → Apart (filter p xs)
apart-filter p [] apart = tt
apart-filter p (x ∷ xs) apart =
    elim (p x) as (λ b. p x ≡ b → Apart (filter p (x ∷ xs))) [
      | true ↦ λ is. rw is (has-filter p xs x ∙ and_false (has_fact xs x) (p x) apart.0, apart-filter p xs apart.1)
      | false ↦ λ is. rw is (apart-filter p xs apart.1)
    ] refl

apart-distinct : (xs : List Fact) → Apart (distinct xs)
apart-distinct [] = tt
apart-distinct (x ∷ xs) =
    (has-filter (λ g. not (same_fact x g)) (distinct xs) x ∙ itself (has_fact (distinct xs) x), apart-filter (λ g. not (same_fact x g)) (distinct xs) (apart-distinct xs))
  where
    none : (b : Bool) → (b && false) ≡ false
    none true = refl
    none false = refl

    itself : (b : Bool) → (b && not (same_fact x x)) ≡ false
    itself b = rw (same_test x.var, same_test x.val) (none b)

pub apart-once : (xs : List Fact) → distinct xs ≡ xs → Apart xs
apart-once xs once = subst Apart once (apart-distinct xs)

filter-true : {X : Type 0} (xs : List X) → filter (λ x. true) xs ≡ xs
filter-true [] = refl
filter-true (x ∷ xs) = ap (λ ys. x ∷ ys) (filter-true xs)

filter-twice : {X : Type 0} (p q : X → Bool) (xs : List X) → filter p (filter q xs) ≡ filter (λ x. q x && p x) xs
filter-twice p q [] = refl
filter-twice p q (x ∷ xs) =
    let rest = filter-twice p q xs in
    elim (q x) as (λ b. q x ≡ b → filter p (filter q (x ∷ xs)) ≡ filter (λ x. q x && p x) (x ∷ xs)) [
      | true ↦ λ b. elim (p x) as (λ a. p x ≡ a → filter p (filter q (x ∷ xs)) ≡ filter (λ x. q x && p x) (x ∷ xs)) [
        | true ↦ λ a. simp (a, b) (ap (λ ys. x ∷ ys) rest)
        | false ↦ λ a. simp (a, b) rest
      ] refl
      | false ↦ λ b. simp b rest
    ] refl

-- a fact that isn't there decides nothing
filter_absent : (x : Fact) (r : Fact → Bool) (xs : List Fact) → has_fact xs x ≡ false → filter (λ f. not (same_fact x f || r f)) xs ≡ filter (λ f. not (r f)) xs
filter_absent x r [] none = refl
filter_absent x r (y ∷ ys) none =
    let parts = or_false (same_fact y x) (has_fact ys x) none in
    let first : same_fact y x ≡ false = parts.0 in
    let other : same_fact x y ≡ false = grind (arith, nat_tests, first) in
    let rest = filter_absent x r ys parts.1 in
    elim (r y) as (λ b. r y ≡ b → filter (λ f. not (same_fact x f || r f)) (y ∷ ys) ≡ filter (λ f. not (r f)) (y ∷ ys)) [
      | true ↦ λ is. rw (other, is) rest
      | false ↦ λ is. rw (other, is) (ap (λ zs. y ∷ zs) rest)
    ] refl

-- the facts that aren't among the first ones
filter_past : (k : ℕ) (xs : List Fact) → Apart xs → filter (λ f. not (has_fact (take k xs) f)) xs ≡ drop k xs
filter_past zero xs apart = filter-true xs
filter_past (suc k) [] apart = refl
filter_past (suc k) (x ∷ xs) apart =
    rw (same_test x.var, same_test x.val) (filter_absent x (has_fact (take k xs)) xs apart.0 ∙ filter_past k xs apart.1)

-- the prevail conditions on a variable are those behind the first ones, one for each effect
on-prevail : (pre : List Fact) (es : List Effect) (var : ℕ) → Apart pre → on_variable var (prevail pre es) ≡ drop (effects_on var es) (on_variable var pre)
on-prevail pre es var apart =
    let facts = on_variable var pre in
    filter-twice (λ f. nat_eq f.var var) (is_prevail pre es) pre
    ∙ filter_agree (λ f. is_prevail pre es f && nat_eq f.var var) (λ f. nat_eq f.var var && not (has_fact (take (effects_on var es) facts) f)) agree pre
    ∙ sym (filter-twice (λ f. not (has_fact (take (effects_on var es) facts) f)) (λ f. nat_eq f.var var) pre)
    ∙ filter_past (effects_on var es) facts (apart-filter (λ f. nat_eq f.var var) pre apart)
  where
    swapped : (a : Bool) → (a && true) ≡ a
    swapped true = refl
    swapped false = refl

    none : (a : Bool) → (a && false) ≡ false
    none true = refl
    none false = refl

    agree : (f : Fact) → (is_prevail pre es f && nat_eq f.var var) ≡ (nat_eq f.var var && not (has_fact (take (effects_on var es) (on_variable var pre)) f))
    agree f = elim (nat_eq f.var var) as (λ b. nat_eq f.var var ≡ b → (is_prevail pre es f && nat_eq f.var var) ≡ (nat_eq f.var var && not (has_fact (take (effects_on var es) (on_variable var pre)) f))) [
      | true ↦ λ is. rw is (swapped (is_prevail pre es f) ∙ ap (λ v. not (has_fact (take (effects_on v es) (on_variable v pre)) f)) (same_number f.var var is))
      | false ↦ λ other. rw other (none (is_prevail pre es f))
    ] refl

-- one more effect takes the first that waits on its variable

popped : {X : Type 0} (k : ℕ) (xs : List X) (o : Option X) (rest : List X) → drop k xs ≡ option_to_list o ++ rest → rest ≡ drop 1 (drop k xs) → (o ≡ slice_get xs k) × (rest ≡ drop (suc k) xs)
popped zero [] None rest is behind = (refl, behind)
popped {X} zero [] (Some x) rest is behind = let c : ◌≡◌ {A = List X} [] (x ∷ rest) = is in cc
popped {X} zero (y ∷ xs) None rest is behind = absurd (longer is behind)
  where
    longer : y ∷ xs ≡ rest → rest ≡ xs → ⊥
    longer a b = omega (arith, ap length a, ap length b)
popped {X} zero (y ∷ xs) (Some x) rest is behind = let c : y ∷ xs ≡ x ∷ rest = is in let e : x ≡ y = cc in (ap (λ z. Some z) e, behind)
popped (suc k) [] None rest is behind = (refl, behind)
popped {X} (suc k) [] (Some x) rest is behind = let c : ◌≡◌ {A = List X} [] (x ∷ rest) = is in cc
popped (suc k) (y ∷ xs) o rest is behind = popped k xs o rest is behind

effects_on-push_same : (es : List Effect) (e : Effect) → effects_on e.fact.var (es ++ e ∷ []) ≡ suc (effects_on e.fact.var es)
effects_on-push_same es e =
    let more = effects_on-append e.fact.var es (e ∷ []) in
    let one : effects_on e.fact.var (e ∷ []) ≡ 1 = rw (same_test e.fact.var) refl in
    omega (arith, more, one)

effects_on-push_other : (es : List Effect) (e : Effect) (var : ℕ) → nat_eq e.fact.var var ≡ false → effects_on var (es ++ e ∷ []) ≡ effects_on var es
effects_on-push_other es e var other =
    let more = effects_on-append var es (e ∷ []) in
    let none : effects_on var (e ∷ []) ≡ 0 = rw other refl in
    omega (arith, more, none)

-- what waits is taken in the order of a list

first_absent : (facts : List Fact) (p : Fact → Bool) (f : Fact) → has_fact facts f ≡ false → first_is (on_variable f.var (filter p facts)) f ≡ false
first_absent facts p f none = absent (on_variable f.var (filter p facts)) (has-filter (λ g. nat_eq g.var f.var) (filter p facts) f ∙ ap (λ b. b && nat_eq f.var f.var) (has-filter p facts f ∙ and_false (has_fact facts f) (p f) none))
  where
    absent : (xs : List Fact) → has_fact xs f ≡ false → first_is xs f ≡ false
    absent [] none = refl
    absent (x ∷ xs) none = (or_false (same_fact x f) (has_fact xs f) none).0

-- loops

enumerate-push : {X : Type 0} (n : ℕ) (xs : List X) (x : X) → enumerate_from n (xs ++ x ∷ []) ≡ enumerate_from n xs ++ (n + length xs, x) ∷ []
enumerate-push n [] x = ap (λ k. (k, x) ∷ []) (let e : n ≡ n + 0 = omega arith in e)
enumerate-push n (y ∷ xs) x = ap (λ ys. (n, y) ∷ ys) (enumerate-push (n + 1) xs x ∙ ap (λ k. enumerate_from (n + 1) xs ++ (k, x) ∷ []) (let e : n + 1 + length xs ≡ n + suc (length xs) = omega arith in e))

apart-drop : (i : ℕ) (xs : List Fact) → Apart xs → Apart (drop i xs)
apart-drop zero xs apart = apart
apart-drop (suc i) [] apart = tt
apart-drop (suc i) (x ∷ xs) apart = apart-drop i xs apart.1

-- what a list tells of one of its items
pub within_at : {X : Type 0} (var_of : X → ℕ) (n : ℕ) (xs : List X) (i : ℕ) (x d : X) → list_all (λ x. nat_lt (var_of x) n) xs ≡ true → i < length xs → x ≡ get_or xs i d → var_of x < n
within_at var_of n xs i x d all lt at =
    let is : nat_lt (var_of x) n ≡ true = list_all_get (λ x. nat_lt (var_of x) n) xs i x all (slice_get-get_or xs i d lt ∙ ap (λ y. Some y) (sym at)) in
    grind (arith, nat_tests, is)

-- queues, of which each holds facts
module _ {Q : Type 0} (items : Q → List Fact) where
  -- one queue is another one now, and the facts that wait on all other variables are the same
  pub waits-set : (queues : List Q) (old new : List Fact) (v : ℕ) (q : Q) → Waits items queues old → v < length queues → items q ≡ on_variable v new → ((var : ℕ) → nat_eq v var ≡ false → on_variable var new ≡ on_variable var old) → Waits items (set queues v q) new
  waits-set queues old new v q waits lt here others = record {
    on = λ var d within.
        elim (nat_eq v var) as (λ b. nat_eq v var ≡ b → items (get_or (set queues v q) var d) ≡ on_variable var new) [
          | true ↦ λ is.
              let e = same_number v var is in
              rw (← e) (ap items (get_or-set_same queues v q d lt) ∙ here)
          | false ↦ λ other.
              let apart : var ≢ v = λ e. (let k : true ≡ false = sym (same_test v) ∙ ap (nat_eq v) (sym e) ∙ other in cc) in
              ap items (get_or-set_other queues v var q d apart) ∙ waits.on var d (bound var within) ∙ sym (others var other)
        ] refl;
  }
    where
      bound : (var : ℕ) → var < length (set queues v q) → var < length queues
      bound var within = omega (arith, within, length-set queues v q)

  pub waits-push : (queues : List Q) (facts : List Fact) (f : Fact) (q new : Q) → Waits items queues facts → f.var < length queues → q ≡ get_or queues f.var q → items new ≡ items q ++ f ∷ [] → Waits items (set queues f.var new) (facts ++ f ∷ [])
  waits-push queues facts f q new waits lt at is =
      let before : items q ≡ on_variable f.var facts = ap items at ∙ waits.on f.var q lt in
      waits-set queues facts (facts ++ f ∷ []) f.var new waits lt (is ∙ ap (λ fs. fs ++ f ∷ []) before ∙ sym (on-push_same facts f)) (on-push_other facts f)

  pub record Pops (queues : List Q) (pre : List Fact) (es : List Effect) (e : Effect) (o : Option Fact) (new : Q) : Type 0 where
    pub first : o ≡ slice_get (on_variable e.fact.var pre) (effects_on e.fact.var es)
    pub waits : Waits items (set queues e.fact.var new) (prevail pre (es ++ e ∷ []))

  pub waits-pop : (queues : List Q) (pre : List Fact) (es : List Effect) (e : Effect) (d new : Q) (o : Option Fact) → distinct pre ≡ pre → Waits items queues (prevail pre es) → e.fact.var < length queues →
      items (get_or queues e.fact.var d) ≡ option_to_list o ++ items new → items new ≡ drop 1 (items (get_or queues e.fact.var d)) → Pops queues pre es e o new
  waits-pop queues pre es e d new o once waits lt is behind =
      let apart = apart-once pre once in
      let v = e.fact.var in
      let k = effects_on v es in
      let before : items (get_or queues v d) ≡ drop k (on_variable v pre) = waits.on v d lt ∙ on-prevail pre es v apart in
      let both = popped k (on_variable v pre) o (items new) (sym before ∙ is) (behind ∙ ap (drop 1) before) in
      record {
        first = both.0;
        waits = waits-set queues (prevail pre es) (prevail pre (es ++ e ∷ [])) v new waits lt
            (both.1 ∙ sym (on-prevail pre (es ++ e ∷ []) v apart ∙ ap (λ n. drop n (on_variable v pre)) (effects_on-push_same es e)))
            (λ var other. on-prevail pre (es ++ e ∷ []) var apart ∙ ap (λ n. drop n (on_variable var pre)) (effects_on-push_other es e var other) ∙ sym (on-prevail pre es var apart));
      }

  pub record IsNext (queues : List Q) (f : Fact) (p : Fact → Bool) (rest : List Fact) : Type 0 where
    pub test : is_front items queues f ≡ p f
    pub passed : p f ≡ false → Waits items queues (filter p rest)
    pub taken : p f ≡ true → (new : Q) → (d : Q) → items new ≡ drop 1 (items (get_or queues f.var d)) → Waits items (set queues f.var new) (filter p rest)

  front_of : (queues : List Q) (f : Fact) (d : Q) (facts : List Fact) → f.var < length queues → items (get_or queues f.var d) ≡ facts → is_front items queues f ≡ first_is facts f
  front_of queues f d facts lt is = rw (slice_get-get_or queues f.var d lt) (found (items (get_or queues f.var d)) facts is)
    where
      found : (xs ys : List Fact) → xs ≡ ys → first_is xs f ≡ first_is ys f
      found xs ys e = ap (λ zs. first_is zs f) e

  pub is_next : (queues : List Q) (f : Fact) (p : Fact → Bool) (rest : List Fact) (d : Q) → Waits items queues (filter p (f ∷ rest)) → has_fact rest f ≡ false → f.var < length queues → IsNext queues f p rest
  is_next queues f p rest d waits none lt =
      elim (p f) as (λ b. p f ≡ b → IsNext queues f p rest) [
        | true ↦ λ is.
            let all : filter p (f ∷ rest) ≡ f ∷ filter p rest = rw is refl in
            let here : on_variable f.var (filter p (f ∷ rest)) ≡ f ∷ on_variable f.var (filter p rest) = ap (on_variable f.var) all ∙ rw (same_test f.var) refl in
            record {
              test = front_of queues f d (f ∷ on_variable f.var (filter p rest)) lt (waits.on f.var d lt ∙ here) ∙ rw (same_test f.var, same_test f.val) (sym is);
              passed = λ no. (let c : true ≡ false = sym is ∙ no in cc);
              taken = λ _ new e behind. waits-set queues (filter p (f ∷ rest)) (filter p rest) f.var new waits lt (behind ∙ ap (drop 1) (waits.on f.var e lt ∙ here))
                  (λ var other. sym (ap (on_variable var) all ∙ rw other refl));
            }
        | false ↦ λ is.
            let all : filter p (f ∷ rest) ≡ filter p rest = rw is refl in
            record {
              test = front_of queues f d (on_variable f.var (filter p rest)) lt (waits.on f.var d lt ∙ ap (on_variable f.var) all) ∙ first_absent rest p f none ∙ sym is;
              passed = λ _. subst (Waits items queues) all waits;
              taken = λ yes. (let c : false ≡ true = sym is ∙ yes in cc);
            }
      ] refl

  -- the first effects have taken what stands for them
  pub record Stood (old queues : List Q) (effects : List Effect) (olds : List (Option ℕ)) (i : ℕ) : Type 0 where
    pub stood : (pre : List Fact) → distinct pre ≡ pre → Waits items old pre → (olds ≡ map (old_value pre effects) (enumerate_from 0 (take i effects))) × Waits items queues (prevail pre (take i effects))

  pub stood_none : (queues : List Q) (effects : List Effect) → Stood queues queues effects [] 0
  stood_none queues effects = record { stood = λ pre once waits. (refl, subst (Waits items queues) (sym (prevail-nil pre)) waits) }

  pub stood_more : (old queues : List Q) (effects : List Effect) (olds : List (Option ℕ)) (i : ℕ) (e d : Effect) (q new : Q) (o : Option Fact) → Stood old queues effects olds i → i < length effects → e ≡ get_or effects i d →
      e.fact.var < length queues → items (get_or queues e.fact.var q) ≡ option_to_list o ++ items new → items new ≡ drop 1 (items (get_or queues e.fact.var q)) →
      Stood old (set queues e.fact.var new) effects (olds ++ option_map (λ f. f.val) o ∷ []) (i + 1)
  stood_more old queues effects olds i e d q new o so_far lt at within is behind = record {
    stood = λ pre once waits.
        let before = so_far.stood pre once waits in
        let pops = waits-pop queues pre (take i effects) e q new o once before.1 within is behind in
        let one : take (i + 1) effects ≡ take i effects ++ e ∷ [] = take_more effects i d lt ∙ ap (λ x. take i effects ++ x ∷ []) (sym at) in
        let long : length (take i effects) ≡ i = length-take-le i effects (omega arith) in
        let places : enumerate_from 0 (take (i + 1) effects) ≡ enumerate_from 0 (take i effects) ++ (i, e) ∷ [] =
        ap (enumerate_from 0) one ∙ enumerate-push 0 (take i effects) e ∙ ap (λ k. enumerate_from 0 (take i effects) ++ (k, e) ∷ []) (let s : 0 + length (take i effects) ≡ i = omega arith in s) in (
          ap (λ xs. xs ++ option_map (λ f. f.val) o ∷ []) before.0 ∙ ap (λ x. map (old_value pre effects) (enumerate_from 0 (take i effects)) ++ option_map (λ f. f.val) x ∷ []) pops.first
              ∙ sym (ap (map (old_value pre effects)) places ∙ map-append (old_value pre effects) (enumerate_from 0 (take i effects)) ((i, e) ∷ [])),
          subst (λ es. Waits items (set queues e.fact.var new) (prevail pre es)) (sym one) pops.waits,
        );
  }

  pub stood_all : (old queues : List Q) (effects : List Effect) (olds : List (Option ℕ)) (i : ℕ) → Stood old queues effects olds i → length effects ≤ i → (pre : List Fact) → distinct pre ≡ pre → Waits items old pre → (olds ≡ map (old_value pre effects) (enumerate_from 0 effects)) × Waits items queues (prevail pre effects)
  stood_all old queues effects olds i so_far le pre once waits =
      let whole : take i effects ≡ effects = take_all i effects le in
      let all = so_far.stood pre once waits in
      (all.0 ∙ ap (λ es. map (old_value pre effects) (enumerate_from 0 es)) whole, subst (λ es. Waits items queues (prevail pre es)) whole all.1)

  -- what waited among the first facts was taken
  pub record Left (old queues : List Q) (pre left : List Fact) (i : ℕ) : Type 0 where
    pub left_is : (p : Fact → Bool) → Waits items old (filter p pre) → (left ≡ filter p (take i pre)) × Waits items queues (filter p (drop i pre))

  some_queue : (queues : List Q) (v : ℕ) → v < length queues → Q
  some_queue [] v lt = absurd (omega arith)
  some_queue (q ∷ queues) v lt = q

  pub left_none : (queues : List Q) (pre : List Fact) → Left queues queues pre [] 0
  left_none queues pre = record { left_is = λ p waits. (refl, waits) }

  record OneLeft (queues : List Q) (pre : List Fact) (i : ℕ) (f : Fact) (p : Fact → Bool) : Type 0 where
    next : IsNext queues f p (drop (i + 1) pre)
    more : filter p (take (i + 1) pre) ≡ filter p (take i pre) ++ filter p (f ∷ [])

  one_left : (queues : List Q) (pre : List Fact) (i : ℕ) (f d : Fact) (p : Fact → Bool) → distinct pre ≡ pre → i < length pre → f ≡ get_or pre i d → f.var < length queues → Waits items queues (filter p (drop i pre)) → OneLeft queues pre i f p
  one_left queues pre i f d p once lt at within waits =
      let split : drop i pre ≡ f ∷ drop (i + 1) pre = drop_more pre i d lt ∙ ap (λ x. x ∷ drop (i + 1) pre) (sym at) in
      let apart : Apart (f ∷ drop (i + 1) pre) = subst Apart split (apart-drop i pre (apart-once pre once)) in
      let one : take (i + 1) pre ≡ take i pre ++ f ∷ [] = take_more pre i d lt ∙ ap (λ x. take i pre ++ x ∷ []) (sym at) in
      record {
        next = is_next queues f p (drop (i + 1) pre) (some_queue queues f.var within) (subst (λ fs. Waits items queues (filter p fs)) split waits) apart.0 within;
        more = ap (filter p) one ∙ filter-append p (take i pre) (f ∷ []);
      }

  pub left_keeps : (old queues : List Q) (pre left : List Fact) (i : ℕ) (f d : Fact) → Left old queues pre left i → distinct pre ≡ pre → i < length pre → f ≡ get_or pre i d → f.var < length queues → is_front items queues f ≡ false → Left old queues pre left (i + 1)
  left_keeps old queues pre left i f d so_far once lt at within other = record {
    left_is = λ p waits.
        let before = so_far.left_is p waits in
        let here = one_left queues pre i f d p once lt at within before.1 in
        let no : p f ≡ false = sym here.next.test ∙ other in
        let none : filter p (f ∷ []) ≡ [] = rw no refl in
        (before.0 ∙ sym (here.more ∙ ap (λ fs. filter p (take i pre) ++ fs) none ∙ append-nil (filter p (take i pre))), here.next.passed no);
  }

  pub left_takes : (old queues : List Q) (pre left : List Fact) (i : ℕ) (f d : Fact) (q new : Q) → Left old queues pre left i → distinct pre ≡ pre → i < length pre → f ≡ get_or pre i d → f.var < length queues → is_front items queues f ≡ true →
      items new ≡ drop 1 (items (get_or queues f.var q)) → Left old (set queues f.var new) pre (left ++ f ∷ []) (i + 1)
  left_takes old queues pre left i f d q new so_far once lt at within first behind = record {
    left_is = λ p waits.
        let before = so_far.left_is p waits in
        let here = one_left queues pre i f d p once lt at within before.1 in
        let is : p f ≡ true = sym here.next.test ∙ first in
        let one : filter p (f ∷ []) ≡ f ∷ [] = rw is refl in
        (ap (λ fs. fs ++ f ∷ []) before.0 ∙ sym (here.more ∙ ap (λ fs. filter p (take i pre) ++ fs) one), here.next.taken is new q behind);
  }

  pub left_all : (old queues : List Q) (pre left : List Fact) (i : ℕ) → Left old queues pre left i → length pre ≤ i → (p : Fact → Bool) → Waits items old (filter p pre) → (left ≡ filter p pre) × Waits items queues []
  left_all old queues pre left i so_far le p waits =
      let all = so_far.left_is p waits in
      (all.0 ∙ ap (filter p) (take_all i pre le), subst (λ fs. Waits items queues (filter p fs)) (drop_all i pre le) all.1)

  -- nothing waits in empty queues
  pub waits_nothing : (queues : List Q) (q : Q) → Waits items queues [] → items q ≡ [] → Waits items (queues ++ q ∷ []) []
  waits_nothing queues q waits empty = record {
    on = λ var d within.
        elim (nat_lt var (length queues)) as (λ b. nat_lt var (length queues) ≡ b → items (get_or (queues ++ q ∷ []) var d) ≡ []) [
          | true ↦ λ is. let lt : var < length queues = grind (arith, nat_tests, is) in ap items (get_or_append_left queues (q ∷ []) d var lt) ∙ waits.on var d lt
          | false ↦ λ is.
              let long = length_push queues q in
              let le : length queues ≤ var = grind (arith, nat_tests, is) in
              let e : length queues ≡ var = omega arith in
              ap items (get_or_push queues q d var e) ∙ empty
        ] refl;
  }
