-- The order of preconditions keeps their facts.
use Rattle.std.proofs.Common.{◌≡◌, ◌∙◌, sym, ap, refl, ℕ, zero, suc, ◌+◌, ◌<◌, List, [], ◌∷◌, ◌++◌, length, take, drop, Bool, true, false, ◌&&◌, ◌||◌, not, nat_eq, Option, Some, None, arith, append_assoc, append-nil, length-append}
use Rattle.std.specs.Prelude.{slice_get}
use Rattle.std.specs.List.{filter, filter_map, cons_option, enumerate_from}
use Rattle.std.proofs.lemmas.List.{take_at, length_push}
use Rattle.std.proofs.lemmas.List.Elements.{filter-append}
use Rattle.lama_num.proofs.ListLaws.{both, list_all_get}
use Rattle.sas_task.specs.Facts.{same_fact, has_fact}
use Rattle.sas_task.specs.Order.{distinct, on_variable, effects_on, is_prevail, prevail, standing_for, standing, arranged, ordered}
use Rattle.sas_task.specs.declared.contents.Fact.{Fact}
use Rattle.sas_task.specs.declared.contents.Effect.{Effect}
use Rattle.task_gen.proofs.Tested.{filter-all}
use Rattle.std.proofs.lemmas.Bool.{eqb-true as same_number}

pub same-true : (f g : Fact) → same_fact f g ≡ true → f ≡ g
same-true f g same =
    let parts = both (nat_eq f.var g.var) (nat_eq f.val g.val) same in
    let v = same_number f.var g.var parts.0 in
    let w = same_number f.val g.val parts.1 in
    λ i. record { var = v i; val = w i }

-- which facts are there

has-append : (xs ys : List Fact) (f : Fact) → has_fact (xs ++ ys) f ≡ (has_fact xs f || has_fact ys f)
has-append [] ys f = refl
has-append (x ∷ xs) ys f = ap (λ b. same_fact x f || b) (has-append xs ys f) ∙ either (same_fact x f) (has_fact xs f) (has_fact ys f)
  where
    either : (a b c : Bool) → (a || (b || c)) ≡ ((a || b) || c)
    either true b c = refl
    either false b c = refl

pub has-filter : (p : Fact → Bool) (xs : List Fact) (f : Fact) → has_fact (filter p xs) f ≡ (has_fact xs f && p f)
has-filter p [] f = refl
has-filter p (x ∷ xs) f =
    let rest = has-filter p xs f in
    elim (same_fact x f) as (λ b. same_fact x f ≡ b → has_fact (filter p (x ∷ xs)) f ≡ (has_fact (x ∷ xs) f && p f)) [
      | true ↦ λ same. let e : p x ≡ p f = ap p (same-true x f same) in elim (p f) as (λ b. p f ≡ b → has_fact (filter p (x ∷ xs)) f ≡ ((same_fact x f || has_fact xs f) && p f)) [
        | true ↦ λ is. rw (e, is, same) refl
        | false ↦ λ is. rw (e, is, same) (rest ∙ rw is (none (has_fact xs f)))
      ] refl
      | false ↦ λ other. elim (p x) as (λ b. p x ≡ b → has_fact (filter p (x ∷ xs)) f ≡ ((same_fact x f || has_fact xs f) && p f)) [
        | true ↦ λ is. rw (is, other) rest
        | false ↦ λ is. rw (is, other) rest
      ] refl
    ] refl
  where
    none : (b : Bool) → (b && false) ≡ false
    none true = refl
    none false = refl

has-take : (k : ℕ) (xs : List Fact) (f : Fact) → has_fact (take k xs) f ≡ true → has_fact xs f ≡ true
has-take zero xs f is = let c : false ≡ true = is in cc
has-take (suc k) [] f is = is
has-take (suc k) (x ∷ xs) f is =
    elim (same_fact x f) as (λ b. same_fact x f ≡ b → has_fact (x ∷ xs) f ≡ true) [
      | true ↦ λ same. rw same refl
      | false ↦ λ other. let rest : has_fact (take k xs) f ≡ true = rw other at is in rw other (has-take k xs f rest)
    ] refl

has-distinct : (xs : List Fact) (f : Fact) → has_fact (distinct xs) f ≡ has_fact xs f
has-distinct [] f = refl
has-distinct (x ∷ xs) f = ap (λ b. same_fact x f || b) (has-filter (λ g. not (same_fact x g)) (distinct xs) f ∙ ap (λ b. b && not (same_fact x f)) (has-distinct xs f)) ∙ absorbed (same_fact x f) (has_fact xs f)
  where
    absorbed : (a b : Bool) → (a || (b && not a)) ≡ (a || b)
    absorbed true b = refl
    absorbed false true = refl
    absorbed false false = refl

-- preconditions that stand for effects are the first on their variables

pub effects_on-append : (var : ℕ) (xs ys : List Effect) → effects_on var (xs ++ ys) ≡ effects_on var xs + effects_on var ys
effects_on-append var xs ys = ap length (filter-append (λ e. nat_eq e.fact.var var) xs ys) ∙ length-append (filter (λ e. nat_eq e.fact.var var) xs) (filter (λ e. nat_eq e.fact.var var) ys)

drop-take_same : {X : Type 0} (k : ℕ) (xs : List X) → drop k (take k xs) ≡ []
drop-take_same zero xs = refl
drop-take_same (suc k) [] = refl
drop-take_same (suc k) (x ∷ xs) = drop-take_same k xs

-- one more of the first ones
one_taken : (k most : ℕ) (xs : List Fact) (f : Fact) → k < most → has_fact (cons_option (slice_get xs k) (drop (suc k) (take most xs))) f ≡ has_fact (drop k (take most xs)) f
one_taken k zero xs f lt = absurd (omega arith)
one_taken zero (suc most) [] f lt = refl
one_taken (suc k) (suc most) [] f lt = refl
one_taken zero (suc most) (x ∷ xs) f lt = refl
one_taken (suc k) (suc most) (x ∷ xs) f lt = one_taken k most xs f (omega arith)

has-cons_option : (o : Option Fact) (xs : List Fact) (f : Fact) → has_fact (cons_option o xs) f ≡ (has_fact (cons_option o []) f || has_fact xs f)
has-cons_option None xs f = refl
has-cons_option (Some x) xs f = either (same_fact x f) (has_fact xs f)
  where
    either : (a b : Bool) → (a || b) ≡ ((a || false) || b)
    either true b = refl
    either false b = refl

-- a fact on another variable
other_variable : (pre : List Fact) (var k : ℕ) (f : Fact) → nat_eq var f.var ≡ false → has_fact (cons_option (slice_get (on_variable var pre) k) []) f ≡ false
other_variable pre var k f other = found (slice_get (on_variable var pre) k) refl
  where
    found : (o : Option Fact) → slice_get (on_variable var pre) k ≡ o → has_fact (cons_option o []) f ≡ false
    found None at = refl
    found (Some x) at =
        let on = same_number x.var var (list_all_get (λ f. nat_eq f.var var) (on_variable var pre) k x (filter-all (λ f. nat_eq f.var var) pre) at) in
        let no : nat_eq x.var f.var ≡ false = rw on other in
        rw no refl

has-standing_from : (pre : List Fact) (all : List Effect) (f : Fact) (before es : List Effect) → all ≡ before ++ es →
    has_fact (filter_map (standing_for pre all) (enumerate_from (length before) es)) f ≡ has_fact (drop (effects_on f.var before) (take (effects_on f.var all) (on_variable f.var pre))) f
has-standing_from pre all f before [] is =
    let whole : all ≡ before = is ∙ append-nil before in
    rw whole (ap (λ fs. has_fact fs f) (sym (drop-take_same (effects_on f.var before) (on_variable f.var pre))))
has-standing_from pre all f before (e ∷ es) is =
    let own : take (length before) all ≡ before = ap (take (length before)) is ∙ take_at before (e ∷ es) (length before) refl in
    let later = has-standing_from pre all f (before ++ e ∷ []) es (is ∙ sym (append_assoc before (e ∷ []) es)) in
    let long : length (before ++ e ∷ []) ≡ length before + 1 = length_push before e in
    let rest : List Fact = filter_map (standing_for pre all) (enumerate_from (length before + 1) es) in
    let after : has_fact rest f ≡ has_fact (drop (effects_on f.var (before ++ e ∷ [])) (take (effects_on f.var all) (on_variable f.var pre))) f = rw long at later in
    let here : standing_for pre all (length before, e) ≡ slice_get (on_variable e.fact.var pre) (effects_on e.fact.var before) = ap (λ es. slice_get (on_variable e.fact.var pre) (effects_on e.fact.var es)) own in
    ap (λ o. has_fact (cons_option o rest) f) here ∙ has-cons_option (slice_get (on_variable e.fact.var pre) (effects_on e.fact.var before)) rest f
    ∙ ap (λ b. has_fact (cons_option (slice_get (on_variable e.fact.var pre) (effects_on e.fact.var before)) []) f || b) after
    ∙ step pre all f before e es is
  where
    step : (pre : List Fact) (all : List Effect) (f : Fact) (before : List Effect) (e : Effect) (es : List Effect) → all ≡ before ++ e ∷ es →
        (has_fact (cons_option (slice_get (on_variable e.fact.var pre) (effects_on e.fact.var before)) []) f || has_fact (drop (effects_on f.var (before ++ e ∷ [])) (take (effects_on f.var all) (on_variable f.var pre))) f)
        ≡ has_fact (drop (effects_on f.var before) (take (effects_on f.var all) (on_variable f.var pre))) f
    step pre all f before e es is =
        let more = effects_on-append f.var before (e ∷ []) in
        elim (nat_eq e.fact.var f.var) as (λ b. nat_eq e.fact.var f.var ≡ b →
        (has_fact (cons_option (slice_get (on_variable e.fact.var pre) (effects_on e.fact.var before)) []) f || has_fact (drop (effects_on f.var (before ++ e ∷ [])) (take (effects_on f.var all) (on_variable f.var pre))) f)
        ≡ has_fact (drop (effects_on f.var before) (take (effects_on f.var all) (on_variable f.var pre))) f) [
          | true ↦ λ same.
              let var = same_number e.fact.var f.var same in
              let one : effects_on f.var (e ∷ []) ≡ 1 = rw same refl in
              let next : effects_on f.var (before ++ e ∷ []) ≡ suc (effects_on f.var before) = omega (arith, more, one) in
              let first : effects_on f.var (e ∷ es) ≡ suc (effects_on f.var es) = rw same refl in
              let whole : effects_on f.var all ≡ effects_on f.var before + effects_on f.var (e ∷ es) = ap (effects_on f.var) is ∙ effects_on-append f.var before (e ∷ es) in
              let facts = on_variable f.var pre in
              let k = effects_on f.var before in
              ap (λ v. has_fact (cons_option (slice_get (on_variable v pre) (effects_on v before)) []) f || has_fact (drop (effects_on f.var (before ++ e ∷ [])) (take (effects_on f.var all) facts)) f) var
              ∙ ap (λ n. has_fact (cons_option (slice_get facts k) []) f || has_fact (drop n (take (effects_on f.var all) facts)) f) next
              ∙ sym (has-cons_option (slice_get facts k) (drop (suc k) (take (effects_on f.var all) facts)) f)
              ∙ one_taken k (effects_on f.var all) facts f (omega (arith, whole, first))
          | false ↦ λ other.
              let none : effects_on f.var (e ∷ []) ≡ 0 = rw other refl in
              let next : effects_on f.var (before ++ e ∷ []) ≡ effects_on f.var before = omega (arith, more, none) in
              rw (other_variable pre e.fact.var (effects_on e.fact.var before) f other, next) refl
        ] refl

has-arranged : (pre : List Fact) (es : List Effect) (f : Fact) → has_fact (arranged pre es) f ≡ has_fact pre f
has-arranged pre es f =
    let first = take (effects_on f.var es) (on_variable f.var pre) in
    has-append (prevail pre es) (standing pre es) f
    ∙ ap (λ b. b || has_fact (standing pre es) f) (has-filter (is_prevail pre es) pre f)
    ∙ ap (λ b. (has_fact pre f && not (has_fact first f)) || b) (has-standing_from pre es f [] es refl)
    ∙ joined (has_fact pre f) (has_fact first f) (λ is. (both (has_fact pre f) _ (sym (has-filter (λ g. nat_eq g.var f.var) pre f) ∙ has-take (effects_on f.var es) (on_variable f.var pre) f is)).0)
  where
    joined : (a b : Bool) → (b ≡ true → a ≡ true) → ((a && not b) || b) ≡ a
    joined true true within = refl
    joined true false within = refl
    joined false true within = let k : false ≡ true = within refl in cc
    joined false false within = refl

pub has-ordered : (pre : List Fact) (es : List Effect) (f : Fact) → has_fact (ordered pre es) f ≡ has_fact pre f
has-ordered pre es f = has-arranged (distinct pre) es f ∙ has-distinct pre f
