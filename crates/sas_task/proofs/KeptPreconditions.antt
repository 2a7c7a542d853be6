-- What the order of preconditions keeps of them.
use Rattle.std.specs.Prelude.{◌≡◌, ℕ, ◌+◌, ◌<◌, ◌≤◌, List, [], ◌∷◌, ◌++◌, length, Bool, true, false, ◌&&◌, ◌||◌, not, nat_eq, nat_le, filter, take, slice_get, zero, suc, Option, Some, None}
use Rattle.std.proofs.Common.{arith, refl, sym, ap, ◌∙◌, subst, append_assoc, append-nil, length-append, ◌⊎◌, inl, inr}
use Rattle.std.specs.List.{list_all, cons_option}
use Rattle.std.proofs.lemmas.List.{length_push, nil_from_length}
use Rattle.std.proofs.lemmas.List.Elements.{filter-append, filter_agree}
use Rattle.std.proofs.lemmas.List.Folds.{list_all-append}
use Rattle.std.proofs.lemmas.Bool.Decides.{nat_tests}
use Rattle.lama_num.proofs.ListLaws.{both}
use Rattle.sas_task.specs.Limits.{most_listed}
use Rattle.sas_task.specs.Facts.{same_fact, has_fact}
use Rattle.sas_task.specs.Order.{distinct, on_variable, effects_on, is_prevail, prevail, standing, arranged, ordered, in_order, prevail_count, has_few_prevail, has_one_value_each, IsInOrder}
use Rattle.sas_task.specs.declared.contents.Fact.{Fact}
use Rattle.sas_task.specs.declared.contents.Effect.{Effect}
use Rattle.sas_task.specs.declared.contents.Operator.{Operator}
use Rattle.sas_task.proofs.FactLists.{same-refl, same-sym, isn't, has-append, Apart, apart-distinct, distinct-apart}
use Rattle.sas_task.proofs.PreconditionOrder.{on, on-var, has-all, has-get, filter-twice}
use Rattle.std.proofs.lemmas.Bool.{eqb-true as same_numbers}
use Rattle.lama_num.proofs.BoolLaws.{nat_eq-refl}
use Rattle.sas_task.proofs.MovedPreconditions.{Stays, Moves, one_more, prevail-nil, standing_from, standing_is}
use Rattle.std.proofs.lemmas.Bool.{or_parts as or_false}

-- What a move of one fact to the end keeps, the order of preconditions keeps.
pub kept_by_moves : (Q : List Fact → Type 0) → ((front rest : List Fact) (x : Fact) → Q (front ++ x ∷ rest) → Q (front ++ (rest ++ x ∷ []))) → (pre : List Fact) → Apart pre → Q pre → (effects : List Effect) → Q (arranged pre effects)
kept_by_moves Q keeps pre apart at_first effects = from [] effects (subst Q (sym (append-nil (prevail pre []) ∙ prevail-nil pre)) at_first)
  where
    regroup : (a b c d : List Fact) → (a ++ b) ++ (c ++ d) ≡ a ++ ((b ++ c) ++ d)
    regroup a b c d = simp append_assoc

    step : (before : List Effect) (e : Effect) → Q (arranged pre before) → Stays pre before e ⊎ Moves pre before e → Q (arranged pre (before ++ e ∷ []))
    step before e holds (inl stays) = subst Q (sym stays.arranged_stays) holds
    step before e holds (inr moves) =
        let now : arranged pre before ≡ moves.front ++ moves.fact ∷ (moves.back ++ standing pre before) = ap (λ xs. xs ++ standing pre before) moves.before ∙ append_assoc moves.front (moves.fact ∷ moves.back) (standing pre before) in
        let after : arranged pre (before ++ e ∷ []) ≡ moves.front ++ ((moves.back ++ standing pre before) ++ moves.fact ∷ []) =
        ap (λ xs. xs ++ standing pre (before ++ e ∷ [])) moves.prevail_after ∙ ap (λ xs. (moves.front ++ moves.back) ++ xs) moves.standing_after ∙ regroup moves.front moves.back (standing pre before) (moves.fact ∷ []) in
        subst Q (sym after) (keeps moves.front (moves.back ++ standing pre before) moves.fact (subst Q now holds))

    from : (before es : List Effect) → Q (arranged pre before) → Q (arranged pre (before ++ es))
    from before [] holds = subst (λ b. Q (arranged pre b)) (sym (append-nil before)) holds
    from before (e ∷ es) holds = subst (λ b. Q (arranged pre b)) (append_assoc before (e ∷ []) es) (from (before ++ e ∷ []) es (step before e holds (one_more pre before e apart)))

-- tests of all

all-move : (p : Fact → Bool) (front rest : List Fact) (x : Fact) → list_all p (front ++ x ∷ rest) ≡ true → list_all p (front ++ (rest ++ x ∷ [])) ≡ true
all-move p front rest x all = list_all-append p front (rest ++ x ∷ []) ∙ ap (λ b. list_all p front && b) (list_all-append p rest (x ∷ [])) ∙ moved (list_all p front) (p x) (list_all p rest) (sym (list_all-append p front (x ∷ rest)) ∙ all)
  where
    moved : (a b c : Bool) → (a && (b && c)) ≡ true → (a && (c && (b && true))) ≡ true
    moved true true true e = refl
    moved true true false e = e
    moved true false c e = let k : false ≡ true = e in cc
    moved false b c e = e

pub all-arranged : (p : Fact → Bool) (pre : List Fact) (effects : List Effect) → Apart pre → list_all p pre ≡ true → list_all p (arranged pre effects) ≡ true
all-arranged p pre effects apart all = kept_by_moves (λ xs. list_all p xs ≡ true) (all-move p) pre apart all effects

pub all-filter : (p q : Fact → Bool) (xs : List Fact) → list_all p xs ≡ true → list_all p (filter q xs) ≡ true
all-filter p q [] all = refl
all-filter p q (x ∷ xs) all =
    let parts = both (p x) (list_all p xs) all in
    let here : p x ≡ true = parts.0 in
    let rest = all-filter p q xs parts.1 in
    elim (q x) as (λ b. q x ≡ b → list_all p (filter q (x ∷ xs)) ≡ true) [
      | true ↦ λ is. rw (is, here) rest
      | false ↦ λ is. rw is rest
    ] refl

pub all-distinct : (p : Fact → Bool) (xs : List Fact) → list_all p xs ≡ true → list_all p (distinct xs) ≡ true
all-distinct p [] all = refl
all-distinct p (x ∷ xs) all =
    let parts = both (p x) (list_all p xs) all in
    let here : p x ≡ true = parts.0 in
    rw here (all-filter p (isn't x) (distinct xs) (all-distinct p xs parts.1))

pub all-ordered : (p : Fact → Bool) (pre : List Fact) (effects : List Effect) → list_all p pre ≡ true → list_all p (ordered pre effects) ≡ true
all-ordered p pre effects all = all-arranged p (distinct pre) effects (apart-distinct pre) (all-distinct p pre all)

apart-push : (rest : List Fact) (x : Fact) → has_fact rest x ≡ false → Apart rest → Apart (rest ++ x ∷ [])
apart-push [] x none apart = (refl, tt)
apart-push (y ∷ rest) x none apart =
    let parts = or_false (same_fact y x) (has_fact rest x) none in
    let other : same_fact x y ≡ false = same-sym x y ∙ parts.0 in
    let here : has_fact rest y ≡ false = apart.0 in
    (has-append rest (x ∷ []) y ∙ rw (here, other) refl, apart-push rest x parts.1 apart.1)

apart-move : (front rest : List Fact) (x : Fact) → Apart (front ++ x ∷ rest) → Apart (front ++ (rest ++ x ∷ []))
apart-move [] rest x apart = apart-push rest x apart.0 apart.1
apart-move (y ∷ front) rest x apart =
    let whole = or_false (has_fact front y) (has_fact (x ∷ rest) y) (sym (has-append front (x ∷ rest) y) ∙ apart.0) in
    let parts = or_false (same_fact x y) (has_fact rest y) whole.1 in
    let in_front : has_fact front y ≡ false = whole.0 in
    let in_rest : has_fact rest y ≡ false = parts.1 in
    let other : same_fact x y ≡ false = parts.0 in
    (has-append front (rest ++ x ∷ []) y ∙ ap (λ b. has_fact front y || b) (has-append rest (x ∷ []) y) ∙ rw (in_front, in_rest, other) refl, apart-move front rest x apart.1)

pub apart-arranged : (pre : List Fact) (effects : List Effect) → Apart pre → Apart (arranged pre effects)
apart-arranged pre effects apart = kept_by_moves Apart apart-move pre apart apart effects

-- lengths

pub length-arranged : (pre : List Fact) (effects : List Effect) → Apart pre → length (arranged pre effects) ≡ length pre
length-arranged pre effects apart = kept_by_moves (λ xs. length xs ≡ length pre) (λ front rest x is. sym (moved front rest x) ∙ is) pre apart refl effects
  where
    moved : (front rest : List Fact) (x : Fact) → length (front ++ x ∷ rest) ≡ length (front ++ (rest ++ x ∷ []))
    moved front rest x = omega (arith, length-append front (x ∷ rest), length-append front (rest ++ x ∷ []), length_push rest x)

-- how many facts are on a variable
abbrev count_on : ℕ → List Fact → ℕ
count_on var facts = length (on_variable var facts)

count_on-append : (var : ℕ) (xs ys : List Fact) → count_on var (xs ++ ys) ≡ count_on var xs + count_on var ys
count_on-append var xs ys = ap length (filter-append (on var) xs ys) ∙ length-append (on_variable var xs) (on_variable var ys)

pub count_on-arranged : (pre : List Fact) (effects : List Effect) → Apart pre → (var : ℕ) → count_on var (arranged pre effects) ≡ count_on var pre
count_on-arranged pre effects apart = kept_by_moves (λ xs. (var : ℕ) → count_on var xs ≡ count_on var pre) (λ front rest x is var. sym (moved var front rest x) ∙ is var) pre apart (λ var. refl) effects
  where
    moved : (var : ℕ) (front rest : List Fact) (x : Fact) → count_on var (front ++ x ∷ rest) ≡ count_on var (front ++ (rest ++ x ∷ []))
    moved var front rest x =
        let a = count_on-append var front (x ∷ rest) in
        let b = count_on-append var (x ∷ []) rest in
        let c = count_on-append var front (rest ++ x ∷ []) in
        let d = count_on-append var rest (x ∷ []) in
        omega arith

-- Where no two facts are on one variable, the facts on each variable stay as they are.
pub on-arranged : (pre : List Fact) (effects : List Effect) → Apart pre → ((var : ℕ) → count_on var pre ≤ 1) → (var : ℕ) → on_variable var (arranged pre effects) ≡ on_variable var pre
on-arranged pre effects apart single = kept_by_moves (λ xs. (var : ℕ) → on_variable var xs ≡ on_variable var pre) (λ front rest x is var. sym (moved var front rest x (few var (front ++ x ∷ rest) (is var))) ∙ is var) pre apart (λ var. refl) effects
  where
    few : (var : ℕ) (xs : List Fact) → on_variable var xs ≡ on_variable var pre → count_on var xs ≤ 1
    few var xs is = subst (λ ys. length ys ≤ 1) (sym is) (single var)

    lone : (a o b : List Fact) → length (a ++ (o ++ b)) ≤ 1 → a ++ (o ++ b) ≡ a ++ (b ++ o)
    lone a [] b le = ap (λ zs. a ++ zs) (sym (append-nil b))
    lone a (y ∷ o) b le =
        let whole = length-append a ((y ∷ o) ++ b) in
        let part = length-append o b in
        let a_nil : a ≡ [] = nil_from_length a (omega arith) in
        let b_nil : b ≡ [] = nil_from_length b (omega arith) in
        ap (λ zs. zs ++ ((y ∷ o) ++ b)) a_nil ∙ ap (λ zs. (y ∷ o) ++ zs) b_nil ∙ append-nil (y ∷ o) ∙ sym (ap (λ zs. zs ++ (b ++ (y ∷ o))) a_nil ∙ ap (λ zs. zs ++ (y ∷ o)) b_nil)

    moved : (var : ℕ) (front rest : List Fact) (x : Fact) → count_on var (front ++ x ∷ rest) ≤ 1 → on_variable var (front ++ x ∷ rest) ≡ on_variable var (front ++ (rest ++ x ∷ []))
    moved var front rest x le =
        let a = on_variable var front in
        let o = on_variable var (x ∷ []) in
        let b = on_variable var rest in
        let whole : on_variable var (front ++ x ∷ rest) ≡ a ++ (o ++ b) = filter-append (on var) front (x ∷ rest) ∙ ap (λ zs. a ++ zs) (filter-append (on var) (x ∷ []) rest) in
        let after : on_variable var (front ++ (rest ++ x ∷ [])) ≡ a ++ (b ++ o) = filter-append (on var) front (rest ++ x ∷ []) ∙ ap (λ zs. a ++ zs) (filter-append (on var) rest (x ∷ [])) in
        whole ∙ lone a o b (subst (λ zs. length zs ≤ 1) whole le) ∙ sym after

-- the number of prevail conditions

standing-count : (xs ys : List Fact) → ((var : ℕ) → count_on var xs ≡ count_on var ys) → (before es : List Effect) → length (standing_from xs before es) ≡ length (standing_from ys before es)
standing-count xs ys same before [] = refl
standing-count xs ys same before (e ∷ es) =
    one (on_variable e.fact.var xs) (on_variable e.fact.var ys) (effects_on e.fact.var before) (standing_from xs (before ++ e ∷ []) es) (standing_from ys (before ++ e ∷ []) es) (same e.fact.var) (standing-count xs ys same (before ++ e ∷ []) es)
  where
    one : (us vs : List Fact) (m : ℕ) (ps qs : List Fact) → length us ≡ length vs → length ps ≡ length qs → length (cons_option (slice_get us m) ps) ≡ length (cons_option (slice_get vs m) qs)
    one [] [] m ps qs long rest = rest
    one [] (v ∷ vs) m ps qs long rest = absurd (omega (arith, long))
    one (u ∷ us) [] m ps qs long rest = absurd (omega (arith, long))
    one (u ∷ us) (v ∷ vs) zero ps qs long rest = ap suc rest
    one (u ∷ us) (v ∷ vs) (suc m) ps qs long rest = one us vs m ps qs (omega (arith, long)) rest

-- Ordering again leaves as many.
pub prevail-count-ordered : (pre : List Fact) (effects : List Effect) → length (prevail (distinct (ordered pre effects)) effects) ≡ length (prevail (distinct pre) effects)
prevail-count-ordered pre effects =
    let once = distinct pre in
    let apart = apart-distinct pre in
    let xs = arranged once effects in
    let apart_after = apart-arranged once effects apart in
    let same : distinct xs ≡ xs = distinct-apart xs apart_after in
    let standing_same : length (standing xs effects) ≡ length (standing once effects) =
    ap length (standing_is xs [] effects) ∙ standing-count xs once (count_on-arranged once effects apart) [] effects ∙ sym (ap length (standing_is once [] effects)) in
    let before = length-arranged once effects apart in
    let after = length-arranged xs effects apart_after in
    let before_parts = length-append (prevail once effects) (standing once effects) in
    let after_parts = length-append (prevail xs effects) (standing xs effects) in
    ap (λ ys. length (prevail ys effects)) same ∙ omega (arith, standing_same, before, after, before_parts, after_parts)

-- the order of an ordered list

-- no precondition that stands for an effect is a prevail condition
effects_on-within : (var : ℕ) (before : List Effect) (e : Effect) (es : List Effect) → e.fact.var ≡ var → effects_on var before < effects_on var (before ++ e ∷ es)
effects_on-within var before e es is =
    let here : nat_eq e.fact.var var ≡ true = subst (λ v. nat_eq e.fact.var v ≡ true) is (nat_eq-refl e.fact.var) in
    let one : filter (λ f. nat_eq f.fact.var var) (e ∷ es) ≡ e ∷ filter (λ f. nat_eq f.fact.var var) es = rw here refl in
    let more = length-append (filter (λ f. nat_eq f.fact.var var) before) (e ∷ filter (λ f. nat_eq f.fact.var var) es) in
    let whole = ap length (filter-append (λ f. nat_eq f.fact.var var) before (e ∷ es) ∙ ap (λ fs. filter (λ f. nat_eq f.fact.var var) before ++ fs) one) in
    omega (arith, whole, more)

has-take-get : (xs : List Fact) (k m : ℕ) (f : Fact) → k < m → slice_get xs k ≡ Some f → has_fact (take m xs) f ≡ true
has-take-get [] k m f lt is = let e : None ≡ Some f = is in cc
has-take-get (x ∷ xs) k zero f lt is = absurd (omega arith)
has-take-get (x ∷ xs) zero (suc m) f lt is = let e : Some x ≡ Some f = is in let same : x ≡ f = cc in subst (λ z. has_fact (take (suc m) (z ∷ xs)) f ≡ true) (sym same) (rw (same-refl f) refl)
has-take-get (x ∷ xs) (suc k) (suc m) f lt is =
    let rest = has-take-get xs k m f (omega arith) is in
    elim (same_fact x f) as (λ b. same_fact x f ≡ b → has_fact (take (suc m) (x ∷ xs)) f ≡ true) [
      | true ↦ λ same. rw same refl
      | false ↦ λ other. rw other rest
    ] refl

none_prevails : (pre : List Fact) (before es all : List Effect) → before ++ es ≡ all → filter (is_prevail pre all) (standing_from pre before es) ≡ []
none_prevails pre before [] all is = refl
none_prevails pre before (e ∷ es) all is =
    let rest = none_prevails pre (before ++ e ∷ []) es all (append_assoc before (e ∷ []) es ∙ is) in
    elim (slice_get (on_variable e.fact.var pre) (effects_on e.fact.var before)) as (λ o. slice_get (on_variable e.fact.var pre) (effects_on e.fact.var before) ≡ o → filter (is_prevail pre all) (standing_from pre before (e ∷ es)) ≡ []) [
      | None ↦ λ none. rw none rest
      | Some f ↦ λ some.
          let facts = on_variable e.fact.var pre in
          let f_on : f.var ≡ e.fact.var = on-var e.fact.var pre f (has-get facts (effects_on e.fact.var before) f some) in
          let few : effects_on e.fact.var before < effects_on e.fact.var all = subst (λ fs. effects_on e.fact.var before < effects_on e.fact.var fs) is (effects_on-within e.fact.var before e es refl) in
          let there : has_fact (take (effects_on e.fact.var all) facts) f ≡ true = has-take-get facts (effects_on e.fact.var before) (effects_on e.fact.var all) f few some in
          let not_left : is_prevail pre all f ≡ false = ap (λ v. not (has_fact (take (effects_on v all) (on_variable v pre)) f)) f_on ∙ ap not there in
          rw some (drops (is_prevail pre all) f (standing_from pre (before ++ e ∷ []) es) not_left rest)
    ] refl
  where
    drops : (p : Fact → Bool) (f : Fact) (xs : List Fact) → p f ≡ false → filter p xs ≡ [] → filter p (f ∷ xs) ≡ []
    drops p f xs left nil = rw left nil

filter-again : (p : Fact → Bool) (xs : List Fact) → filter p (filter p xs) ≡ filter p xs
filter-again p xs = filter-twice p p xs ∙ filter_agree (λ x. p x && p x) p (λ x. idem (p x)) xs
  where
    idem : (b : Bool) → (b && b) ≡ b
    idem true = refl
    idem false = refl

pub same_order_again : (pre : List Fact) (effects : List Effect) → Apart pre → ((var : ℕ) → count_on var pre ≤ 1) → arranged (arranged pre effects) effects ≡ arranged pre effects
same_order_again pre effects apart single =
    let xs = arranged pre effects in
    let same = on-arranged pre effects apart single in
    let tests = λ (f : Fact). ap (λ facts. not (has_fact (take (effects_on f.var effects) facts) f)) (same f.var) in
    let front : prevail xs effects ≡ prevail pre effects =
    filter_agree (is_prevail xs effects) (is_prevail pre effects) tests xs
    ∙ filter-append (is_prevail pre effects) (prevail pre effects) (standing pre effects)
    ∙ ap (λ ys. ys ++ filter (is_prevail pre effects) (standing pre effects)) (filter-again (is_prevail pre effects) pre)
    ∙ ap (λ ys. prevail pre effects ++ filter (is_prevail pre effects) ys) (standing_is pre [] effects)
    ∙ ap (λ ys. prevail pre effects ++ ys) (none_prevails pre [] effects effects refl)
    ∙ append-nil (prevail pre effects) in
    let back : standing xs effects ≡ standing pre effects = standing_is xs [] effects ∙ standing_same xs pre same [] effects ∙ sym (standing_is pre [] effects) in
    ap (λ ys. ys ++ standing xs effects) front ∙ ap (λ ys. prevail pre effects ++ ys) back
  where
    standing_same : (xs ys : List Fact) → ((var : ℕ) → on_variable var xs ≡ on_variable var ys) → (before es : List Effect) → standing_from xs before es ≡ standing_from ys before es
    standing_same xs ys same before [] = refl
    standing_same xs ys same before (e ∷ es) =
        ap (λ facts. cons_option (slice_get facts (effects_on e.fact.var before)) (standing_from xs (before ++ e ∷ []) es)) (same e.fact.var)
        ∙ ap (cons_option (slice_get (on_variable e.fact.var ys) (effects_on e.fact.var before))) (standing_same xs ys same (before ++ e ∷ []) es)

-- the test of one value each
single_values : (facts : List Fact) → has_one_value_each facts ≡ true → (var : ℕ) → count_on var facts ≤ 1
single_values facts each var = from (on_variable var facts) refl
  where
    from : (on_var : List Fact) → on_variable var facts ≡ on_var → count_on var facts ≤ 1
    from [] is = omega (arith, ap length is)
    from (f ∷ fs) is =
        let there : has_fact (on_variable var facts) f ≡ true = subst (λ xs. has_fact xs f ≡ true) (sym is) (rw (same-refl f) refl) in
        let f_on = on-var var facts f there in
        let all = all-filter (λ g. nat_eq (count_on g.var facts) 1) (on var) facts each in
        let one = same_numbers (count_on f.var facts) 1 (has-all (λ g. nat_eq (count_on g.var facts) 1) (on_variable var facts) f all there) in
        let here : count_on var facts ≡ 1 = ap (λ v. count_on v facts) (sym f_on) ∙ one in
        omega (arith, here)

-- an operator whose preconditions were put into order
pub is_in_order : (operator : Operator) → IsInOrder (in_order operator)
is_in_order operator =
    let once = distinct operator.pre in
    let apart = apart-distinct operator.pre in
    let xs = arranged once operator.effects in
    let apart_after = apart-arranged once operator.effects apart in
    record {
      once = distinct-apart xs apart_after;
      ordered = λ each.
          (let single = λ (var : ℕ). subst (λ n. n ≤ 1) (count_on-arranged once operator.effects apart var) (single_values xs each var) in
          ap (λ ys. arranged ys operator.effects) (distinct-apart xs apart_after) ∙ same_order_again once operator.effects apart single);
    }

pub few_prevail : (operator : Operator) → prevail_count operator ≤ most_listed → has_few_prevail (in_order operator) ≡ true
few_prevail operator few =
    let same = prevail-count-ordered operator.pre operator.effects in
    test (prevail_count (in_order operator)) (omega (arith, same, few))
  where
    test : (n : ℕ) → n ≤ most_listed → nat_le n most_listed ≡ true
    test n le = grind (arith, nat_tests)

-- and not more preconditions than prevail conditions and effects
pub length-ordered : (pre : List Fact) (effects : List Effect) → length (ordered pre effects) ≤ length (prevail (distinct pre) effects) + length effects
length-ordered pre effects =
    let parts = length-append (prevail (distinct pre) effects) (standing (distinct pre) effects) in
    let few = standing-few (distinct pre) [] effects in
    let same = ap length (standing_is (distinct pre) [] effects) in
    omega (arith, parts, few, same)
  where
    cons-few : (o : Option Fact) (xs : List Fact) → length (cons_option o xs) ≤ suc (length xs)
    cons-few None xs = omega arith
    cons-few (Some x) xs = omega arith

    standing-few : (pre : List Fact) (before es : List Effect) → length (standing_from pre before es) ≤ length es
    standing-few pre before [] = omega arith
    standing-few pre before (e ∷ es) = omega (arith, cons-few (slice_get (on_variable e.fact.var pre) (effects_on e.fact.var before)) (standing_from pre (before ++ e ∷ []) es), standing-few pre (before ++ e ∷ []) es)
