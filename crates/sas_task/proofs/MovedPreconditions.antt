-- One more effect moves a precondition to the end, if one is left for it.
use Rattle.std.specs.Prelude.{◌≡◌, ℕ, ◌+◌, ◌-◌, ◌<◌, List, [], ◌∷◌, ◌++◌, length, Bool, true, false, nat_eq, filter, filter_map, take, drop, get_or, slice_get, position, zero, suc, Option, Some, None}
use Rattle.std.proofs.Common.{arith, refl, sym, ap, ◌∙◌, subst, append_assoc, append-nil, length-append, ◌⊎◌, inl, inr}
use Rattle.std.specs.List.{enumerate_from, cons_option, position_from}
use Rattle.std.proofs.lemmas.List.{take_at, drop_at, length_push, drop-drop, drop_all, length-drop, take_more, take_rest}
use borrow.Rule.Slice.PartMut.{put_mid}
use Rattle.std.proofs.lemmas.Iterator.Adapters.{position_from-zero}
use Rattle.std.proofs.lemmas.Bool.Decides.{nat_tests}
use Rattle.sas_task.specs.Facts.{same_fact, has_fact}
use Rattle.sas_task.specs.Order.{distinct, on_variable, effects_on, is_prevail, prevail, standing_for, standing, arranged}
use Rattle.sas_task.specs.declared.contents.Fact.{Fact}
use Rattle.sas_task.specs.declared.contents.Effect.{Effect}
use Rattle.sas_task.proofs.FactLists.{same-refl, isn't, filter-none, Apart, apart-filter, apart-distinct}
use Rattle.sas_task.proofs.PreconditionOrder.{on, on-var, on-prevail, prevail-none, prevail-some, drop-none, drop-some, has-get, filter-true}

-- standing, effect by effect

abbrev pub standing_from : List Fact → List Effect → List Effect → List Fact
standing_from pre before [] = []
standing_from pre before (e ∷ es) = cons_option (slice_get (on_variable e.fact.var pre) (effects_on e.fact.var before)) (standing_from pre (before ++ e ∷ []) es)

pub standing_is : (pre : List Fact) (before es : List Effect) → filter_map (standing_for pre (before ++ es)) (enumerate_from (length before) es) ≡ standing_from pre before es
standing_is pre before [] = refl
standing_is pre before (e ∷ es) =
    let all = before ++ e ∷ es in
    let facts = on_variable e.fact.var pre in
    let front : take (length before) all ≡ before = take_at before (e ∷ es) (length before) refl in
    let rest = standing_is pre (before ++ e ∷ []) es in
    let lists : (before ++ e ∷ []) ++ es ≡ all = append_assoc before (e ∷ []) es in
    let behind : filter_map (standing_for pre all) (enumerate_from (length before + 1) es) ≡ standing_from pre (before ++ e ∷ []) es =
    subst (λ xs. filter_map (standing_for pre xs) (enumerate_from (length before + 1) es) ≡ standing_from pre (before ++ e ∷ []) es) lists
    (subst (λ k. filter_map (standing_for pre ((before ++ e ∷ []) ++ es)) (enumerate_from k es) ≡ standing_from pre (before ++ e ∷ []) es) (length_push before e) rest) in
    ap (λ xs. cons_option (slice_get facts (effects_on e.fact.var xs)) (filter_map (standing_for pre all) (enumerate_from (length before + 1) es))) front
    ∙ ap (cons_option (slice_get facts (effects_on e.fact.var before))) behind

cons-append : (o : Option Fact) (xs ys : List Fact) → cons_option o (xs ++ ys) ≡ cons_option o xs ++ ys
cons-append None xs ys = refl
cons-append (Some x) xs ys = refl

standing_from-append : (pre : List Fact) (before es fs : List Effect) → standing_from pre before (es ++ fs) ≡ standing_from pre before es ++ standing_from pre (before ++ es) fs
standing_from-append pre before [] fs = ap (λ b. standing_from pre b fs) (sym (append-nil before))
standing_from-append pre before (e ∷ es) fs =
    let o = slice_get (on_variable e.fact.var pre) (effects_on e.fact.var before) in
    let rest = standing_from-append pre (before ++ e ∷ []) es fs in
    ap (cons_option o) rest ∙ cons-append o (standing_from pre (before ++ e ∷ []) es) (standing_from pre ((before ++ e ∷ []) ++ es) fs)
    ∙ ap (λ b. cons_option o (standing_from pre (before ++ e ∷ []) es) ++ standing_from pre b fs) (append_assoc before (e ∷ []) es)

pub standing-more : (pre : List Fact) (effects : List Effect) (e : Effect) → standing pre (effects ++ e ∷ []) ≡ standing pre effects ++ cons_option (slice_get (on_variable e.fact.var pre) (effects_on e.fact.var effects)) []
standing-more pre effects e =
    standing_is pre [] (effects ++ e ∷ []) ∙ standing_from-append pre [] effects (e ∷ [])
    ∙ ap (λ xs. xs ++ standing_from pre effects (e ∷ [])) (sym (standing_is pre [] effects))

-- the first fact on a variable

position-nil : (p : Fact → Bool) (i : ℕ) (xs : List Fact) → position_from p i xs ≡ None → filter p xs ≡ []
position-nil p i [] none = refl
position-nil p i (x ∷ xs) none =
    elim (p x) as (λ b. p x ≡ b → filter p (x ∷ xs) ≡ []) [
      | true ↦ λ is. let k : Some i ≡ None = rw is at none in cc
      | false ↦ λ is. let rest : position_from p (i + 1) xs ≡ None = rw is at none in rw is (position-nil p (i + 1) xs rest)
    ] refl

nil-position : (p : Fact → Bool) (i : ℕ) (xs : List Fact) → filter p xs ≡ [] → position_from p i xs ≡ None
nil-position p i [] nil = refl
nil-position p i (x ∷ xs) nil =
    elim (p x) as (λ b. p x ≡ b → position_from p i (x ∷ xs) ≡ None) [
      | true ↦ λ is. let k : x ∷ filter p xs ≡ [] = rw is at nil in cc
      | false ↦ λ is. let rest : filter p xs ≡ [] = rw is at nil in rw is (nil-position p (i + 1) xs rest)
    ] refl

-- a list without a repeated fact, cut at the first fact on a variable
pub record CutAt (var : ℕ) (xs : List Fact) (x : Fact) : Type 0 where
  pub front : List Fact
  pub back : List Fact
  pub whole : xs ≡ front ++ x ∷ back
  pub place : (i : ℕ) → position_from (on var) i xs ≡ Some (i + length front)
  pub without : filter (isn't x) xs ≡ front ++ back

cut : (var : ℕ) (xs : List Fact) (x : Fact) (rest : List Fact) → Apart xs → x.var ≡ var → on_variable var xs ≡ x ∷ rest → CutAt var xs x
cut var [] x rest apart x_on is = let k : [] ≡ x ∷ rest = is in cc
cut var (y ∷ xs) x rest apart x_on is =
    let behind = λ (there : on_variable var xs ≡ x ∷ rest). cut var xs x rest apart.1 x_on there in
    elim (nat_eq y.var var) as (λ b. nat_eq y.var var ≡ b → CutAt var (y ∷ xs) x) [
      | true ↦ λ here.
          let k : y ∷ on_variable var xs ≡ x ∷ rest = rw here at is in
          let same : y ≡ x = cc in
          let none : has_fact xs x ≡ false = subst (λ z. has_fact xs z ≡ false) same apart.0 in
          let itself : same_fact x y ≡ true = subst (λ z. same_fact x z ≡ true) (sym same) (same-refl x) in
          record {
            front = [];
            back = xs;
            whole = ap (λ z. z ∷ xs) same;
            place = λ i. (let z : i ≡ i + 0 = omega arith in rw here (ap (λ n. Some n) z));
            without = rw itself (filter-none x xs none);
          }
      | false ↦ λ other.
          let there : on_variable var xs ≡ x ∷ rest = rw other at is in
          let cut_behind = behind there in
          let no : same_fact x y ≡ false = apart_vars x y var x_on other in
          record {
            front = y ∷ cut_behind.front;
            back = cut_behind.back;
            whole = ap (λ zs. y ∷ zs) cut_behind.whole;
            place = λ i. (let z : i + 1 + length cut_behind.front ≡ i + suc (length cut_behind.front) = omega arith in rw other (cut_behind.place (i + 1) ∙ ap (λ n. Some n) z));
            without = rw no (ap (λ zs. y ∷ zs) cut_behind.without);
          }
    ] refl
  where
    apart_vars : (x y : Fact) (var : ℕ) → x.var ≡ var → nat_eq y.var var ≡ false → same_fact x y ≡ false
    apart_vars x y var e other = grind (arith, nat_tests, e, other)

-- steps

none-drop : {X : Type 0} (xs : List X) (m : ℕ) → drop m xs ≡ [] → slice_get xs m ≡ None
none-drop [] m nil = refl
none-drop (x ∷ xs) zero nil = let k : x ∷ xs ≡ [] = nil in cc
none-drop (x ∷ xs) (suc m) nil = none-drop xs m nil

-- what an effect does for which none is left
pub record Stays (pre : List Fact) (effects : List Effect) (e : Effect) : Type 0 where
  pub prevail_stays : prevail pre (effects ++ e ∷ []) ≡ prevail pre effects
  pub arranged_stays : arranged pre (effects ++ e ∷ []) ≡ arranged pre effects

stays_none : (pre : List Fact) (effects : List Effect) (e : Effect) → slice_get (on_variable e.fact.var pre) (effects_on e.fact.var effects) ≡ None → Stays pre effects e
stays_none pre effects e none =
    let front = prevail-none pre effects e none in
    let back : standing pre (effects ++ e ∷ []) ≡ standing pre effects = standing-more pre effects e ∙ ap (λ o. standing pre effects ++ cons_option o []) none ∙ append-nil (standing pre effects) in
    record { prevail_stays = front; arranged_stays = ap (λ xs. xs ++ standing pre (effects ++ e ∷ [])) front ∙ ap (λ xs. prevail pre effects ++ xs) back }

-- and one for which there is
pub record Moves (pre : List Fact) (effects : List Effect) (e : Effect) : Type 0 where
  pub fact : Fact
  pub front : List Fact
  pub back : List Fact
  pub before : prevail pre effects ≡ front ++ fact ∷ back
  pub place : (i : ℕ) → position_from (on e.fact.var) i (prevail pre effects) ≡ Some (i + length front)
  pub prevail_after : prevail pre (effects ++ e ∷ []) ≡ front ++ back
  pub standing_after : standing pre (effects ++ e ∷ []) ≡ standing pre effects ++ fact ∷ []

moves_some : (pre : List Fact) (effects : List Effect) (e : Effect) (x : Fact) → Apart pre → slice_get (on_variable e.fact.var pre) (effects_on e.fact.var effects) ≡ Some x → Moves pre effects e
moves_some pre effects e x apart some =
    let facts = on_variable e.fact.var pre in
    let m = effects_on e.fact.var effects in
    let left : on_variable e.fact.var (prevail pre effects) ≡ x ∷ drop (suc m) facts = on-prevail pre effects e.fact.var apart ∙ drop-some facts m x some in
    let x_on = on-var e.fact.var pre x (has-get facts m x some) in
    let at = cut e.fact.var (prevail pre effects) x (drop (suc m) facts) (apart-filter (is_prevail pre effects) pre apart) x_on left in
    record {
      fact = x;
      front = at.front;
      back = at.back;
      before = at.whole;
      place = at.place;
      prevail_after = prevail-some pre effects e x some ∙ at.without;
      standing_after = standing-more pre effects e ∙ ap (λ o. standing pre effects ++ cons_option o []) some;
    }

-- each effect does one or the other
pub one_more : (pre : List Fact) (effects : List Effect) (e : Effect) → Apart pre → Stays pre effects e ⊎ Moves pre effects e
one_more pre effects e apart =
    elim (slice_get (on_variable e.fact.var pre) (effects_on e.fact.var effects)) as (λ o. slice_get (on_variable e.fact.var pre) (effects_on e.fact.var effects) ≡ o → Stays pre effects e ⊎ Moves pre effects e) [
      | None ↦ λ is. inl (stays_none pre effects e is)
      | Some x ↦ λ is. inr (moves_some pre effects e x apart is)
    ] refl

-- the step that the code makes, where the first prevail condition on the variable is looked up

pub none_first : (pre : List Fact) (effects : List Effect) (e : Effect) → Apart pre → position (on e.fact.var) (prevail pre effects) ≡ None → Stays pre effects e
none_first pre effects e apart none =
    let none_from = sym (position_from-zero (on e.fact.var) (prevail pre effects)) ∙ none in
    let nil = sym (on-prevail pre effects e.fact.var apart) ∙ position-nil (on e.fact.var) 0 (prevail pre effects) none_from in
    stays_none pre effects e (none-drop (on_variable e.fact.var pre) (effects_on e.fact.var effects) nil)

-- a fact at a place moved to the end
pub record MovesFrom (pre : List Fact) (effects : List Effect) (e : Effect) (place : ℕ) : Type 0 where
  pub order : arranged pre (effects ++ e ∷ []) ≡ take place (arranged pre effects) ++ (drop (place + 1) (arranged pre effects) ++ take 1 (drop place (arranged pre effects)))
  pub front : length (prevail pre (effects ++ e ∷ [])) + 1 ≡ length (prevail pre effects)

moves_from : (pre : List Fact) (effects : List Effect) (e : Effect) (place : ℕ) → (moves : Moves pre effects e) → length moves.front ≡ place → MovesFrom pre effects e place
moves_from pre effects e place moves at =
    let standing_before = standing pre effects in
    let rest = moves.back ++ standing_before in
    let now : arranged pre effects ≡ moves.front ++ moves.fact ∷ rest = ap (λ xs. xs ++ standing_before) moves.before ∙ append_assoc moves.front (moves.fact ∷ moves.back) standing_before in
    let front : take place (arranged pre effects) ≡ moves.front = ap (take place) now ∙ take_at moves.front (moves.fact ∷ rest) place at in
    let behind : drop place (arranged pre effects) ≡ moves.fact ∷ rest = ap (drop place) now ∙ drop_at moves.front (moves.fact ∷ rest) place at in
    let further : drop (place + 1) (arranged pre effects) ≡ rest = sym (drop-drop 1 place (arranged pre effects)) ∙ ap (drop 1) behind in
    let one : take 1 (drop place (arranged pre effects)) ≡ moves.fact ∷ [] = ap (take 1) behind in
    let after : arranged pre (effects ++ e ∷ []) ≡ (moves.front ++ moves.back) ++ (standing_before ++ moves.fact ∷ []) = ap (λ xs. xs ++ standing pre (effects ++ e ∷ [])) moves.prevail_after ∙ ap (λ xs. (moves.front ++ moves.back) ++ xs) moves.standing_after in
    let regrouped : (moves.front ++ moves.back) ++ (standing_before ++ moves.fact ∷ []) ≡ moves.front ++ (rest ++ moves.fact ∷ []) = regroup moves.front moves.back standing_before (moves.fact ∷ []) in
    record {
      order = after ∙ regrouped ∙ sym (ap (λ xs. xs ++ (drop (place + 1) (arranged pre effects) ++ take 1 (drop place (arranged pre effects)))) front ∙ ap (λ xs. moves.front ++ (xs ++ take 1 (drop place (arranged pre effects)))) further ∙ ap (λ xs. moves.front ++ (rest ++ xs)) one);
      front = counted moves.front moves.back moves.fact (prevail pre (effects ++ e ∷ [])) (prevail pre effects) moves.prevail_after moves.before;
    }
  where
    regroup : (a b c d : List Fact) → (a ++ b) ++ (c ++ d) ≡ a ++ ((b ++ c) ++ d)
    regroup a b c d = simp append_assoc

    counted : (front back : List Fact) (x : Fact) (after before : List Fact) → after ≡ front ++ back → before ≡ front ++ x ∷ back → length after + 1 ≡ length before
    counted front back x after before a b = omega (arith, ap length a, ap length b, length-append front back, length-append front (x ∷ back))

pub some_first : (pre : List Fact) (effects : List Effect) (e : Effect) (place : ℕ) → Apart pre → position (on e.fact.var) (prevail pre effects) ≡ Some place → MovesFrom pre effects e place
some_first pre effects e place apart some =
    let some_from : position_from (on e.fact.var) 0 (prevail pre effects) ≡ Some place = sym (position_from-zero (on e.fact.var) (prevail pre effects)) ∙ some in
    elim (slice_get (on_variable e.fact.var pre) (effects_on e.fact.var effects)) as (λ o. slice_get (on_variable e.fact.var pre) (effects_on e.fact.var effects) ≡ o → MovesFrom pre effects e place) [
      | None ↦ λ is.
          let nil = on-prevail pre effects e.fact.var apart ∙ drop-none (on_variable e.fact.var pre) (effects_on e.fact.var effects) is in
          let none = nil-position (on e.fact.var) 0 (prevail pre effects) nil in
          let k : None ≡ Some place = sym none ∙ some_from in cc
      | Some x ↦ λ is.
          let moves = moves_some pre effects e x apart is in
          let same : Some (0 + length moves.front) ≡ Some place = sym (moves.place 0) ∙ some_from in
          let at : 0 + length moves.front ≡ place = cc in
          moves_from pre effects e place moves (omega (arith, at))
    ] refl

-- a loop over the effects

pub record Arranges (pre now : List Fact) (front : ℕ) (effects : List Effect) : Type 0 where
  pub order : now ≡ arranged pre effects
  pub count : front ≡ length (prevail pre effects)

pub prevail-nil : (pre : List Fact) → prevail pre [] ≡ pre
prevail-nil pre = filter-true pre

pub arranges_none : (pre : List Fact) → Arranges pre pre (length pre) []
arranges_none pre = record {
  order = sym (append-nil (prevail pre []) ∙ prevail-nil pre);
  count = ap length (sym (prevail-nil pre));
}

one_longer : (effects : List Effect) (i : ℕ) (e : Effect) → i < length effects → e ≡ get_or effects i e → take (i + 1) effects ≡ take i effects ++ e ∷ []
one_longer effects i e lt at = take_more effects i e lt ∙ ap (λ x. take i effects ++ x ∷ []) (sym at)

front_is : (pre now : List Fact) (front : ℕ) (effects : List Effect) → Arranges pre now front effects → take front now ≡ prevail pre effects
front_is pre now front effects so_far = ap (take front) so_far.order ∙ take_at (prevail pre effects) (standing pre effects) front (sym so_far.count)

pub arranges_stay : (pre now : List Fact) (front : ℕ) (effects : List Effect) (i : ℕ) (e : Effect) → distinct pre ≡ pre → Arranges pre now front (take i effects) → i < length effects → e ≡ get_or effects i e →
    position (on e.fact.var) (take front now) ≡ None → Arranges pre now front (take (i + 1) effects)
arranges_stay pre now front effects i e once so_far lt at none =
    let apart = subst Apart once (apart-distinct pre) in
    let stays = none_first pre (take i effects) e apart (ap (position (on e.fact.var)) (sym (front_is pre now front (take i effects) so_far)) ∙ none) in
    subst (Arranges pre now front) (sym (one_longer effects i e lt at)) (record {
      order = so_far.order ∙ sym stays.arranged_stays;
      count = so_far.count ∙ ap length (sym stays.prevail_stays);
    })

pub arranges_move : (pre now after : List Fact) (front : ℕ) (effects : List Effect) (i : ℕ) (e : Effect) (place : ℕ) → distinct pre ≡ pre → Arranges pre now front (take i effects) → i < length effects → e ≡ get_or effects i e →
    position (on e.fact.var) (take front now) ≡ Some place → after ≡ take place now ++ (drop (place + 1) now ++ take 1 (drop place now)) → Arranges pre after (front - 1) (take (i + 1) effects)
arranges_move pre now after front effects i e place once so_far lt at some moved =
    let apart = subst Apart once (apart-distinct pre) in
    let moves = some_first pre (take i effects) e place apart (ap (position (on e.fact.var)) (sym (front_is pre now front (take i effects) so_far)) ∙ some) in
    let less = moves.front in
    let before = so_far.count in
    subst (Arranges pre after (front - 1)) (sym (one_longer effects i e lt at)) (record {
      order = moved ∙ ap (λ xs. take place xs ++ (drop (place + 1) xs ++ take 1 (drop place xs))) so_far.order ∙ sym moves.order;
      count = omega arith;
    })

-- what `facts[place..].rotate_left(1)` leaves
pub rotated : (xs ys : List Fact) (a : ℕ) → a < length xs → ys ≡ drop 1 (take (length xs - a) (drop a xs)) ++ take 1 (take (length xs - a) (drop a xs)) → put_mid a (length xs - a) xs ys ≡ take a xs ++ (drop (a + 1) xs ++ take 1 (drop a xs))
rotated xs ys a lt is =
    let rest : take (length xs - a) (drop a xs) ≡ drop a xs = take_rest xs a in
    let part : ys ≡ drop (a + 1) xs ++ take 1 (drop a xs) = is ∙ ap (λ zs. drop 1 zs ++ take 1 zs) rest ∙ ap (λ zs. zs ++ take 1 (drop a xs)) (drop-drop 1 a xs) in
    let behind : drop (length xs - a) (drop a xs) ≡ [] = drop_all (length xs - a) (drop a xs) (omega (arith, length-drop a xs)) in
    ap (λ zs. take a xs ++ (ys ++ zs)) behind ∙ ap (λ zs. take a xs ++ zs) (append-nil ys ∙ part)
