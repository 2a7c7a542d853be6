-- What the tables stand for, after one fact or effect more.
use Rattle.std.specs.Prelude.{◌≡◌, ℕ, zero, suc, ◌+◌, ◌<◌, ◌≤◌, List, [], ◌∷◌, ◌++◌, length, Bool, true, false, ◌&&◌, ◌||◌, not, nat_eq, nat_lt, filter, slice_get, Option, Some, None, cond, if◌then◌else◌}
use Rattle.std.proofs.Common.{arith, refl, sym, ap, ◌∙◌, subst, append-nil, append_assoc}
use Rattle.std.specs.List.{cons_option}
use Rattle.std.specs.Ordering.{nat_cmp, is_eq}
use Rattle.std.specs.BTreeMap as tree
use Rattle.std.specs.BTreeMap.{BTreeMap}
use Rattle.std.specs.BTreeSet as set
use Rattle.std.specs.BTreeSet.{BTreeSet}
use Rattle.std.proofs.lemmas.List.{length_push}
use Rattle.std.proofs.lemmas.List.Elements.{filter-append, filter_agree}
use Rattle.std.proofs.lemmas.Bool.Decides.{nat_tests}
use Rattle.lama_num.proofs.ListLaws.{both}
use Rattle.sas_task.specs.Facts.{same_fact, has_fact}
use Rattle.sas_task.specs.Order.{on_variable, effects_on, is_prevail, prevail, standing, arranged}
use Rattle.sas_task.specs.Tables.{pair_cmp, Knows, Remembers, count_of, CountsFacts, CountsEffects, Places}
use Rattle.sas_task.specs.declared.contents.Fact.{Fact}
use Rattle.sas_task.specs.declared.contents.Effect.{Effect}
use Rattle.sas_task.proofs.FactLists.{same-true, isn't, has-append}
use Rattle.sas_task.proofs.PreconditionOrder.{filter-twice, prevail-none, prevail-some, effects_on-same, effects_on-other}
use Rattle.std.proofs.lemmas.Bool.{eqb-true as same_numbers}
use Rattle.sas_task.proofs.MovedPreconditions.{standing_from, standing_is, standing-more, prevail-nil}

-- pairs

number_at : (x y : ℕ) → is_eq (nat_cmp x y) ≡ nat_eq x y
number_at x y =
    elim (nat_lt x y) as (λ b. nat_lt x y ≡ b → is_eq (nat_cmp x y) ≡ nat_eq x y) [
      | true ↦ λ lt. let other : nat_eq x y ≡ false = grind (arith, nat_tests, lt) in rw (lt, other) refl
      | false ↦ λ not_lt. elim (nat_eq x y) as (λ b. nat_eq x y ≡ b → is_eq (nat_cmp x y) ≡ b) [
        | true ↦ λ same. rw (not_lt, same) refl
        | false ↦ λ other. rw (not_lt, other) refl
      ] refl
    ] refl

pair_at : (a b c d : ℕ) → is_eq (pair_cmp (a, b) (c, d)) ≡ (nat_eq a c && nat_eq b d)
pair_at a b c d =
    elim (nat_lt a c) as (λ t. nat_lt a c ≡ t → is_eq (pair_cmp (a, b) (c, d)) ≡ (nat_eq a c && nat_eq b d)) [
      | true ↦ λ lt. let other : nat_eq a c ≡ false = grind (arith, nat_tests, lt) in rw (lt, other) refl
      | false ↦ λ not_lt. elim (nat_eq a c) as (λ t. nat_eq a c ≡ t → is_eq (pair_cmp (a, b) (c, d)) ≡ (t && nat_eq b d)) [
        | true ↦ λ same. rw (not_lt, same) (number_at b d)
        | false ↦ λ other. rw (not_lt, other) refl
      ] refl
    ] refl

-- facts that are known

known_one : (facts : List Fact) (f g : Fact) → cond (same_fact f g) true (has_fact facts g) ≡ has_fact (facts ++ f ∷ []) g
known_one facts f g = joined (same_fact f g) (has_fact facts g) ∙ sym (has-append facts (f ∷ []) g)
  where
    joined : (a b : Bool) → cond a true b ≡ (b || (a || false))
    joined true true = refl
    joined true false = refl
    joined false true = refl
    joined false false = refl

pub knows_more : (old new : BTreeSet (ℕ × ℕ)) (facts : List Fact) (f : Fact) → Knows old facts → set.Updates pair_cmp old new (f.var, f.val) true → Knows new (facts ++ f ∷ [])
knows_more old new facts f knows updates = record {
  has = λ var val.
      let g : Fact = record { var = var; val = val } in
      updates.0 (var, val) ∙ ap (λ b. cond b true (set.contains pair_cmp old (var, val))) (pair_at f.var f.val var val) ∙ ap (λ b. cond (same_fact f g) true b) (knows.has var val) ∙ known_one facts f g;
}

-- a fact that was known before is no new one
pub knows_again : (known : BTreeSet (ℕ × ℕ)) (facts : List Fact) (f : Fact) → has_fact facts f ≡ true → Knows known (facts ++ f ∷ []) → Knows known facts
knows_again known facts f there knows = record {
  has = λ var val. knows.has var val ∙ has-append facts (f ∷ []) (record { var = var; val = val }) ∙ again (record { var = var; val = val });
}
  where
    nor : (b : Bool) → (b || false) ≡ b
    nor true = refl
    nor false = refl

    again : (g : Fact) → (has_fact facts g || (same_fact f g || false)) ≡ has_fact facts g
    again g = elim (same_fact f g) as (λ b. same_fact f g ≡ b → (has_fact facts g || (b || false)) ≡ has_fact facts g) [
      | true ↦ λ same. let is : has_fact facts g ≡ true = subst (λ h. has_fact facts h ≡ true) (same-true f g same) there in rw is refl
      | false ↦ λ other. nor (has_fact facts g)
    ] refl

-- what `is_new` leaves
pub remembers_more : (old new : BTreeSet (ℕ × ℕ)) (facts : List Fact) (f : Fact) → Knows old facts → set.Updates pair_cmp old new (f.var, f.val) true → Knows new (if has_fact facts f then facts else facts ++ f ∷ [])
remembers_more old new facts f knows updates =
    let more = knows_more old new facts f knows updates in
    elim (has_fact facts f) as (λ b. has_fact facts f ≡ b → Knows new (if b then facts else facts ++ f ∷ [])) [
      | true ↦ λ there. knows_again new facts f there more
      | false ↦ λ not_there. more
    ] refl

-- counts

length-on-push : (var : ℕ) (facts : List Fact) (f : Fact) → (if nat_eq f.var var then length (on_variable var facts) + 1 else length (on_variable var facts)) ≡ length (on_variable var (facts ++ f ∷ []))
length-on-push var facts f =
    let split = filter-append (λ (g : Fact). nat_eq g.var var) facts (f ∷ []) in
    elim (nat_eq f.var var) as (λ b. nat_eq f.var var ≡ b → (if b then length (on_variable var facts) + 1 else length (on_variable var facts)) ≡ length (on_variable var (facts ++ f ∷ []))) [
      | true ↦ λ is. rw (split, is) (sym (length_push (on_variable var facts) f))
      | false ↦ λ other. rw (split, other) (ap length (sym (append-nil (on_variable var facts))))
    ] refl

pub counts_fact : (old new : BTreeMap ℕ ℕ) (facts : List Fact) (f : Fact) → CountsFacts old facts → ((q : ℕ) → count_of new q ≡ (if nat_eq f.var q then count_of old q + 1 else count_of old q)) → CountsFacts new (facts ++ f ∷ [])
counts_fact old new facts f counts after = record { count = λ var. after var ∙ ap (λ n. if nat_eq f.var var then n + 1 else n) (counts.count var) ∙ length-on-push var facts f }

pub counts_effect : (old new : BTreeMap ℕ ℕ) (effects : List Effect) (e : Effect) → CountsEffects old effects → ((q : ℕ) → count_of new q ≡ (if nat_eq e.fact.var q then count_of old q + 1 else count_of old q)) → CountsEffects new (effects ++ e ∷ [])
counts_effect old new effects e counts after = record { count = λ var. after var ∙ ap (λ n. if nat_eq e.fact.var var then n + 1 else n) (counts.count var) ∙ one var }
  where
    one : (var : ℕ) → (if nat_eq e.fact.var var then effects_on var effects + 1 else effects_on var effects) ≡ effects_on var (effects ++ e ∷ [])
    one var = elim (nat_eq e.fact.var var) as (λ b. nat_eq e.fact.var var ≡ b → (if b then effects_on var effects + 1 else effects_on var effects) ≡ effects_on var (effects ++ e ∷ [])) [
      | true ↦ λ is. subst (λ w. effects_on w effects + 1 ≡ effects_on w (effects ++ e ∷ [])) (same_numbers e.fact.var var is) (let more = effects_on-same effects e in omega arith)
      | false ↦ λ other. sym (effects_on-other effects e var other)
    ] refl

pub length-filter-le : {X : Type 0} (p : X → Bool) (xs : List X) → length (filter p xs) ≤ length xs
length-filter-le p [] = omega arith
length-filter-le p (x ∷ xs) =
    let rest = length-filter-le p xs in
    elim (p x) as (λ b. p x ≡ b → length (filter p (x ∷ xs)) ≤ suc (length xs)) [
      | true ↦ λ is. rw is (omega arith)
      | false ↦ λ is. rw is (omega arith)
    ] refl

pub few_facts : (counts : BTreeMap ℕ ℕ) (facts : List Fact) (var : ℕ) → CountsFacts counts facts → count_of counts var ≤ length facts
few_facts counts facts var is = rw (is.count var) (length-filter-le (λ (g : Fact). nat_eq g.var var) facts)

pub few_effects : (counts : BTreeMap ℕ ℕ) (effects : List Effect) (var : ℕ) → CountsEffects counts effects → count_of counts var ≤ length effects
few_effects counts effects var is = rw (is.count var) (length-filter-le (λ (e : Effect). nat_eq e.fact.var var) effects)

-- places

slice_get-push : (xs : List Fact) (y : Fact) (k : ℕ) → slice_get (xs ++ y ∷ []) k ≡ cond (nat_eq (length xs) k) (Some y) (slice_get xs k)
slice_get-push [] y zero = refl
slice_get-push [] y (suc k) = let other : nat_eq 0 (suc k) ≡ false = grind (arith, nat_tests) in rw other refl
slice_get-push (x ∷ xs) y zero = let other : nat_eq (suc (length xs)) 0 ≡ false = grind (arith, nat_tests) in rw other refl
slice_get-push (x ∷ xs) y (suc k) = let same : nat_eq (suc (length xs)) (suc k) ≡ nat_eq (length xs) k = grind (arith, nat_tests) in rw same (slice_get-push xs y k)

pub places_more : (old new : BTreeMap (ℕ × ℕ) Fact) (counts : BTreeMap ℕ ℕ) (facts : List Fact) (f : Fact) (place : ℕ) → Places old facts → CountsFacts counts facts → place ≡ count_of counts f.var → tree.Updates pair_cmp old new (f.var, place) (Some f) → Places new (facts ++ f ∷ [])
places_more old new counts facts f place placed counted is updates = record {
  at = λ var k. updates.0 (var, k) ∙ ap (λ b. cond b (Some f) (tree.get pair_cmp old (var, k))) (pair_at f.var place var k) ∙ ap (λ o. cond (nat_eq f.var var && nat_eq place k) (Some f) o) (placed.at var k) ∙ one var k;
}
  where
    here : place ≡ length (on_variable f.var facts)
    here = is ∙ counted.count f.var

    one : (var k : ℕ) → cond (nat_eq f.var var && nat_eq place k) (Some f) (slice_get (on_variable var facts) k) ≡ slice_get (on_variable var (facts ++ f ∷ [])) k
    one var k =
        let split = filter-append (λ (g : Fact). nat_eq g.var var) facts (f ∷ []) in
        elim (nat_eq f.var var) as (λ b. nat_eq f.var var ≡ b → cond (b && nat_eq place k) (Some f) (slice_get (on_variable var facts) k) ≡ slice_get (on_variable var (facts ++ f ∷ [])) k) [
          | true ↦ λ same.
              let long : place ≡ length (on_variable var facts) = subst (λ w. place ≡ length (on_variable w facts)) (same_numbers f.var var same) here in
              rw (split, same) (ap (λ n. cond (nat_eq n k) (Some f) (slice_get (on_variable var facts) k)) long ∙ sym (slice_get-push (on_variable var facts) f k))
          | false ↦ λ other. rw (split, other) (ap (λ xs. slice_get xs k) (sym (append-nil (on_variable var facts))))
        ] refl

-- effects

pub standing_some : (pre : List Fact) (effects : List Effect) (e : Effect) (x : Fact) → slice_get (on_variable e.fact.var pre) (effects_on e.fact.var effects) ≡ Some x → standing pre (effects ++ e ∷ []) ≡ standing pre effects ++ x ∷ []
standing_some pre effects e x some = standing-more pre effects e ∙ ap (λ o. standing pre effects ++ cons_option o []) some

pub standing_none : (pre : List Fact) (effects : List Effect) (e : Effect) → slice_get (on_variable e.fact.var pre) (effects_on e.fact.var effects) ≡ None → standing pre (effects ++ e ∷ []) ≡ standing pre effects
standing_none pre effects e none = standing-more pre effects e ∙ ap (λ o. standing pre effects ++ cons_option o []) none ∙ append-nil (standing pre effects)

-- the prevail conditions are the others

others_from : (pre : List Fact) (before es : List Effect) → filter (λ f. not (has_fact (standing_from pre before es) f)) (prevail pre before) ≡ prevail pre (before ++ es)
others_from pre before [] = every (prevail pre before) ∙ ap (prevail pre) (sym (append-nil before))
  where
    every : (xs : List Fact) → filter (λ f. true) xs ≡ xs
    every [] = refl
    every (x ∷ xs) = ap (λ zs. x ∷ zs) (every xs)
others_from pre before (e ∷ es) =
    let rest = others_from pre (before ++ e ∷ []) es ∙ ap (prevail pre) (append_assoc before (e ∷ []) es) in
    let behind = standing_from pre (before ++ e ∷ []) es in
    elim (slice_get (on_variable e.fact.var pre) (effects_on e.fact.var before)) as (λ o. slice_get (on_variable e.fact.var pre) (effects_on e.fact.var before) ≡ o → filter (λ f. not (has_fact (cons_option o behind) f)) (prevail pre before) ≡ prevail pre (before ++ e ∷ es)) [
      | None ↦ λ none. ap (filter (λ f. not (has_fact behind f))) (sym (prevail-none pre before e none)) ∙ rest
      | Some x ↦ λ some.
          let nor = λ (f : Fact). neither (same_fact x f) (has_fact behind f) in
          filter_agree (λ f. not (same_fact x f || has_fact behind f)) (λ f. isn't x f && not (has_fact behind f)) nor (prevail pre before)
          ∙ sym (filter-twice (λ f. not (has_fact behind f)) (isn't x) (prevail pre before))
          ∙ ap (filter (λ f. not (has_fact behind f))) (sym (prevail-some pre before e x some)) ∙ rest
    ] refl
  where
    neither : (a b : Bool) → not (a || b) ≡ (not a && not b)
    neither true b = refl
    neither false b = refl

-- what `keep_unknown` keeps of the preconditions
pub prevail_unknown : (known : BTreeSet (ℕ × ℕ)) (pre : List Fact) (effects : List Effect) → Knows known (standing pre effects) → filter (λ f. not (set.contains pair_cmp known (f.var, f.val))) pre ≡ prevail pre effects
prevail_unknown known pre effects knows =
    filter_agree (λ f. not (set.contains pair_cmp known (f.var, f.val))) (λ f. not (has_fact (standing pre effects) f)) (λ f. ap not (knows.has f.var f.val)) pre
    ∙ ap (λ xs. filter (λ f. not (has_fact xs f)) pre) (standing_is pre [] effects)
    ∙ ap (filter (λ f. not (has_fact (standing_from pre [] effects) f))) (sym (prevail-nil pre))
    ∙ others_from pre [] effects

-- what a look-up by an effect finds
pub found_for : (placed : BTreeMap (ℕ × ℕ) Fact) (counts : BTreeMap ℕ ℕ) (pre : List Fact) (effects : List Effect) (e : Effect) (place : ℕ) → Places placed pre → CountsEffects counts effects → place ≡ count_of counts e.fact.var →
    tree.get pair_cmp placed (e.fact.var, place) ≡ slice_get (on_variable e.fact.var pre) (effects_on e.fact.var effects)
found_for placed counts pre effects e place placed_is counted is = placed_is.at e.fact.var place ∙ ap (slice_get (on_variable e.fact.var pre)) (is ∙ counted.count e.fact.var)

-- the two parts of the order
pub record AreArranged (pre : List Fact) (effects : List Effect) (kept items : List Fact) : Type 0 where
  pub front : kept ≡ prevail pre effects
  pub whole : kept ++ items ≡ arranged pre effects

pub are_arranged : (known : BTreeSet (ℕ × ℕ)) (pre : List Fact) (effects : List Effect) (kept items : List Fact) → Knows known items → items ≡ standing pre effects → kept ≡ filter (λ f. not (set.contains pair_cmp known (f.var, f.val))) pre →
    AreArranged pre effects kept items
are_arranged known pre effects kept items knows is by =
    let front = by ∙ prevail_unknown known pre effects (subst (Knows known) is knows) in
    record { front = front; whole = ap (λ xs. xs ++ items) front ∙ ap (λ xs. prevail pre effects ++ xs) is }
