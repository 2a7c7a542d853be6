-- Laws of lists of facts: which are in a list, and those without a repeated fact.
use Rattle.std.specs.Prelude.{◌≡◌, ℕ, ◌+◌, ◌<◌, ◌≤◌, List, [], ◌∷◌, ◌++◌, length, Bool, true, false, ◌||◌, not, nat_eq, filter, take, drop, set, get_or}
use Rattle.std.proofs.Common.{arith, refl, sym, ap, ◌∙◌, subst, append-nil}
use Rattle.std.proofs.lemmas.List.{drop_more, take_more, take_more_set, drop-set-lt}
use Rattle.std.proofs.lemmas.List.Elements.{filter-append}
use Rattle.std.proofs.lemmas.Bool.Decides.{nat_tests}
use Rattle.lama_num.proofs.ListLaws.{both}
use Rattle.sas_task.specs.Facts.{same_fact, has_fact}
use Rattle.sas_task.specs.Order.{distinct}
use Rattle.sas_task.specs.declared.contents.Fact.{Fact}

-- one fact

pub same-refl : (f : Fact) → same_fact f f ≡ true
same-refl f = grind (arith, nat_tests)

pub same-true : (f g : Fact) → same_fact f g ≡ true → f ≡ g
same-true f g same =
    let parts = both (nat_eq f.var g.var) (nat_eq f.val g.val) same in
    let a : nat_eq f.var g.var ≡ true = parts.0 in
    let b : nat_eq f.val g.val ≡ true = parts.1 in
    let v : f.var ≡ g.var = grind (arith, nat_tests, a) in
    let w : f.val ≡ g.val = grind (arith, nat_tests, b) in
    λ i. record { var = v i; val = w i }

pub same-sym : (f g : Fact) → same_fact f g ≡ same_fact g f
same-sym f g = grind (arith, nat_tests)

-- a fact that isn't another one
abbrev pub isn't : Fact → Fact → Bool
isn't f g = not (same_fact f g)

-- membership

pub has-filter-none : (p : Fact → Bool) (xs : List Fact) (f : Fact) → has_fact xs f ≡ false → has_fact (filter p xs) f ≡ false
has-filter-none p [] f none = refl
has-filter-none p (x ∷ xs) f none =
    elim (same_fact x f) as (λ b. same_fact x f ≡ b → has_fact (filter p (x ∷ xs)) f ≡ false) [
      | true ↦ λ same. let k : true ≡ false = rw same at none in cc
      | false ↦ λ other.
          let rest : has_fact xs f ≡ false = rw other at none in
          elim (p x) as (λ b. p x ≡ b → has_fact (filter p (x ∷ xs)) f ≡ false) [
            | true ↦ λ is. rw (is, other) (has-filter-none p xs f rest)
            | false ↦ λ is. rw is (has-filter-none p xs f rest)
          ] refl
    ] refl

-- a fact is there as before, where others are left out
pub has-filter_other : (y f : Fact) (xs : List Fact) → same_fact y f ≡ false → has_fact (filter (isn't y) xs) f ≡ has_fact xs f
has-filter_other y f [] other = refl
has-filter_other y f (x ∷ xs) other =
    let rest = has-filter_other y f xs other in
    elim (same_fact y x) as (λ b. same_fact y x ≡ b → has_fact (filter (isn't y) (x ∷ xs)) f ≡ has_fact (x ∷ xs) f) [
      | true ↦ λ same.
          let e : y ≡ x = same-true y x same in
          let no : same_fact x f ≡ false = subst (λ z. same_fact z f ≡ false) e other in
          rw (same, no) rest
      | false ↦ λ is. rw (is, rest) refl
    ] refl

-- and isn't, where it is left out itself
pub has-filter_self : (f : Fact) (xs : List Fact) → has_fact (filter (isn't f) xs) f ≡ false
has-filter_self f [] = refl
has-filter_self f (x ∷ xs) =
    let rest = has-filter_self f xs in
    elim (same_fact f x) as (λ b. same_fact f x ≡ b → has_fact (filter (isn't f) (x ∷ xs)) f ≡ false) [
      | true ↦ λ same. rw same rest
      | false ↦ λ is. let back : same_fact x f ≡ false = sym (same-sym f x) ∙ is in rw (is, back) rest
    ] refl

-- nothing is left out of a list without the fact
pub filter-none : (f : Fact) (xs : List Fact) → has_fact xs f ≡ false → filter (isn't f) xs ≡ xs
filter-none f [] none = refl
filter-none f (x ∷ xs) none =
    elim (same_fact x f) as (λ b. same_fact x f ≡ b → filter (isn't f) (x ∷ xs) ≡ x ∷ xs) [
      | true ↦ λ same. let k : true ≡ false = rw same at none in cc
      | false ↦ λ other.
          let rest : has_fact xs f ≡ false = rw other at none in
          let back : same_fact f x ≡ false = same-sym f x ∙ other in
          rw back (ap (λ zs. x ∷ zs) (filter-none f xs rest))
    ] refl

pub has-append : (xs ys : List Fact) (f : Fact) → has_fact (xs ++ ys) f ≡ (has_fact xs f || has_fact ys f)
has-append [] ys f = refl
has-append (x ∷ xs) ys f =
    elim (same_fact x f) as (λ b. same_fact x f ≡ b → has_fact ((x ∷ xs) ++ ys) f ≡ (has_fact (x ∷ xs) f || has_fact ys f)) [
      | true ↦ λ is. rw is refl
      | false ↦ λ is. rw is (has-append xs ys f)
    ] refl

-- two tests that agree on each fact of a list pick the same facts
pub filter-same : (p q : Fact → Bool) (xs : List Fact) → ((f : Fact) → has_fact xs f ≡ true → p f ≡ q f) → filter p xs ≡ filter q xs
filter-same p q [] agree = refl
filter-same p q (x ∷ xs) agree =
    let here : p x ≡ q x = agree x (rw (same-refl x) refl) in
    let there = λ (f : Fact) (in_xs : has_fact xs f ≡ true). agree f (behind (same_fact x f) (has_fact xs f) in_xs) in
    let rest = filter-same p q xs there in
    elim (q x) as (λ b. q x ≡ b → filter p (x ∷ xs) ≡ filter q (x ∷ xs)) [
      | true ↦ λ is. rw (here, is) (ap (λ zs. x ∷ zs) rest)
      | false ↦ λ is. rw (here, is) rest
    ] refl
  where
    behind : (a b : Bool) → b ≡ true → (a || b) ≡ true
    behind true b is = refl
    behind false b is = is

-- lists without a repeated fact

abbrev pub Apart : List Fact → Type 0
Apart [] = Unit {0}
Apart (f ∷ fs) = (has_fact fs f ≡ false) × Apart fs

pub apart-filter : (p : Fact → Bool) (xs : List Fact) → Apart xs → Apart (filter p xs)
apart-filter p [] apart = tt
apart-filter p (x ∷ xs) apart =
    let rest = apart-filter p xs apart.1 in
    elim (p x) as (λ b. p x ≡ b → Apart (filter p (x ∷ xs))) [
      | true ↦ λ is. rw is (has-filter-none p xs x apart.0, rest)
      | false ↦ λ is. rw is rest
    ] refl

pub apart-distinct : (xs : List Fact) → Apart (distinct xs)
apart-distinct [] = tt
apart-distinct (x ∷ xs) = (has-filter_self x (distinct xs), apart-filter (isn't x) (distinct xs) (apart-distinct xs))

pub distinct-apart : (xs : List Fact) → Apart xs → distinct xs ≡ xs
distinct-apart [] apart = refl
distinct-apart (x ∷ xs) apart = rw (distinct-apart xs apart.1) (ap (λ zs. x ∷ zs) (filter-none x xs apart.0))

-- one more fact at the end

pub record PushDistinct (xs : List Fact) (f : Fact) : Type 0 where
  pub known : has_fact (distinct xs) f ≡ true → distinct (xs ++ f ∷ []) ≡ distinct xs
  pub new : has_fact (distinct xs) f ≡ false → distinct (xs ++ f ∷ []) ≡ distinct xs ++ f ∷ []

pub distinct-push : (xs : List Fact) (f : Fact) → PushDistinct xs f
distinct-push [] f = record { known = λ k. (let e : false ≡ true = k in cc); new = λ _. refl }
distinct-push (x ∷ xs) f =
    let rest = distinct-push xs f in
    elim (same_fact x f) as (λ b. same_fact x f ≡ b → PushDistinct (x ∷ xs) f) [
      | true ↦ λ same. record {
        known = λ _. ap (λ zs. x ∷ zs) (elim (has_fact (distinct xs) f) as (λ b. has_fact (distinct xs) f ≡ b → filter (isn't x) (distinct (xs ++ f ∷ [])) ≡ filter (isn't x) (distinct xs)) [
          | true ↦ λ is. ap (filter (isn't x)) (rest.known is)
          | false ↦ λ is. rw (rest.new is, filter-append (isn't x) (distinct xs) (f ∷ []), same) (append-nil (filter (isn't x) (distinct xs)))
        ] refl);
        new = λ k. (let e : true ≡ false = rw same at k in cc);
      }
      | false ↦ λ other.
          let as_before = has-filter_other x f (distinct xs) other in
          record {
            known = λ k. let is : has_fact (distinct xs) f ≡ true = sym as_before ∙ rw other at k in ap (λ zs. x ∷ zs) (ap (filter (isn't x)) (rest.known is));
            new = λ k. let is : has_fact (distinct xs) f ≡ false = sym as_before ∙ rw other at k in
                rw (rest.new is, filter-append (isn't x) (distinct xs) (f ∷ []), other) refl;
          }
    ] refl

-- A list in which the distinct facts of the first places have moved to the front.
pub record KeepsDistinct (old now : List Fact) (kept i : ℕ) : Type 0 where
  pub front : take kept now ≡ distinct (take i old)
  pub rest : drop i now ≡ drop i old
  pub behind : kept ≤ i

same_place : (old now : List Fact) (i : ℕ) (f : Fact) → length now ≡ length old → i < length now → drop i now ≡ drop i old → f ≡ get_or now i f → (get_or old i f ≡ f) × (drop (i + 1) now ≡ drop (i + 1) old)
same_place old now i f long lt rest at =
    let l : get_or now i f ∷ drop (i + 1) now ≡ get_or old i f ∷ drop (i + 1) old = sym (drop_more now i f lt) ∙ rest ∙ drop_more old i f (omega arith) in
    let head : get_or now i f ≡ get_or old i f = cc in
    let tail : drop (i + 1) now ≡ drop (i + 1) old = cc in
    (sym (at ∙ head), tail)

pub keeps_known : (old now : List Fact) (kept i : ℕ) (f : Fact) → KeepsDistinct old now kept i → length now ≡ length old → i < length now → f ≡ get_or now i f → has_fact (take kept now) f ≡ true → KeepsDistinct old now kept (i + 1)
keeps_known old now kept i f keeps long lt at known =
    let same = same_place old now i f long lt keeps.rest at in
    let known_before : has_fact (distinct (take i old)) f ≡ true = subst (λ fs. has_fact fs f ≡ true) keeps.front known in
    let more : take (i + 1) old ≡ take i old ++ f ∷ [] = take_more old i f (omega arith) ∙ ap (λ g. take i old ++ g ∷ []) same.0 in
    record {
      front = keeps.front ∙ sym ((distinct-push (take i old) f).known known_before) ∙ ap distinct (sym more);
      rest = same.1;
      behind = omega (arith, keeps.behind);
    }

pub keeps_new : (old now : List Fact) (kept i : ℕ) (f : Fact) → KeepsDistinct old now kept i → length now ≡ length old → i < length now → f ≡ get_or now i f → has_fact (take kept now) f ≡ false → KeepsDistinct old (set now kept f) (kept + 1) (i + 1)
keeps_new old now kept i f keeps long lt at new =
    let same = same_place old now i f long lt keeps.rest at in
    let new_before : has_fact (distinct (take i old)) f ≡ false = subst (λ fs. has_fact fs f ≡ false) keeps.front new in
    let more : take (i + 1) old ≡ take i old ++ f ∷ [] = take_more old i f (omega arith) ∙ ap (λ g. take i old ++ g ∷ []) same.0 in
    let behind = keeps.behind in
    record {
      front = take_more_set now kept f (omega arith) ∙ ap (λ fs. fs ++ f ∷ []) keeps.front ∙ sym ((distinct-push (take i old) f).new new_before) ∙ ap distinct (sym more);
      rest = drop-set-lt (i + 1) now kept f (omega arith) ∙ same.1;
      behind = omega arith;
    }

pub distinct_again : (xs : List Fact) → distinct (distinct xs) ≡ distinct xs
distinct_again xs = distinct-apart (distinct xs) (apart-distinct xs)

-- what the test of a new fact tells

pub was_new : (new known : Bool) → new ≡ not known → new ≡ true → known ≡ false
was_new new true e is = let k : false ≡ true = sym e ∙ is in cc
was_new new false e is = refl

pub was_known : (new known : Bool) → new ≡ not known → new ≡ false → known ≡ true
was_known new true e is = refl
was_known new false e is = let k : true ≡ false = sym e ∙ is in cc
