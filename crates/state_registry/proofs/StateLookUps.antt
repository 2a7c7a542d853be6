-- What a look-up in a list tells of a state.
use Rattle.std.proofs.Common.{◌≡◌, ℕ, zero, suc, ◌<◌, List, [], ◌∷◌, ◌++◌, length, slice_get, get_or, position, Bool, true, false, not, ◌||◌, nat_eq, if◌then◌else◌, Some, Result, Ok, Err, OnErr, refl, sym, ap, ◌∙◌}
use Rattle.std.specs.List.{list_any}
use Rattle.std.specs.Cmp.Lexicographic.{pointwise, bytes_decides}
use Rattle.std.proofs.lemmas.List.Quantifiers.{position-Some}
use Rattle.std.proofs.lemmas.Option.{slice_get-get_or}
use Rattle.state_registry.specs.Interning.{Interns, IsAbsent}
use Rattle.state_registry.specs.declared.interned.Interned.TheVariants.{New, Known, Full}
use Rattle.std.proofs.lemmas.Bool.{or_parts as or_false}

pub is_same : (x y : List ℕ) → pointwise nat_eq x y ≡ true → x ≡ y
is_same x y h = (bytes_decides x y).0 h

pub same_is : (x y : List ℕ) → x ≡ y → pointwise nat_eq x y ≡ true
same_is x y e = (bytes_decides x y).1 e

pub absent_from : (keys : List (List ℕ)) (words : List ℕ) → list_any (pointwise nat_eq words) keys ≡ false → IsAbsent keys words
absent_from [] words h id e = cc
absent_from (k ∷ keys) words h zero e =
    let is : k ≡ words = cc in
    let first : pointwise nat_eq words k ≡ true = same_is words k (sym is) in
    let second : pointwise nat_eq words k ≡ false = (or_false (pointwise nat_eq words k) (list_any (pointwise nat_eq words) keys) h).0 in
    cc
absent_from (k ∷ keys) words h (suc id) e = absent_from keys words (or_false (pointwise nat_eq words k) (list_any (pointwise nat_eq words) keys) h).1 id e

not_true : (b : Bool) → not b ≡ true → b ≡ false
not_true true h = absurd (cc)
not_true false h = refl

not_false : (b : Bool) → not b ≡ false → b ≡ true
not_false true h = refl
not_false false h = absurd (cc)

pub adds_new : (keys new : List (List ℕ)) (words : List ℕ) (id most : ℕ) (added : Bool)
    → added ≡ not (list_any (pointwise nat_eq words) keys) → added ≡ true
    → new ≡ (if list_any (pointwise nat_eq words) keys then keys else keys ++ words ∷ [])
    → id ≡ length keys → length keys < most → Interns keys most words (New id) new
adds_new keys new words id most added is new_one keeps place few =
    let absent : list_any (pointwise nat_eq words) keys ≡ false = not_true (list_any (pointwise nat_eq words) keys) (sym is ∙ new_one) in
    (place, few, absent_from keys words absent, keeps ∙ ap (λ b. if b then keys else keys ++ words ∷ []) absent)

pub adds_known : (keys new : List (List ℕ)) (words : List ℕ) (index most : ℕ) (added : Bool)
    → added ≡ not (list_any (pointwise nat_eq words) keys) → added ≡ false
    → new ≡ (if list_any (pointwise nat_eq words) keys then keys else keys ++ words ∷ [])
    → (k : List ℕ) × (slice_get new index ≡ Some k) × (pointwise nat_eq words k ≡ true)
    → Interns keys most words (Known index) new
adds_known keys new words index most added is old_one keeps stored =
    let there : list_any (pointwise nat_eq words) keys ≡ true = not_false (list_any (pointwise nat_eq words) keys) (sym is ∙ old_one) in
    let stays : new ≡ keys = keeps ∙ ap (λ b. if b then keys else keys ++ words ∷ []) there in
    let found : stored.0 ≡ words = sym (is_same words stored.0 stored.2) in
    (ap (λ ks. slice_get ks index) (sym stays) ∙ stored.1 ∙ ap (λ (k : List ℕ). Some k) found, stays)

pub finds_known : (keys : List (List ℕ)) (words : List ℕ) (index most : ℕ) → position (pointwise nat_eq words) keys ≡ Some index → Interns keys most words (Known index) keys
finds_known keys words index most e =
    let at = position-Some (pointwise nat_eq words) keys index [] e in
    let found : get_or keys index [] ≡ words = sym (is_same words (get_or keys index []) at.1) in
    (slice_get-get_or keys index [] at.0 ∙ ap (λ (k : List ℕ). Some k) found, refl)

pub finds_none : (keys : List (List ℕ)) (words : List ℕ) (most : ℕ) → list_any (pointwise nat_eq words) keys ≡ false → length keys ≡ most → Interns keys most words Full keys
finds_none keys words most absent full = (full, absent_from keys words absent, refl)

-- what holds anyway holds on an error
pub on_err : {A E : Type 0} (result : Result A E) (P : Type 0) → P → OnErr result P
on_err (Ok x) P p = tt
on_err (Err e) P p = p
