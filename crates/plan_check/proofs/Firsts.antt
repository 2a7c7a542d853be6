-- The items of a list that aren't the same as one before them.
use Rattle.std.proofs.Common.{◌≡◌, ◌∙◌, sym, ap, refl, ◌≤◌, List, [], ◌∷◌, ◌++◌, length, Bool, true, false, arith, append-nil, length-append}
use Rattle.std.specs.Prelude.{◌||◌, if◌then◌else◌}
use Rattle.std.specs.List.{list_any, find, flat_map}
use Rattle.std.proofs.lemmas.List.Folds.{list_any-append}
use Rattle.plan_check.specs.Verdicts.{firsts_after}

-- a test that says which items have one kind
pub record IsByKind {A K : Type 0} (kind : A → K) (same : A → A → Bool) : Type 0 where
  pub same_kind : (x y : A) → same x y ≡ true → kind x ≡ kind y
  pub kind_same : (x y : A) → kind x ≡ kind y → same x y ≡ true

-- two tests that answer alike keep the same items

any_alike : {A : Type 0} (p q : A → Bool) (xs : List A) → ((x : A) → p x ≡ q x) → list_any p xs ≡ list_any q xs
any_alike p q [] alike = refl
any_alike p q (x ∷ xs) alike = ap (λ b. b || list_any p xs) (alike x) ∙ ap (λ b. q x || b) (any_alike p q xs alike)

module _ {A K : Type 0} (kind : A → K) (same : A → A → Bool) (by : IsByKind kind same) where
  -- an item is the same as one of a list
  abbrev pub IsIn : List A → A → Type 0
  IsIn seen x = list_any (same x) seen ≡ true

  same_as : (x y : A) → kind x ≡ kind y → (z : A) → same x z ≡ same y z
  same_as x y is z =
      elim (same x z) as (λ b. same x z ≡ b → b ≡ same y z) [
        | true ↦ λ there. sym (by.kind_same y z (sym is ∙ by.same_kind x z there))
        | false ↦ λ none. elim (same y z) as (λ b. same y z ≡ b → false ≡ b) [
          | true ↦ λ there. let other : same x z ≡ true = by.kind_same x z (is ∙ by.same_kind y z there) in sym none ∙ other
          | false ↦ λ also. refl
        ] refl
      ] refl

  -- of one kind, both are there or neither is
  pub in_by_kind : (x y : A) (seen : List A) → kind x ≡ kind y → list_any (same x) seen ≡ list_any (same y) seen
  in_by_kind x y seen is = any_alike (same x) (same y) seen (same_as x y is)

  -- two lists in which the same items are
  pub record AreAlike (seen others : List A) : Type 0 where
    pub alike : (x : A) → list_any (same x) seen ≡ list_any (same x) others

  alike_cons : (seen others : List A) (y : A) → AreAlike seen others → AreAlike (y ∷ seen) (y ∷ others)
  alike_cons seen others y are = record { alike = λ x. ap (λ b. same x y || b) (are.alike x) }

  pub firsts_alike : (seen others xs : List A) → AreAlike seen others → firsts_after same seen xs ≡ firsts_after same others xs
  firsts_alike seen others [] are = refl
  firsts_alike seen others (x ∷ xs) are =
      elim (list_any (same x) seen) as (λ b. list_any (same x) seen ≡ b → firsts_after same seen (x ∷ xs) ≡ firsts_after same others (x ∷ xs)) [
        | true ↦ λ is. let there : list_any (same x) others ≡ true = sym (are.alike x) ∙ is in rw (is, there) (firsts_alike seen others xs are)
        | false ↦ λ is. let there : list_any (same x) others ≡ false = sym (are.alike x) ∙ is in
            rw (is, there) (ap (λ ys. x ∷ ys) (firsts_alike (x ∷ seen) (x ∷ others) xs (alike_cons seen others x are)))
      ] refl

  -- an item that is there already may be seen again
  alike_again : (seen : List A) (y : A) → IsIn seen y → AreAlike (y ∷ seen) seen
  alike_again seen y there = record {
    alike = λ x. elim (same x y) as (λ b. same x y ≡ b → (b || list_any (same x) seen) ≡ list_any (same x) seen) [
      | true ↦ λ is. sym (in_by_kind x y seen (by.same_kind x y is) ∙ there)
      | false ↦ λ is. refl
    ] refl;
  }

  alike_then : (one two three : List A) → AreAlike one two → AreAlike two three → AreAlike one three
  alike_then one two three first second = record { alike = λ x. first.alike x ∙ second.alike x }

  or_swap : (a b c : Bool) → (a || (b || c)) ≡ (b || (a || c))
  or_swap true true c = refl
  or_swap true false c = refl
  or_swap false true c = refl
  or_swap false false c = refl

  -- the order of what was seen doesn't matter
  alike_middle : (xs seen : List A) (y : A) → AreAlike (xs ++ y ∷ seen) (y ∷ xs ++ seen)
  alike_middle [] seen y = record { alike = λ x. refl }
  alike_middle (z ∷ xs) seen y = record { alike = λ x. ap (λ b. same x z || b) ((alike_middle xs seen y).alike x) ∙ or_swap (same x z) (same x y) (list_any (same x) (xs ++ seen)) }

  -- lists put together
  pub firsts-append : (seen xs ys : List A) → firsts_after same seen (xs ++ ys) ≡ firsts_after same seen xs ++ firsts_after same (xs ++ seen) ys
  firsts-append seen [] ys = refl
  firsts-append seen (x ∷ xs) ys =
      elim (list_any (same x) seen) as (λ b. list_any (same x) seen ≡ b → firsts_after same seen (x ∷ (xs ++ ys)) ≡ firsts_after same seen (x ∷ xs) ++ firsts_after same (x ∷ (xs ++ seen)) ys) [
        | true ↦ λ is.
            let there : IsIn (xs ++ seen) x = list_any-append (same x) xs seen ∙ (rw is (or_true (list_any (same x) xs))) in
            rw is (firsts-append seen xs ys ∙ ap (λ zs. firsts_after same seen xs ++ zs) (sym (firsts_alike (x ∷ (xs ++ seen)) (xs ++ seen) ys (alike_again (xs ++ seen) x there))))
        | false ↦ λ is.
            rw is (ap (λ zs. x ∷ zs) (firsts-append (x ∷ seen) xs ys ∙ ap (λ zs. firsts_after same (x ∷ seen) xs ++ zs) (firsts_alike (xs ++ x ∷ seen) (x ∷ (xs ++ seen)) ys (alike_middle xs seen x))))
      ] refl
    where
      or_true : (a : Bool) → (a || true) ≡ true
      or_true true = refl
      or_true false = refl

  -- all are there
  pub record AreIn (seen xs : List A) : Type 0 where
    pub each : (x : A) → IsIn xs x → IsIn seen x

  same_self : (x : A) → same x x ≡ true
  same_self x = by.kind_same x x refl

  first_in : (x : A) (xs : List A) → IsIn (x ∷ xs) x
  first_in x xs = ap (λ b. b || list_any (same x) xs) (same_self x)

  rest_in : (x y : A) (xs : List A) → IsIn xs x → IsIn (y ∷ xs) x
  rest_in x y xs there = ap (λ b. same x y || b) there ∙ or_true (same x y)
    where
      or_true : (a : Bool) → (a || true) ≡ true
      or_true true = refl
      or_true false = refl

  -- nothing more of what is there
  pub firsts_none : (seen xs : List A) → AreIn seen xs → firsts_after same seen xs ≡ []
  firsts_none seen [] are = refl
  firsts_none seen (x ∷ xs) are =
      let there : list_any (same x) seen ≡ true = are.each x (first_in x xs) in
      rw there (firsts_none seen xs (record { each = λ y is. are.each y (rest_in y x xs is) }))

  pub alike_more : (xs seen : List A) → AreIn seen xs → AreAlike (xs ++ seen) seen
  alike_more [] seen are = record { alike = λ x. refl }
  alike_more (x ∷ xs) seen are =
      let rest = alike_more xs seen (record { each = λ y is. are.each y (rest_in y x xs is) }) in
      let there : IsIn (xs ++ seen) x = rest.alike x ∙ are.each x (first_in x xs) in
      alike_then (x ∷ (xs ++ seen)) (xs ++ seen) seen (alike_again (xs ++ seen) x there) rest

  -- what has been kept is the same as what there was
  pub in_firsts : (seen xs : List A) (y : A) → list_any (same y) (firsts_after same seen xs ++ seen) ≡ list_any (same y) (xs ++ seen)
  in_firsts seen [] y = refl
  in_firsts seen (x ∷ xs) y =
      elim (list_any (same x) seen) as (λ b. list_any (same x) seen ≡ b → list_any (same y) (firsts_after same seen (x ∷ xs) ++ seen) ≡ list_any (same y) (x ∷ (xs ++ seen))) [
        | true ↦ λ is.
            let there : IsIn (xs ++ seen) x = list_any-append (same x) xs seen ∙ (rw is (or_true (list_any (same x) xs))) in
            rw is (in_firsts seen xs y ∙ sym ((alike_again (xs ++ seen) x there).alike y))
        | false ↦ λ is.
            let kept = firsts_after same (x ∷ seen) xs in
            rw is (sym ((alike_middle kept seen x).alike y) ∙ in_firsts (x ∷ seen) xs y ∙ (alike_middle xs seen x).alike y)
      ] refl
    where
      or_true : (a : Bool) → (a || true) ≡ true
      or_true true = refl
      or_true false = refl

  -- One item more is kept where it isn't the same as one kept before.
  pub firsts_more : (xs : List A) (x : A) → firsts_after same [] (xs ++ x ∷ []) ≡ (if list_any (same x) (firsts_after same [] xs) then firsts_after same [] xs else (firsts_after same [] xs ++ x ∷ []))
  firsts_more xs x =
      let there : list_any (same x) (firsts_after same [] xs) ≡ list_any (same x) (xs ++ []) =
      ap (list_any (same x)) (sym (append-nil (firsts_after same [] xs))) ∙ in_firsts [] xs x in
      firsts-append [] xs (x ∷ [])
      ∙ elim (list_any (same x) (xs ++ [])) as (λ b. list_any (same x) (xs ++ []) ≡ b → (firsts_after same [] xs ++ (if b then [] else (x ∷ []))) ≡ (if list_any (same x) (firsts_after same [] xs) then firsts_after same [] xs else (firsts_after same [] xs ++ x ∷ []))) [
        | true ↦ λ is. let kept : list_any (same x) (firsts_after same [] xs) ≡ true = there ∙ is in rw kept (append-nil (firsts_after same [] xs))
        | false ↦ λ is. let kept : list_any (same x) (firsts_after same [] xs) ≡ false = there ∙ is in rw kept refl
      ] refl

  -- A longer list keeps no fewer.
  pub firsts_fewer : (xs ys : List A) → length (firsts_after same [] xs) ≤ length (firsts_after same [] (xs ++ ys))
  firsts_fewer xs ys = rw (firsts-append [] xs ys) (rw (length-append (firsts_after same [] xs) (firsts_after same (xs ++ []) ys)) (omega arith))

  -- The first that passes a test of kinds is kept.
  pub find_firsts : (p : A → Bool) → ((x y : A) → kind x ≡ kind y → p x ≡ p y) → (seen xs : List A) → ((x : A) → IsIn seen x → p x ≡ false) → find p (firsts_after same seen xs) ≡ find p xs
  find_firsts p of_kind seen [] none = refl
  find_firsts p of_kind seen (x ∷ xs) none =
      elim (list_any (same x) seen) as (λ b. list_any (same x) seen ≡ b → find p (firsts_after same seen (x ∷ xs)) ≡ find p (x ∷ xs)) [
        | true ↦ λ is. let not_here : p x ≡ false = none x is in rw (is, not_here) (find_firsts p of_kind seen xs none)
        | false ↦ λ is. elim (p x) as (λ b. p x ≡ b → find p (firsts_after same seen (x ∷ xs)) ≡ find p (x ∷ xs)) [
          | true ↦ λ here. rw (is, here) refl
          | false ↦ λ not_here. rw (is, not_here) (find_firsts p of_kind (x ∷ seen) xs (λ y there.
              elim (same y x) as (λ b. same y x ≡ b → p y ≡ false) [
                | true ↦ λ like. of_kind y x (by.same_kind y x like) ∙ not_here
                | false ↦ λ other. none y (sym (ap (λ b. b || list_any (same y) seen) other) ∙ there)
              ] refl))
        ] refl
      ] refl

  -- Items that come of others, by kinds: those that come of the first of each kind are enough.
  module _ (more : A → List A) (alike : (x y z : A) → kind x ≡ kind y → list_any (same z) (more x) ≡ list_any (same z) (more y)) where
    abbrev Followed : List A → List A → Type 0
    Followed done seen = (x : A) → IsIn done x → AreIn seen (more x)

    in_front : (x : A) (xs seen : List A) → AreIn (more x ++ seen) (more x)
    in_front x xs seen = record { each = λ y is. list_any-append (same y) (more x) seen ∙ ap (λ b. b || list_any (same y) seen) is }

    followed_more : (x : A) (done seen : List A) → Followed done seen → Followed (x ∷ done) (more x ++ seen)
    followed_more x done seen followed y there =
        elim (same y x) as (λ b. same y x ≡ b → AreIn (more x ++ seen) (more y)) [
          | true ↦ λ is. record { each = λ z of. (in_front x [] seen).each z (sym (alike y x z (by.same_kind y x is)) ∙ of) }
          | false ↦ λ other. record {
            each = λ z of.
                let old : IsIn seen z = (followed y (sym (ap (λ b. b || list_any (same y) done) other) ∙ there)).each z of in
                list_any-append (same z) (more x) seen ∙ ap (λ b. list_any (same z) (more x) || b) old ∙ or_true (list_any (same z) (more x));
          }
        ] refl
      where
        or_true : (a : Bool) → (a || true) ≡ true
        or_true true = refl
        or_true false = refl

    followed_firsts : (done seen xs : List A) → Followed done seen → firsts_after same seen (flat_map more xs) ≡ firsts_after same seen (flat_map more (firsts_after same done xs))
    followed_firsts done seen [] followed = refl
    followed_firsts done seen (x ∷ xs) followed =
        elim (list_any (same x) done) as (λ b. list_any (same x) done ≡ b → firsts_after same seen (more x ++ flat_map more xs) ≡ firsts_after same seen (flat_map more (firsts_after same done (x ∷ xs)))) [
          | true ↦ λ is.
              let are = followed x is in
              rw is (firsts-append seen (more x) (flat_map more xs)
              ∙ ap (λ ys. ys ++ firsts_after same (more x ++ seen) (flat_map more xs)) (firsts_none seen (more x) are)
              ∙ firsts_alike (more x ++ seen) seen (flat_map more xs) (alike_more (more x) seen are)
              ∙ followed_firsts done seen xs followed)
          | false ↦ λ is.
              rw is (firsts-append seen (more x) (flat_map more xs)
              ∙ ap (λ ys. firsts_after same seen (more x) ++ ys) (followed_firsts (x ∷ done) (more x ++ seen) xs (followed_more x done seen followed))
              ∙ sym (firsts-append seen (more x) (flat_map more (firsts_after same (x ∷ done) xs))))
        ] refl

    pub firsts-flat_map : (xs : List A) → firsts_after same [] (flat_map more xs) ≡ firsts_after same [] (flat_map more (firsts_after same [] xs))
    firsts-flat_map xs = followed_firsts [] [] xs (λ x there. absurd (let no_one : false ≡ true = there in cc))
