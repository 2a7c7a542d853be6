-- Laws of lists of operators.
use Rattle.std.proofs.Common.{◌≡◌, ◌∙◌, sym, ap, refl, ℕ, List, [], ◌∷◌, Bool, true, false, cond, nat_eq, ◌&&◌, filter, arith, inl, inr}
use Rattle.std.proofs.lemmas.Bool.{cases_Bool, or_right, eqb-true}
use Rattle.guide.specs.Operators.{is_among}

-- nothing is among no operators
none_among : (ops : List ℕ) → filter (is_among []) ops ≡ []
none_among [] = refl
none_among (op ∷ ops) = none_among ops

pub none_preferred : (preferred ops : List ℕ) → preferred ≡ [] → preferred ≡ filter (is_among preferred) ops
none_preferred preferred ops is = is ∙ (sym (none_among ops) ∙ ap (λ (ps : List ℕ). filter (is_among ps) ops) (sym is))

-- who is among what a test keeps is among all and passes the test
among_kept : (p : ℕ → Bool) (ops : List ℕ) (op : ℕ) → is_among (filter p ops) op ≡ (is_among ops op && p op)
among_kept p [] op = refl
among_kept p (x ∷ ops) op =
    elim (cases_Bool (nat_eq op x)) [
      | inl same ↦ elim (cases_Bool (p x)) [
        | inl passes ↦ rw (passes, same) (sym passes ∙ ap p (sym (eqb-true op x same)))
        | inr fails ↦
            let not_p : p op ≡ false = ap p (eqb-true op x same) ∙ fails in
            rw (fails, same) (among_kept p ops op ∙ ap (λ b. is_among ops op && b) not_p ∙ and_false (is_among ops op) ∙ sym not_p)
      ]
      | inr other ↦ elim (cases_Bool (p x)) [
        | inl passes ↦ rw (passes, other) (among_kept p ops op)
        | inr fails ↦ rw (fails, other) (among_kept p ops op)
      ]
    ]
  where
    and_false : (b : Bool) → (b && false) ≡ false
    and_false true = refl
    and_false false = refl

-- two tests that agree on the elements of a list keep the same
same_kept : (p q : ℕ → Bool) (ops : List ℕ) → ((op : ℕ) → is_among ops op ≡ true → p op ≡ q op) → filter p ops ≡ filter q ops
same_kept p q [] agree = refl
same_kept p q (x ∷ ops) agree =
    ap (λ b. cond b (x ∷ filter p ops) (filter p ops)) (agree x (grind arith))
    ∙ ap (λ (os : List ℕ). cond (q x) (x ∷ os) os) (same_kept p q ops (λ op there. agree op (or_right (nat_eq op x) (is_among ops op) there)))

-- What a test keeps of a list is what of the list is among what it keeps.
pub kept_among : (p : ℕ → Bool) (ops kept : List ℕ) → kept ≡ filter p ops → kept ≡ filter (is_among kept) ops
kept_among p ops kept is =
    is
    ∙ same_kept p (is_among (filter p ops)) ops (λ op there. sym (among_kept p ops op ∙ ap (λ b. b && p op) there))
    ∙ ap (λ (ks : List ℕ). filter (is_among ks) ops) (sym is)
