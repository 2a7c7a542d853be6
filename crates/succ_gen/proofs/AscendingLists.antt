-- Ascending lists that have the same numbers are equal.
use Rattle.std.proofs.Common.{◌≡◌, ◌∙◌, refl, sym, ap, ℕ, zero, suc, ◌<◌, ◌⊎◌, inl, inr, List, [], ◌∷◌, length, get_or, true, eqb, arith}
use Rattle.std.specs.List.{Contains, dedup, range_with_len}
use Rattle.std.specs.List.Sorted.{IsStrictlySortedBy, IsPermutation, IsSorted}
use Rattle.std.specs.Ordering.{nat_cmp}
use Rattle.std.specs.declared.cmp.Ordering.TheVariants.{Less}
use Rattle.std.proofs.lemmas.Bool.Decides.{nat_tests}
use Rattle.std.proofs.lemmas.List.Elements.{All-from_recursion, All-contains, filter_passes}
use Rattle.std.proofs.lemmas.List.Kept.{IsStrictlyIncreasing-filter, Contains-dedup_nat, Contains-from_dedup}
use Rattle.std.proofs.lemmas.List.Sorted.{Contains-permutation, IsPermutation-sym}
use Rattle.std.proofs.lemmas.Map.Keys.{sorted_head, sorted_tail, sorted_from_strictly_increasing, IsStrictlyIncreasing-dedup}
use Rattle.sas_task.specs.declared.contents.Parts.{Parts}
use Rattle.sas_task.specs.States.{is_applicable}
use Rattle.sas_task.proofs.RunLaws.{applicable-within}
use Rattle.succ_gen.specs.Trees.{Stored, applicable, IsFound, IsFor}
use Rattle.succ_gen.specs.Walks.{AreFound}
use Rattle.succ_gen.proofs.TreeWalk.{contains_tail, has_filter, range_increasing}

cons_cases : (y z : ℕ) (ys : List ℕ) → Contains (y ∷ ys) z → (y ≡ z) ⊎ Contains ys z
cons_cases y z ys has = by has.0 has.1 has.2
  where
    by : (k : ℕ) → k < length (y ∷ ys) → get_or (y ∷ ys) k z ≡ z → (y ≡ z) ⊎ Contains ys z
    by zero lt is = inl is
    by (suc k) lt is = inr (k, omega arith, is)

nothing_in : (z : ℕ) → Contains [] z → ⊥
nothing_in z has = let lt : has.0 < 0 = has.1 in absurd (omega arith)

-- the head is below what stands behind it
head_below : (x z : ℕ) (xs : List ℕ) → IsStrictlySortedBy nat_cmp (x ∷ xs) → Contains xs z → x < z
head_below x z xs up has =
    let less : nat_cmp x z ≡ Less = All-contains (λ y. nat_cmp x y ≡ Less) xs z (All-from_recursion (λ y. nat_cmp x y ≡ Less) xs (sorted_head nat_cmp x xs up)) has in
    grind (arith, nat_tests, less)

same_sorted : (xs ys : List ℕ) → IsStrictlySortedBy nat_cmp xs → IsStrictlySortedBy nat_cmp ys → ((z : ℕ) → Contains xs z → Contains ys z) → ((z : ℕ) → Contains ys z → Contains xs z) → xs ≡ ys
same_sorted [] [] up more to from = refl
same_sorted [] (y ∷ ys) up more to from = absurd (nothing_in y (from y (zero, omega arith, refl)))
same_sorted (x ∷ xs) [] up more to from = absurd (nothing_in x (to x (zero, omega arith, refl)))
same_sorted (x ∷ xs) (y ∷ ys) up more to from =
    let there = cons_cases y x ys (to x (zero, omega arith, refl)) in
    let back = cons_cases x y xs (from y (zero, omega arith, refl)) in
    let same : x ≡ y = elim there [
      | inl e ↦ sym e
      | inr behind ↦ elim back [
        | inl e ↦ e
        | inr after ↦ (let low = head_below y x ys more behind in let high = head_below x y xs up after in absurd (omega arith))
      ]
    ] in
    let rest = same_sorted xs ys (sorted_tail nat_cmp x xs up) (sorted_tail nat_cmp y ys more)
    (λ z has. elim (cons_cases y z ys (to z (contains_tail x z xs has))) [
      | inl e ↦ (let low = head_below x z xs up has in absurd (omega arith))
      | inr behind ↦ behind
    ])
    (λ z has. elim (cons_cases x z xs (from z (contains_tail y z ys has))) [
      | inl e ↦ (let low = head_below y z ys more has in absurd (omega arith))
      | inr behind ↦ behind
    ]) in
    ap (λ k. k ∷ xs) same ∙ ap (λ zs. y ∷ zs) rest

-- the operators that were found, sorted and each once, are the applicable ones
pub applicable_from : (tree : Stored) (parts : Parts) (state found sorted out : List ℕ) → IsFor tree parts → AreFound tree.nodes tree.operators state found → IsPermutation found sorted → IsSorted nat_cmp sorted → out ≡ dedup eqb sorted → out ≡ applicable parts state
applicable_from tree parts state found sorted out is are moved up once =
    let p = is_applicable parts state in
    let n = length parts.operators in
    once ∙ same_sorted (dedup eqb sorted) (applicable parts state) (sorted_from_strictly_increasing (dedup eqb sorted) (IsStrictlyIncreasing-dedup sorted up)) (sorted_from_strictly_increasing (applicable parts state) (IsStrictlyIncreasing-filter p (range_with_len 0 n) (range_increasing 0 n)))
    (λ op has.
    let in_found = Contains-permutation sorted found op (IsPermutation-sym found sorted moved) (Contains-from_dedup eqb sorted op has) in
    let passes = is.only state op (All-contains (IsFound tree.nodes tree.operators state) found op are.only in_found) in
    let lt = applicable-within parts state op passes in
    has_filter p 0 n op (omega arith) (omega arith) passes)
    (λ op has.
    let passes : p op ≡ true = All-contains (λ o. p o ≡ true) (applicable parts state) op (filter_passes p (range_with_len 0 n)) has in
    Contains-dedup_nat sorted op (Contains-permutation found sorted op moved (are.all op (is.found state op passes))))
