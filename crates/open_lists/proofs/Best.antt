-- The list to take from, one more list at a time.
use Rattle.std.proofs.Common.{◌≡◌, ℕ, ◌+◌, ◌<◌, ◌≤◌, List, length, slice_get, Option, None, Some, sym, ap, ◌∙◌, subst, arith, inl, inr, IfNone, ◌≤ℤ◌, ◌<ℤ◌}
use Rattle.std.specs.Prelude.{ℤ}
use Rattle.std.proofs.lemmas.Bool.{cases_eq, cases_lt}
use Rattle.std.proofs.lemmas.Int.{ints}
use Rattle.std.proofs.lemmas.Option.{slice_get_past}
use Rattle.open_lists.specs.Lists.{TakesList, IsBestBefore, least_count_in, counter_in}
use Rattle.open_lists.specs.declared.list.OpenList.{OpenList}

int_refl : (x y : ℤ) → x ≡ y → x ≤ℤ y
int_refl x y e = omega (arith, ints)

module _ (keys : ℕ → ℕ) (counters : ℕ → ℤ) (i : ℕ) where
  -- a list with no entry changes nothing
  pub best_stays : (best : Option ℕ) → IsBestBefore keys counters i best → keys i ≡ 0 → IsBestBefore keys counters (i + 1) best
  best_stays None so_far z = λ m h. elim (cases_eq m i) [
    | inl e ↦ ap keys e ∙ z
    | inr ne ↦ so_far m (omega arith)
  ]
  best_stays (Some k) t z = record {
    exists = let h : k < i = t.exists in omega arith;
    filled = t.filled;
    least = λ m h f. elim (cases_eq m i) [
      | inl e ↦ let n : keys m ≡ 0 = ap keys e ∙ z in absurd (omega arith)
      | inr ne ↦ t.least m (omega arith) f
    ];
    lowest = t.lowest;
  }

  -- the first list with an entry
  pub best_first : ((m : ℕ) → m < i → keys m ≡ 0) → 0 < keys i → TakesList (i + 1) keys counters i
  best_first none filled = record {
    exists = omega arith;
    filled = filled;
    least = λ m h f. elim (cases_eq m i) [
      | inl e ↦ int_refl (counters i) (counters m) (ap counters (sym e))
      | inr ne ↦ let n : keys m ≡ 0 = none m (omega arith) in absurd (omega arith)
    ];
    lowest = λ m h f. let n : keys m ≡ 0 = none m h in absurd (omega arith);
  }

  -- a list with a smaller counter
  pub best_less : (k : ℕ) → TakesList i keys counters k → 0 < keys i → counters i <ℤ counters k → TakesList (i + 1) keys counters i
  best_less k t filled less = record {
    exists = omega arith;
    filled = filled;
    least = λ m h f. elim (cases_eq m i) [
      | inl e ↦ int_refl (counters i) (counters m) (ap counters (sym e))
      | inr ne ↦ let n : counters k ≤ℤ counters m = t.least m (omega arith) f in omega (arith, ints, less)
    ];
    lowest = λ m h f. let n : counters k ≤ℤ counters m = t.least m h f in omega (arith, ints, less);
  }

  -- a list with no smaller counter
  pub best_not_less : (k : ℕ) → TakesList i keys counters k → counters k ≤ℤ counters i → TakesList (i + 1) keys counters k
  best_not_less k t not_less = record {
    exists = let h : k < i = t.exists in omega arith;
    filled = t.filled;
    least = λ m h f. elim (cases_eq m i) [
      | inl e ↦ subst (λ n. counters k ≤ℤ counters n) (sym e) not_less
      | inr ne ↦ t.least m (omega arith) f
    ];
    lowest = t.lowest;
  }

pub none_in_all : (lists : List OpenList) (i : ℕ) (best : Option ℕ) → length lists ≤ i → IsBestBefore (λ m. least_count_in (slice_get lists m)) (λ m. counter_in (slice_get lists m)) i best → IfNone best ((k : ℕ) → least_count_in (slice_get lists k) ≡ 0)
none_in_all lists i None past so_far = λ k. elim (cases_lt k i) [
  | inl h ↦ so_far k h
  | inr h ↦ ap least_count_in (slice_get_past lists k (omega arith))
]
none_in_all lists i (Some k) past so_far = tt
