-- What is kept of a queue, after a number more or less.
use Rattle.std.proofs.Common.{◌≡◌, ◌≢◌, ◌∙◌, sym, ap, refl, min, max, ℕ, zero, suc, ◌+◌, ◌<◌, ◌≤◌, ◌⊎◌, inl, inr, List, [], ◌∷◌, length, true, false, nat_eq, arith, Option, Some, None, slice_get, slice_set, get_or, replicate, drop, if◌then◌else◌, Result, Ok, Err}
use Rattle.std.proofs.lemmas.Bool.{cases_lt}
use Rattle.std.proofs.lemmas.Bool.Decides.{nat_tests}
use Rattle.std.proofs.lemmas.Grind.{get_or-set_at}
use Rattle.std.proofs.lemmas.List.{length-set, get_or-replicate, get_or_default, get_or-set_other, get_or_past, length-replicate}
use Rattle.std.proofs.lemmas.Option.{get_or_from_slice_get}
use Rattle.std.proofs.lemmas.List.Sorted.{sum_by_popped, sum_by_pushed}
use Rattle.std.proofs.lemmas.List.Sums.{count_by-le-length, get_or-le-sum_by, sum_by-cons, sum_by-set}
use Rattle.std.specs.BinaryHeap.{IsHeap, IsUpperBound}
use Rattle.std.specs.List.{count_by}
use Rattle.std.specs.List.Sorted.{IsPermutation}
use Rattle.std.specs.Option.{IfSome, OnSome, IfNone}
use Rattle.std.specs.Result.{IsOk, OnOk}
use Rattle.std.specs.Ordering.{is_lt}
use Rattle.cost_queue.specs.Queues.{price_of, IsTaken}
use Rattle.cost_queue.proofs.WaitingLaws.{there}
use Rattle.cost_queue.specs.Links.{is_price, waits, IsChain, Item, order, one_of, times, is_high, IsQueue}
use Rattle.cost_queue.specs.Occurrences.{one_if, occurrences}
use Rattle.cost_queue.specs.declared.entry.Entry.{Entry}

-- the same number, or another
places : (m n : ℕ) → ((m ≡ n) × (nat_eq m n ≡ true)) ⊎ ((m ≢ n) × (nat_eq m n ≡ false))
places m n = grind (arith, nat_tests)

none_at : (n i : ℕ) → get_or (replicate {A = Option ℕ} n None) i None ≡ None
none_at n i = elim (cases_lt i n) [ inl lt ↦ get_or-replicate n i None None lt | inr le ↦ get_or_past (replicate n None) i None (rw length-replicate le) ]

-- what one number's price changes
waits_set : (waiting : List (Option ℕ)) (n m q : ℕ) (x : Option ℕ) → n < length waiting → waits (slice_set waiting n x) m q + one_of n (price_of waiting n) m q ≡ waits waiting m q + one_of n x m q
waits_set waiting n m q x lt = elim (places m n) [
  | inl same ↦ (let e = get_or-set_at waiting n m x None same.0 lt in let here = ap (λ (k : ℕ). waits waiting k q) same.0 in rw (e, same.1) (omega arith))
  | inr other ↦ rw (get_or-set_other waiting n m x None other.0, other.1) refl
]

waited : (waiting : List (Option ℕ)) (number price : ℕ) → 0 < waits waiting number price → price_of waiting number ≡ Some price
waited waiting number price some = by_price (price_of waiting number) some
  where
    by_price : (o : Option ℕ) → 0 < one_if (is_price o price) → o ≡ Some price
    by_price None some = absurd (omega arith)
    by_price (Some other) some = grind (arith, nat_tests, some)

waits_once : (waiting : List (Option ℕ)) (number price : ℕ) → price_of waiting number ≡ Some price → waits waiting number price ≡ 1
waits_once waiting number price at = rw at (grind (arith, nat_tests))

abbrev one_high : Option ℕ → ℕ
one_high o = if is_high o then 1 else 0

high_set : (waiting : List (Option ℕ)) (n : ℕ) (x : Option ℕ) → n < length waiting → count_by is_high (slice_set waiting n x) + one_high (price_of waiting n) ≡ count_by is_high waiting + one_high x
high_set waiting n x lt = sum_by-set one_high waiting n x None lt

-- a link of a number that isn't in a chain
chain_kept : (next : List (Option ℕ)) (number : ℕ) (x head : Option ℕ) (numbers : List ℕ) → occurrences number numbers ≡ 0 → IsChain next head numbers → IsChain (slice_set next number x) head numbers
chain_kept next number x head [] none is = is
chain_kept next number x head (y ∷ numbers) none is =
    let other : y ≢ number = grind (arith, nat_tests, none) in
    (is.0, rw (get_or-set_other next number y x None other) (chain_kept next number x (get_or next y None) numbers (omega arith) is.1))

empty_chain : (next : List (Option ℕ)) (head : Option ℕ) (numbers : List ℕ) (number : ℕ) → head ≡ None → IsChain next head numbers → occurrences number numbers ≡ 0
empty_chain next head [] number none is = refl
empty_chain next head (y ∷ numbers) number none is = absurd cc

-- a chain from a number on
first_of : (next : List (Option ℕ)) (head : Option ℕ) (numbers : List ℕ) (number : ℕ) → head ≡ Some number → IsChain next head numbers → (numbers ≡ number ∷ drop 1 numbers) × IsChain next (get_or next number None) (drop 1 numbers)
first_of next head [] number at is = absurd cc
first_of next head (y ∷ numbers) number at is =
    let same : y ≡ number = cc in
    (ap (λ (n : ℕ). n ∷ numbers) same, rw same at is.1)

-- the first of the heap has the least price
not_less : (x y : Item) → is_lt (order x y) ≡ false → x.0.0 ≤ y.0.0
not_less x y h = grind (arith, nat_tests, h)

bounded : (x : Item) (heap : List Item) (number price : ℕ) → IsUpperBound order x heap → 0 < times number price heap → x.0.0 ≤ price
bounded x [] number price bound some = absurd (omega arith)
bounded x (y ∷ heap) number price bound some =
    let sum = sum_by-cons (λ x. one_of x.0.1 (Some x.0.0) number price) y heap in
    let le = not_less x y bound.0 in
    let rest = bounded x heap number price bound.1 in
    grind (arith, nat_tests, sum, le, rest, some)

module _ {next heads : List (Option ℕ)} {start end : ℕ} {heap : List Item} {len capacity : ℕ} {waiting : List (Option ℕ)} {chain : ℕ → List ℕ} (q : IsQueue next heads start end heap len capacity waiting chain) where
  no_occurrence : (number price : ℕ) → price_of waiting number ≡ None → occurrences number (chain price) ≡ 0
  no_occurrence number price none = let one : waits waiting number price ≡ 0 = rw none refl in let all = q.those number price in omega arith

  pub pushed_low : {number price start' end' : ℕ} {head x : Option ℕ} → number < length waiting → price_of waiting number ≡ None → price < 16384 → head ≡ get_or heads price head → x ≡ Some number → start' ≡ min start price → end' ≡ max end (price + 1) →
      IsQueue (slice_set next number head) (slice_set heads price x) start' end' heap len capacity (slice_set waiting number (Some price)) (λ p. if nat_eq p price then number ∷ chain p else chain p)
  pushed_low {number} {price} {start'} {end'} {head} {x} lt none low at is starts ends = rw (is, at, get_or_default heads price head None (rw q.heads_long low)) (record {
    few = rw length-set q.few;
    next_long = simp length-set q.next_long;
    heads_long = rw length-set q.heads_long;
    end_within = omega (arith, q.end_within);
    idle = λ p empty. elim (places p price) [
      | inl same ↦ empty (omega (arith, same.0)) (omega (arith, same.0))
      | inr other ↦ (let e = get_or-set_other heads price p (Some number) None other.0 in e ∙ q.idle p (λ a b. sym e ∙ empty (omega arith) (omega arith)))
    ];
    chains = λ p. elim (places p price) [
      | inl same ↦ rw (same.1, get_or-set_at heads price p (Some number) None same.0 (rw q.heads_long low), get_or-set_at next number number (get_or heads price None) None refl (rw (← q.next_long) lt), ← same.0)
          (refl, chain_kept next number _ _ (chain p) (no_occurrence number p none) (q.chains p))
      | inr other ↦ rw (other.1, get_or-set_other heads price p (Some number) None other.0) (chain_kept next number _ _ (chain p) (no_occurrence number p none) (q.chains p))
    ];
    those = λ m p. (let set = rw none at (waits_set waiting number m p (Some price) lt) in let one = q.those m p in elim (places p price) [
      | inl same ↦ rw same.1 (grind (arith, nat_tests, set, one, same.0))
      | inr other ↦ rw other.1 (grind (arith, nat_tests, set, one, other.0))
    ]);
    high = q.high;
    ordered = q.ordered;
    count = (let set = rw none at (high_set waiting number (Some price) lt) in grind (arith, nat_tests, set, q.count));
    room = rw length-set q.room;
  })

  pub has_room : (number : ℕ) → number < length waiting → price_of waiting number ≡ None → len < capacity
  has_room number lt none =
      let set = rw none at (high_set waiting number (Some 16384) lt) in
      let few = count_by-le-length is_high (slice_set waiting number (Some 16384)) in
      omega (arith, set, few, length-set {A = Option ℕ}, q.count, q.room, q.next_long)

  pub pushed_high : {T E : Type 0} (result : Result T E) {new : List Item} {x : Item} {now room : ℕ} → x.0.1 < length waiting → price_of waiting x.0.1 ≡ None → 16384 ≤ x.0.0 → (len < capacity → IsOk result) → OnOk result (now ≡ len + 1) → capacity ≤ room →
      OnOk result (IsPermutation (x ∷ heap) new) → OnOk result (IsHeap order heap → IsHeap order new) → IsQueue next heads start end new now room (slice_set waiting x.0.1 (Some x.0.0)) chain
  pushed_high (Err e) {x = x} lt none high succeeds grows wider permuted ordered = let k = succeeds (has_room x.0.1 lt none) in absurd cc
  pushed_high (Ok v) {new} {x} lt none high succeeds grows wider permuted ordered = record {
    few = q.few;
    next_long = rw length-set q.next_long;
    heads_long = q.heads_long;
    end_within = q.end_within;
    idle = q.idle;
    chains = q.chains;
    those = λ m p. (let set = rw none at (waits_set waiting x.0.1 m p (Some x.0.0) lt) in let grown = sum_by_pushed (λ x. one_of x.0.1 (Some x.0.0) m p) x heap new permuted in let one = q.those m p in grind (arith, nat_tests, set, grown, one));
    high = λ m p low. (let grown = sum_by_pushed (λ x. one_of x.0.1 (Some x.0.0) m p) x heap new permuted in grind (arith, nat_tests, grown, q.high m p low));
    ordered = ordered q.ordered;
    count = (let set = rw none at (high_set waiting x.0.1 (Some x.0.0) lt) in grind (arith, nat_tests, set, q.count));
    room = omega (arith, q.room);
  }

  waits_low : (number price : ℕ) → get_or heads price None ≡ None → price_of waiting number ≡ Some price → 0 < times number price heap
  waits_low number price none at =
      let zero = empty_chain next (get_or heads price None) (chain price) number none (q.chains price) in
      omega (arith, zero, q.those number price, waits_once waiting number price at)

  -- all wait under high prices where no chain has any
  pub all_high : ((p : ℕ) → start ≤ p → p < end → get_or heads p None ≡ None) → (number price : ℕ) → price_of waiting number ≡ Some price → 16384 ≤ price
  all_high empty number price at = let some = waits_low number price (q.idle price (empty price)) at in let none = q.high number price in grind arith

  module _ {entry : Entry} (first : (entry.price < end) × (slice_get heads entry.price ≡ Some (Some entry.number))) (empty : (p : ℕ) → start ≤ p → p < entry.price → get_or heads p None ≡ None) where
    none_below : (p : ℕ) → p < entry.price → get_or heads p None ≡ None
    none_below p lt = q.idle p (λ a b. empty p a lt)

    at : get_or heads entry.price None ≡ Some entry.number
    at = get_or_from_slice_get heads entry.price (Some entry.number) None first.1

    parts : (chain entry.price ≡ entry.number ∷ drop 1 (chain entry.price)) × IsChain next (get_or next entry.number None) (drop 1 (chain entry.price))
    parts = first_of next (get_or heads entry.price None) (chain entry.price) entry.number at (q.chains entry.price)

    shorter : (m : ℕ) → occurrences m (chain entry.price) ≡ one_if (nat_eq m entry.number) + occurrences m (drop 1 (chain entry.price))
    shorter m = ap (occurrences m) parts.0

    first_waits : price_of waiting entry.number ≡ Some entry.price
    first_waits = waited waiting entry.number entry.price (grind (arith, nat_tests, shorter entry.number, q.those entry.number entry.price))

    pub first_within : entry.number < length next
    first_within = let lt = there waiting entry.number entry.price first_waits in omega (arith, q.next_long)

    pub taken_low : IsTaken waiting (slice_set waiting entry.number None) entry
    taken_low = record {
      waited = first_waits;
      rest = refl;
      least = λ number price at. (let some = waits_low number price in let none = none_below price in grind (arith, some, none, at, q.high number price, q.end_within, first.0));
    }

    pub popped_low : {after : Option ℕ} → after ≡ get_or next entry.number after → IsQueue next (slice_set heads entry.price after) entry.price end heap len capacity (slice_set waiting entry.number None) (λ p. if nat_eq p entry.price then drop 1 (chain entry.price) else chain p)
    popped_low {after} after_is =
        let lt = there waiting entry.number entry.price first_waits in
        rw (after_is, get_or_default next entry.number after None first_within) (record {
          few = q.few;
          next_long = rw length-set q.next_long;
          heads_long = rw length-set q.heads_long;
          end_within = q.end_within;
          idle = λ p none. elim (places p entry.price) [
            | inl same ↦ none (omega (arith, same.0)) (omega (arith, same.0, first.0))
            | inr other ↦ (let e = get_or-set_other heads entry.price p (get_or next entry.number None) None other.0 in e ∙ q.idle p (λ a b. elim (cases_lt p entry.price) [ inl lt ↦ none_below p lt | inr le ↦ sym e ∙ none le b ]))
          ];
          chains = λ p. elim (places p entry.price) [
            | inl same ↦ rw (same.1, get_or-set_at heads entry.price p (get_or next entry.number None) None same.0 (omega (arith, q.heads_long, q.end_within, first.0))) parts.1
            | inr other ↦ rw (other.1, get_or-set_other heads entry.price p (get_or next entry.number None) None other.0) (q.chains p)
          ];
          those = λ m p. (let set = rw first_waits at (waits_set waiting entry.number m p None lt) in let one = q.those m p in let less = shorter m in elim (places p entry.price) [
            | inl same ↦ rw same.1 (grind (arith, nat_tests, set, one, less, same.0))
            | inr other ↦ rw other.1 (grind (arith, nat_tests, set, one, other.0))
          ]);
          high = q.high;
          ordered = q.ordered;
          count = (let set = rw first_waits at (high_set waiting entry.number None lt) in grind (arith, nat_tests, set, q.count, first.0, q.end_within));
          room = q.room;
        })

  module _ {new : List Item} {x : Item} (permuted : IsPermutation heap (x ∷ new)) where
    popped_waits : (16384 ≤ x.0.0) × (price_of waiting x.0.1 ≡ Some x.0.0)
    popped_waits =
        let less = sum_by_popped (λ y. one_of y.0.1 (Some y.0.0) x.0.1 x.0.0) x heap new permuted in
        let those = q.those x.0.1 x.0.0 in
        let high = q.high x.0.1 x.0.0 in
        (grind (arith, nat_tests), waited waiting x.0.1 x.0.0 (grind (arith, nat_tests)))

    popped_high : {now room : ℕ} → now + 1 ≡ len → room ≡ capacity → IsHeap order new → IsQueue next heads start end new now room (slice_set waiting x.0.1 None) chain
    popped_high fewer same ordered =
        let lt = there waiting x.0.1 x.0.0 popped_waits.1 in
        record {
          few = q.few;
          next_long = rw length-set q.next_long;
          heads_long = q.heads_long;
          end_within = q.end_within;
          idle = q.idle;
          chains = q.chains;
          those = λ m p. (let set = rw popped_waits.1 at (waits_set waiting x.0.1 m p None lt) in let less = sum_by_popped (λ y. one_of y.0.1 (Some y.0.0) m p) x heap new permuted in let one = q.those m p in grind (arith, nat_tests, set, less, one));
          high = λ m p low. (let less = sum_by_popped (λ y. one_of y.0.1 (Some y.0.0) m p) x heap new permuted in grind (arith, nat_tests, less, q.high m p low));
          ordered = ordered;
          count = (let set = rw popped_waits.1 at (high_set waiting x.0.1 None lt) in grind (arith, nat_tests, set, q.count, popped_waits.0));
          room = omega (arith, q.room);
        }

    pub taken_high : IsUpperBound order x heap → ((number price : ℕ) → price_of waiting number ≡ Some price → 16384 ≤ price) → IsTaken waiting (slice_set waiting x.0.1 None) (record { price = x.0.0; number = x.0.1 })
    taken_high bound high = record {
      waited = popped_waits.1;
      rest = refl;
      least = λ number price at. bounded x heap number price bound (waits_low number price (get_or_past heads price None (omega (arith, q.heads_long, high number price at))) at);
    }

  abbrev pub left : Option Item → List (Option ℕ)
  left None = waiting
  left (Some x) = slice_set waiting x.0.1 None

  pub popped : (result : Option Item) {new : List Item} {now room : ℕ} → OnSome result (now + 1 ≡ len) → room ≡ capacity → IfSome result (λ x. IsPermutation heap (x ∷ new)) → IfSome result (λ x. IsHeap order heap → IsHeap order new × IsUpperBound order x heap) → IfNone result ((new ≡ heap) × (now ≡ len)) → IsQueue next heads start end new now room (left result) chain
  popped None fewer same permuted heaped kept = rw (kept.0, kept.1, same) q
  popped (Some x) fewer same permuted heaped kept = popped_high permuted fewer same (heaped q.ordered).0

  -- none waits where the heap has none
  pub none_left : len ≡ 0 → ((number price : ℕ) → price_of waiting number ≡ Some price → 16384 ≤ price) → (number : ℕ) → price_of waiting number ≡ None
  none_left none high number = by_price (price_of waiting number) refl
    where
      by_price : (o : Option ℕ) → price_of waiting number ≡ o → o ≡ None
      by_price None at = refl
      by_price (Some price) at =
          let some = rw at at (get_or-le-sum_by one_high waiting number None (there waiting number price at)) in
          absurd (grind (arith, nat_tests, some, q.count, none, high number price at))

-- at first no number waits
none_high : (n : ℕ) → count_by is_high (replicate n None) ≡ 0
none_high zero = refl
none_high (suc n) = none_high n

pub none_waiting : {next heads : List (Option ℕ)} {x y : Option ℕ} {heap : List Item} {len capacity n : ℕ} → n ≤ 4294967295 → x ≡ None → y ≡ None → next ≡ replicate n x → heads ≡ replicate 16384 y → heap ≡ [] → len ≡ 0 → n ≤ capacity → IsHeap order heap → IsQueue next heads 16384 0 heap len capacity (replicate n None) (λ _. [])
none_waiting {heads = heads} {n = n} few x_is y_is next_is heads_is heap_is len_is fits ordered =
    let heads_none : heads ≡ replicate 16384 None = heads_is ∙ ap (replicate 16384) y_is in
    let no_head : (price : ℕ) → get_or heads price None ≡ None = λ price. rw heads_none (none_at 16384 price) in
    record {
      few = rw (next_is, x_is, length-replicate) few;
      next_long = rw (next_is, x_is) refl;
      heads_long = rw (heads_none, length-replicate) refl;
      end_within = omega arith;
      idle = λ p _. no_head p;
      chains = no_head;
      those = λ m p. rw (heap_is, none_at n m) refl;
      high = λ m p low. rw heap_is refl;
      ordered = ordered;
      count = len_is ∙ sym (none_high n);
      room = rw (next_is, x_is, length-replicate) fits;
    }
