-- A bit that is set in a row.
use Rattle.std.proofs.Common.{◌≡◌, ◌≢◌, sym, ap, refl, ℕ, ◌*◌, ◌/◌, ◌%◌, ◌^◌, ◌<◌, ◌⊎◌, inl, inr, List, length, true, false, nat_eq, ◌||◌, slice_set, slice_index_or, get_or, get_or-set_same, get_or-set_other, bit_or, w64, arith}
use Rattle.std.specs.Int.{bit_at}
use Rattle.std.proofs.lemmas.Nat.Bits.{bit_at_set_same, bit_at_set_other}
use Rattle.std.proofs.lemmas.Bool.Decides.{nat_tests}
use Rattle.bit_rows.specs.Rows.{has}

-- the word with the bit
abbrev pub with_bit : List ℕ → ℕ → ℕ
with_bit row number = bit_or (slice_index_or row (number / 64) 0) (1 * 2 ^ (number % 64) % 18446744073709551616)

abbrev pub put : List ℕ → ℕ → List ℕ
put row number = slice_set row (number / 64) (with_bit row number)

-- numbers with the same word and bit
same_place : (a b : ℕ) → a / 64 ≡ b / 64 → a % 64 ≡ b % 64 → a ≡ b
same_place a b word bit = omega (arith, word, bit)

pub put_has : (row : List ℕ) (number : ℕ) → number / 64 < length row → (other : ℕ) → has (put row number) other ≡ (nat_eq number other || has row other)
put_has row number within other = by_word (decide (number / 64) (other / 64))
  where
    decide : (a b : ℕ) → (a ≡ b) ⊎ (a ≢ b)
    decide a b = grind arith

    low : number % 64 < 64
    low = omega arith

    differ : number ≢ other → nat_eq number other ≡ false
    differ ne = grind (arith, nat_tests)

    by_bit : number / 64 ≡ other / 64 → (number % 64 ≡ other % 64) ⊎ (number % 64 ≢ other % 64) → has (put row number) other ≡ (nat_eq number other || has row other)
    by_bit word (inl bit) =
        let same : number ≡ other = same_place number other word bit in
        let yes : nat_eq number other ≡ true = grind (arith, nat_tests) in
        let here : get_or (put row number) (number / 64) 0 ≡ with_bit row number = get_or-set_same row (number / 64) (with_bit row number) 0 within in
        let set : bit_at (with_bit row number) (number % 64) ≡ 1 = bit_at_set_same w64 (slice_index_or row (number / 64) 0) (number % 64) low in
        rw (yes, ← word, ← bit, here, set) refl
    by_bit word (inr bit) =
        let ne : number ≢ other = λ e. bit (ap (λ n. n % 64) e) in
        let back : other % 64 ≢ number % 64 = λ e. bit (sym e) in
        let here : get_or (put row number) (number / 64) 0 ≡ with_bit row number = get_or-set_same row (number / 64) (with_bit row number) 0 within in
        let kept : bit_at (with_bit row number) (other % 64) ≡ bit_at (slice_index_or row (number / 64) 0) (other % 64) = bit_at_set_other w64 (slice_index_or row (number / 64) 0) (number % 64) low (other % 64) back in
        rw (differ ne, ← word, here, kept) refl

    by_word : (number / 64 ≡ other / 64) ⊎ (number / 64 ≢ other / 64) → has (put row number) other ≡ (nat_eq number other || has row other)
    by_word (inl word) = by_bit word (decide (number % 64) (other % 64))
    by_word (inr word) =
        let ne : number ≢ other = λ e. word (ap (λ n. n / 64) e) in
        let back : other / 64 ≢ number / 64 = λ e. word (sym e) in
        let kept : get_or (put row number) (other / 64) 0 ≡ get_or row (other / 64) 0 = get_or-set_other row (number / 64) (other / 64) (with_bit row number) 0 back in
        rw (differ ne, kept) refl
