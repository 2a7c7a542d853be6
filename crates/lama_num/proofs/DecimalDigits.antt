-- Reading a decimal text digit by digit.
use Rattle.std.proofs.Common.{◌≡◌, ℕ, ◌+◌, ◌-◌, ◌*◌, ◌^◌, ◌<◌, ◌≤◌, List, [], ◌∷◌, length, drop, get_or, true, false, ◌&&◌, Option, Some, None, refl, ap, sym, ◌∙◌, arith}
use Rattle.std.proofs.Math.Nat.{pow-suc, one-le-pow, mul-le-mul_left}
use Rattle.std.specs.Prelude.{nat_lt, if◌then◌else◌}
use Rattle.std.specs.Str.{all_ascii_digits}
use Rattle.std.specs.Char.{is_ascii_digit}
use Rattle.std.proofs.lemmas.Bool.{lt-ltb, le-ltb, and_right, cond-false}
use Rattle.std.proofs.lemmas.List.{drop_more, drop_all}
use Rattle.lama_num.specs.Decimals.{decimal_value, decimal_of}

-- what digits of value n write with the digits of a text behind them
abbrev pub value_on : ℕ → List ℕ → ℕ
value_on n text = n * 10 ^ length text + decimal_value text

-- the same, if the text is digits and the value has 64 bits
abbrev pub decimal_on : ℕ → List ℕ → Option ℕ
decimal_on n text = if all_ascii_digits text && nat_lt (value_on n text) (2 ^ 64) then Some (value_on n text) else None

value_on_step : (n c : ℕ) (cs : List ℕ) → value_on n (c ∷ cs) ≡ value_on (n * 10 + (c - 48)) cs
value_on_step n c cs = rw (pow-suc 10 (length cs)) (omega arith)

-- one digit more
pub decimal_on_digit : (n c : ℕ) (cs : List ℕ) → is_ascii_digit c ≡ true → decimal_on n (c ∷ cs) ≡ decimal_on (n * 10 + (c - 48)) cs
decimal_on_digit n c cs digit = rw (digit, value_on_step n c cs)

pub decimal_on_other : (n c : ℕ) (cs : List ℕ) → is_ascii_digit c ≡ false → decimal_on n (c ∷ cs) ≡ None
decimal_on_other n c cs other = rw other

value_on_le : (n : ℕ) (text : List ℕ) → n ≤ value_on n text
value_on_le n text = omega (arith, mul-le-mul_left n (one-le-pow (length text) 10 (omega arith)))

-- what is too large stays too large
pub decimal_on_large : (n : ℕ) (text : List ℕ) → 2 ^ 64 ≤ n → decimal_on n text ≡ None
decimal_on_large n text large = let fails : nat_lt (value_on n text) (2 ^ 64) ≡ false = le-ltb (value_on n text) (2 ^ 64) (omega (arith, value_on_le n text)) in cond-false _ _ _ (and_right (all_ascii_digits text) _ fails)

pub decimal_on_end : (n : ℕ) → n < 2 ^ 64 → decimal_on n [] ≡ Some n
decimal_on_end n small = let same : value_on n [] ≡ n = omega arith in rw (same, lt-ltb n (2 ^ 64) small)

pub decimal_on_none : (text : List ℕ) → 0 < length text → decimal_on 0 text ≡ decimal_of text
decimal_on_none [] some = absurd (omega arith)
decimal_on_none (c ∷ cs) some = let same : value_on 0 (c ∷ cs) ≡ decimal_value (c ∷ cs) = omega arith in rw same

-- the steps of a loop over a text
pub loop_digit : (text : List ℕ) (i n m : ℕ) → i < length text → is_ascii_digit (get_or text i 0) ≡ true → m ≡ n * 10 + (get_or text i 0 - 48) → decimal_on n (drop i text) ≡ decimal_on 0 text → decimal_on m (drop (i + 1) text) ≡ decimal_on 0 text
loop_digit text i n m lt digit next so_far = ap (λ k. decimal_on k (drop (i + 1) text)) next ∙ sym (decimal_on_digit n (get_or text i 0) (drop (i + 1) text) digit) ∙ ap (decimal_on n) (sym (drop_more text i 0 lt)) ∙ so_far

pub loop_other : (text : List ℕ) (i n : ℕ) → i < length text → is_ascii_digit (get_or text i 0) ≡ false → decimal_on n (drop i text) ≡ decimal_on 0 text → None ≡ decimal_of text
loop_other text i n lt other so_far = sym (decimal_on_other n (get_or text i 0) (drop (i + 1) text) other) ∙ ap (decimal_on n) (sym (drop_more text i 0 lt)) ∙ so_far ∙ decimal_on_none text (omega arith)

pub loop_large : (text : List ℕ) (i n : ℕ) → i < length text → is_ascii_digit (get_or text i 0) ≡ true → 2 ^ 64 ≤ n * 10 + (get_or text i 0 - 48) → decimal_on n (drop i text) ≡ decimal_on 0 text → None ≡ decimal_of text
loop_large text i n lt digit large so_far = sym (decimal_on_large (n * 10 + (get_or text i 0 - 48)) (drop (i + 1) text) large) ∙ loop_digit text i n _ lt digit refl so_far ∙ decimal_on_none text (omega arith)

pub loop_end : (text : List ℕ) (i n : ℕ) → length text ≤ i → 0 < length text → n < 2 ^ 64 → decimal_on n (drop i text) ≡ decimal_on 0 text → Some n ≡ decimal_of text
loop_end text i n past some small so_far = sym (decimal_on_end n small) ∙ ap (decimal_on n) (sym (drop_all i text past)) ∙ so_far ∙ decimal_on_none text some
