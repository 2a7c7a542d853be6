-- Laws of decimal texts.
use Rattle.std.proofs.Common.{◌≡◌, ℕ, ◌<◌, ◌^◌, List, [], ◌∷◌, length, Bool, true, false, Some, None, rules, refl, arith}
use Rattle.std.specs.Prelude.{decimal, nat_lt}
use Rattle.std.specs.Str.{all_ascii_digits}
use Rattle.std.proofs.lemmas.Bool.{lt-ltb, ltb-true}
use Rattle.std.proofs.lemmas.Str.Parse.{IsNumeralModel, numerals_by_weight}
use Rattle.std.proofs.lemmas.Fmt.{digits_decimal, digits_value-decimal, decimal_nonempty}
use Rattle.lama_num.specs.Decimals.{is_decimal, decimal_value, decimal_of}

-- digits and their value are the library's
pub decimal_numerals : IsNumeralModel (λ text. all_ascii_digits text ≡ true) decimal_value
decimal_numerals = numerals_by_weight _ (search rules) decimal_value (search rules)

is_decimal_digits : (text : List ℕ) → 0 < length text → all_ascii_digits text ≡ true → is_decimal text ≡ true
is_decimal_digits [] some digits = absurd (omega arith)
is_decimal_digits (c ∷ cs) some digits = digits

written : (text : List ℕ) (n : ℕ) → is_decimal text ≡ true → decimal_value text ≡ n → n < 2 ^ 64 → decimal_of text ≡ Some n
written text n digits value small = rw (digits, value, lt-ltb n (2 ^ 64) small)

-- what is written as a decimal is read back
pub decimal_of-decimal : (n : ℕ) → n < 2 ^ 64 → decimal_of (decimal n) ≡ Some n
decimal_of-decimal n small = written (decimal n) n (is_decimal_digits (decimal n) (decimal_nonempty n small) (digits_decimal decimal_numerals n small)) (digits_value-decimal decimal_numerals n small) small

-- what is read is the value of digits, and has 64 bits
pub record IsReadAs (text : List ℕ) (n : ℕ) : Type 0 where
  pub digits : is_decimal text ≡ true
  pub value : decimal_value text ≡ n
  pub small : n < 2 ^ 64

read_by : (text : List ℕ) (n : ℕ) (digits small : Bool) → is_decimal text ≡ digits → nat_lt (decimal_value text) (2 ^ 64) ≡ small → decimal_of text ≡ Some n → IsReadAs text n
read_by text n true true d s read = let value : decimal_value text ≡ n = (let k : Some (decimal_value text) ≡ Some n = rw (d, s) at read in cc) in record { digits = d; value = value; small = let t : decimal_value text < 2 ^ 64 = ltb-true _ _ s in omega arith }
read_by text n true false d s read = let k : None ≡ Some n = rw (d, s) at read in cc
read_by text n false small d s read = let k : None ≡ Some n = rw d at read in cc

pub decimal_of_some : (text : List ℕ) (n : ℕ) → decimal_of text ≡ Some n → IsReadAs text n
decimal_of_some text n read = read_by text n _ _ refl refl read
