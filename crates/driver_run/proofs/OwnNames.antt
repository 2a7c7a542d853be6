-- What names a run's own files have.
use Rattle.std.proofs.Common.{◌≡◌, ◌≢◌, sym, ap, refl, ◌∙◌, ℕ, ◌≤◌, List, [], ◌∷◌, ◌++◌, length, take, drop, map, slice_get, append_assoc, Bool, true, false, ◌&&◌, ◌||◌, nat_le, Some, Result, Ok, Err, arith}
use Rattle.std.specs.Prelude.{codes, decimal}
use Rattle.std.proofs.lemmas.Slice.Eq.{bytes_eq-Decides}
use Rattle.std.proofs.lemmas.Bool.Decides.{nat_tests}
use Rattle.std.proofs.lemmas.List.{append-nil}
use Rattle.std.proofs.Math.Seq.{take-append_seam, drop-append_seam}
use Rattle.lama_num.proofs.DecimalLaws.{decimal_of-decimal}
use Rattle.lama_num.specs.Names.{numbered_name, part_name}
use Rattle.driver_run.specs.Words.{is_plan_number, is_own_ending, is_own_name}

both_true : (a b : Bool) → a ≡ true → b ≡ true → (a && b) ≡ true
both_true true b e f = f
both_true false b e f = e

-- a name of the run's own
own_by : (base name ending : List ℕ) → name ≡ base ++ ending → is_own_ending ending ≡ true → is_own_name base name ≡ true
own_by base name ending is own =
    let front : take (length base) name ≡ base = ap (take (length base)) is ∙ take-append_seam base ending in
    let rest : drop (length base) name ≡ ending = ap (drop (length base)) is ∙ drop-append_seam base ending in
    rw (front, rest) (both_true _ _ ((bytes_eq-Decides base base).1 refl) own)

plan_number : (n : ℕ) → 1 ≤ n → n ≤ 9999 → is_plan_number (decimal n) ≡ true
plan_number n low high =
    let least : nat_le 1 n ≡ true = grind (arith, nat_tests) in
    let most : nat_le n 9999 ≡ true = grind (arith, nat_tests) in
    rw (decimal_of-decimal n (omega arith)) (both_true _ _ least (both_true _ _ most ((bytes_eq-Decides (decimal n) (decimal n)).1 refl)))

or_first : (a b c : Bool) → b ≡ true → (a || (b || c)) ≡ true
or_first true b c e = refl
or_first false true c e = refl
or_first false false c e = let k : false ≡ true = e in cc

pub own_base : (base : List ℕ) → is_own_name base base ≡ true
own_base base = own_by base base [] (sym (append-nil base)) refl

pub own_part : (base : List ℕ) → is_own_name base (part_name base) ≡ true
own_part base = own_by base (part_name base) (codes ".part") refl refl

pub own_number : (base : List ℕ) (n : ℕ) → 1 ≤ n → n ≤ 9999 → is_own_name base (numbered_name base n) ≡ true
own_number base n low high = own_by base (numbered_name base n) (46 ∷ decimal n) (append_assoc base (codes ".") (decimal n)) (or_first _ _ _ (plan_number n low high))
