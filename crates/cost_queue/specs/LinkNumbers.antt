-- A number or none as one number.
use Rattle.std.specs.Prelude.{◌≡◌, refl, ℕ, Bool, true, false, nat_eq, Option, Some, None, if◌then◌else◌}
use Rattle.std.proofs.Common.{sym, arith}
use Rattle.std.proofs.lemmas.Bool.Decides.{nat_tests}

abbrev pub linked : ℕ → Option ℕ
linked raw = if nat_eq raw 4294967295 then None else Some raw

abbrev pub link_number : Option ℕ → ℕ
link_number None = 4294967295
link_number (Some number) = number

pub linked_back : (raw : ℕ) → link_number (linked raw) ≡ raw
linked_back raw = by_test (nat_eq raw 4294967295) refl
  where
    by_test : (b : Bool) → nat_eq raw 4294967295 ≡ b → link_number (if b then None else Some raw) ≡ raw
    by_test true is = let same : raw ≡ 4294967295 = grind (arith, nat_tests, is) in sym same
    by_test false is = refl
