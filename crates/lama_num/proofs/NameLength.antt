-- How long a name becomes.
use Rattle.std.proofs.Common.{ℕ, ◌≤◌, ◌+◌, List, ◌++◌, length, length-append, arith}
use Rattle.std.specs.Prelude.{decimal}
use Rattle.std.proofs.lemmas.Fmt.{length-decimal-le}

pub length_with_number : (a b : List ℕ) (n : ℕ) → n ≤ 9999 → length (a ++ b ++ decimal n) ≤ length a + length b + 4
length_with_number a b n most = omega (arith, length-append (a ++ b) (decimal n), length-append a b, length-decimal-le 4 n (omega arith) (omega arith) (omega arith))
