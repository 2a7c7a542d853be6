-- Going through two lists side by side.
use Rattle.std.proofs.Common.{◌≡◌, ℕ, List, true, filter}
use Rattle.guide.specs.Operators.{is_among}

-- what is left of the helpful operators is what of those that are left to look at is helpful
pub record AreBeside (helpful rest ops : List ℕ) : Type 0 where
  pub same : rest ≡ filter (is_among helpful) ops
  pub within : (op : ℕ) → is_among rest op ≡ true → is_among helpful op ≡ true
