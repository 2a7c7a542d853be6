-- What contracts see of a space: states, each with a cost.
use Rattle.std.specs.Prelude.{ℕ, List}

pub record Member : Type 0 where
  pub state : List ℕ
  pub cost : ℕ
