-- What a sink took, and what a clock answered.
use Rattle.std.specs.Prelude.{◌≡◌, ℕ, List, [], ◌∷◌, ◌++◌, take, Option, Some, Result, is_some, OnOk, OnErr}

-- all bytes were taken; or, where the call failed, a front of them
pub record Takes {T E : Type 0} (before now : Option (List ℕ)) (bytes : List ℕ) (result : Result T E) : Type 0 where
  pub tells : is_some now ≡ is_some before
  pub all : (past : List ℕ) → before ≡ Some past → OnOk result (now ≡ Some (past ++ bytes))
  pub front : (past : List ℕ) → before ≡ Some past → OnErr result ((n : ℕ) × (now ≡ Some (past ++ take n bytes)))

-- where the answers are still told, they are those before and this one
abbrev pub Answers : Option (List ℕ) → Option (List ℕ) → ℕ → Type 0
Answers before now answer = (all : List ℕ) → now ≡ Some all → (past : List ℕ) × (before ≡ Some past) × (all ≡ past ++ answer ∷ [])
