-- Room for the operators of a relaxed plan.
use Rattle.std.specs.Prelude.{◌≡◌, ◌≤◌, ℕ, length, vec_len, vec_capacity}
use Rattle.h_ff.specs.declared.plan.RelaxedPlan.{RelaxedPlan}

-- room for the operators of so many facts
pub record HasPlaces (facts : ℕ) (plan : RelaxedPlan) : Type 0 where
  pub marks : length plan.marks.items ≡ facts
  pub few : vec_len plan.operators ≤ facts
  pub operators_fit : facts ≤ vec_capacity plan.operators
  pub preferred_fit : facts ≤ vec_capacity plan.preferred
