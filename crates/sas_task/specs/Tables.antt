-- What the tables stand for by which many preconditions are ordered.
use Rattle.std.specs.Prelude.{◌≡◌, ℕ, List, length, Option, Some, None, slice_get}
use Rattle.std.specs.Ordering.{nat_cmp, ordering_then}
use Rattle.std.specs.Map.{count_at}
use Rattle.std.specs.BTreeMap as tree
use Rattle.std.specs.BTreeMap.{BTreeMap}
use Rattle.std.specs.BTreeSet as set
use Rattle.std.specs.BTreeSet.{BTreeSet}
use Rattle.std.specs.declared.cmp.Ordering.{Ordering}
use Rattle.sas_task.specs.Facts.{has_fact}
use Rattle.sas_task.specs.Order.{on_variable, effects_on}
use Rattle.sas_task.specs.declared.contents.Fact.{Fact}
use Rattle.sas_task.specs.declared.contents.Effect.{Effect}

-- pairs by the first number, and then by the second
abbrev pub pair_cmp : ℕ × ℕ → ℕ × ℕ → Ordering
pair_cmp x y = ordering_then (nat_cmp x.0 y.0) (nat_cmp x.1 y.1)

-- the set has the facts of a list
pub record Knows (known : BTreeSet (ℕ × ℕ)) (facts : List Fact) : Type 0 where
  pub has : (var val : ℕ) → set.contains pair_cmp known (var, val) ≡ has_fact facts (record { var = var; val = val })

-- the facts of a list, as far as they are kept in mind: all, or none
abbrev pub Remembers : Option (BTreeSet (ℕ × ℕ)) → List Fact → Type 0
Remembers None facts = Unit {0}
Remembers (Some known) facts = Knows known facts

-- how often a variable was counted
abbrev pub count_of : BTreeMap ℕ ℕ → ℕ → ℕ
count_of counts var = count_at (tree.get nat_cmp counts) var

-- how many facts of a list are on each variable
pub record CountsFacts (counts : BTreeMap ℕ ℕ) (facts : List Fact) : Type 0 where
  pub count : (var : ℕ) → count_of counts var ≡ length (on_variable var facts)

-- how many effects of a list are on each variable
pub record CountsEffects (counts : BTreeMap ℕ ℕ) (effects : List Effect) : Type 0 where
  pub count : (var : ℕ) → count_of counts var ≡ effects_on var effects

-- the facts of a list, each by its variable and how many facts on it stand before
pub record Places (placed : BTreeMap (ℕ × ℕ) Fact) (facts : List Fact) : Type 0 where
  pub at : (var place : ℕ) → tree.get pair_cmp placed (var, place) ≡ slice_get (on_variable var facts) place
