-- Preconditions that wait for an effect to stand for.
use Rattle.std.specs.Prelude.{◌≡◌, ℕ, ◌<◌, List, [], ◌∷◌, length, Bool, false, IsTrue, Option, None, Some, slice_get, slice_index_or}
use Rattle.std.specs.List.{list_all}
use Rattle.sas_task.specs.Facts.{same_fact}
use Rattle.sas_task.specs.Order.{distinct, on_variable}
use Rattle.sas_task.specs.Within.{is_within}
use Rattle.sas_task.specs.declared.contents.Fact.{Fact}
use Rattle.sas_task.specs.declared.contents.Operator.{Operator}

-- There is a queue for each variable. In it those facts of a list wait that are on the variable, in their order.
pub record Waits {Q : Type 0} (items : Q → List Fact) (queues : List Q) (facts : List Fact) : Type 0 where
  pub on : (var : ℕ) (d : Q) → var < length queues → items (slice_index_or queues var d) ≡ on_variable var facts

-- an operator that speaks of so many variables, and has no precondition twice
pub record CanWait (n : ℕ) (operator : Operator) : Type 0 where
  pub pre : IsTrue (list_all (is_within n) operator.pre)
  pub effects : IsTrue (list_all (λ e. is_within n e.fact) operator.effects)
  pub once : distinct operator.pre ≡ operator.pre

-- a fact is the first of a list
abbrev pub first_is : List Fact → Fact → Bool
first_is [] fact = false
first_is (f ∷ facts) fact = same_fact f fact

-- a fact is the first that waits on its variable
abbrev pub is_front : {Q : Type 0} → (Q → List Fact) → List Q → Fact → Bool
is_front {Q} items queues fact = front (slice_get queues fact.var)
  where
    front : Option Q → Bool
    front None = false
    front (Some queue) = first_is (items queue) fact
