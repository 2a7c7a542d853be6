-- The operators that give some facts.
use Rattle.std.specs.Prelude.{◌≡◌, ℕ, List, [], ◌∷◌, Bool, false, ◌&&◌, nat_lt, slice_get, Option, Some, None}
use Rattle.sas_task.specs.declared.contents.Fact.{Fact}
use Rattle.sas_task.specs.declared.contents.Operator.{Operator}
use Rattle.sas_task.specs.declared.contents.Parts.{Parts}
use Rattle.relaxed_task.specs.Numbers.{is_among}
use Rattle.lm_graph.specs.declared.fact_table.FactTable.{FactTable}
use Rattle.lm_graph.specs.FactTables.{numbers_at}
use Rattle.lm_backchain.specs.Backchain.{gives_one}

-- an effect of the operator of a number gives one of the facts
abbrev pub gives_at : Parts → List Fact → ℕ → Bool
gives_at parts facts op = gives (slice_get parts.operators op)
  where
    gives : Option Operator → Bool
    gives None = false
    gives (Some operator) = gives_one facts operator

-- the cost of the operator of a number
abbrev pub cost_at : List Operator → ℕ → ℕ
cost_at operators op = cost (slice_get operators op)
  where
    cost : Option Operator → ℕ
    cost None = 0
    cost (Some operator) = operator.cost

-- the numbers under a fact are those of the operators that give it, of the first so many
pub record FindsGivers (parts : Parts) (count : ℕ) (table : FactTable) : Type 0 where
  pub each : (fact : Fact) (op : ℕ) → is_among (numbers_at table fact) op ≡ (nat_lt op count && gives_at parts (fact ∷ []) op)

-- the numbers are those of the operators that give one of the facts
pub record AreGivers (parts : Parts) (facts : List Fact) (ops : List ℕ) : Type 0 where
  pub each : (op : ℕ) → is_among ops op ≡ gives_at parts facts op
