-- Numbers by facts.
use Rattle.std.specs.Prelude.{◌≡◌, ◌≢◌, ℕ, List, [], ◌∷◌, ◌++◌, Bool, ◌&&◌, ◌||◌, unwrap_or}
use Rattle.std.specs.List.{list_any}
use Rattle.indexmap.specs.IndexMap.{get}
use Rattle.sas_task.specs.Facts.{same_fact, has_fact}
use Rattle.sas_task.specs.declared.contents.Fact.{Fact}
use Rattle.lm_graph.specs.declared.fact_table.FactTable.{FactTable}

-- the numbers under a fact
abbrev pub numbers_at : FactTable → Fact → List ℕ
numbers_at table fact = unwrap_or (get same_fact table.map fact) []

-- one fact has a number more
pub record PutsNumber (old new : FactTable) (fact : Fact) (number : ℕ) : Type 0 where
  pub here : numbers_at new fact ≡ numbers_at old fact ++ number ∷ []
  pub others : (other : Fact) → other ≢ fact → numbers_at new other ≡ numbers_at old other

-- Each of some facts has a number more: a number under a fact passes a test where one did before, or where the fact is one of them and the new one passes.
pub record AddsNumber (old new : FactTable) (facts : List Fact) (number : ℕ) : Type 0 where
  pub each : (fact : Fact) (test : ℕ → Bool) → list_any test (numbers_at new fact) ≡ (list_any test (numbers_at old fact) || (has_fact facts fact && test number))
