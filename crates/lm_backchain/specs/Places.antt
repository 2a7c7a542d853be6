-- Where a fact stands or would stand among ascending ones.
use Rattle.std.specs.Prelude.{◌≡◌, ℕ, ◌<◌, ◌≤◌, List, length, Bool, true, false, slice_get, Option, Some, None}
use Rattle.sas_task.specs.Facts.{same_fact}
use Rattle.sas_task.specs.declared.contents.Fact.{Fact}
use Rattle.lm_graph.specs.Nodes.{is_less}

-- all before the place are less, and what is there isn't
pub record IsPlaceFor (facts : List Fact) (fact : Fact) (place : ℕ) : Type 0 where
  pub within : place ≤ length facts
  pub below : (i : ℕ) (other : Fact) → i < place → slice_get facts i ≡ Some other → is_less other fact ≡ true
  pub next : (other : Fact) → slice_get facts place ≡ Some other → is_less other fact ≡ false

-- the fact stands there
abbrev pub is_at : List Fact → ℕ → Fact → Bool
is_at facts place fact = here (slice_get facts place)
  where
    here : Option Fact → Bool
    here None = false
    here (Some other) = same_fact fact other
