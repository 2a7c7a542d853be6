-- Plans of a task, and their texts in a folder.
use Rattle.std.specs.Prelude.{◌≡◌, ℕ, ◌+◌, List, [], ◌∷◌, ◌++◌, length, Bool, true, slice_get, Option, Some, Result, Ok, Err, ◌⊎◌}
use Rattle.lama_host.specs.Folder.{Files, last_of}
use Rattle.sas_task.specs.declared.contents.Parts.{Parts}
use Rattle.sas_task.specs.declared.plans.Kept.{Kept}
use Rattle.sas_task.specs.Runs.{IsPlanOf}
use Rattle.plan_text.specs.PlanText.{plan_text}
use Rattle.plan_manager.specs.Keeping.{PlacesPlan}
use Rattle.lama_num.specs.Bounds.{is_below}
use Rattle.candidates.specs.declared.reading.ReadError.{ReadError}
use Rattle.candidates.specs.declared.reading.ReadError.TheVariants.{Failed, NoMemory}

-- each is a plan of the task
abbrev pub ArePlans : Parts → List Kept → Type 0
ArePlans parts plans = (k : ℕ) (plan : Kept) → slice_get plans k ≡ Some plan → IsPlanOf parts plan.ops plan.cost

-- The texts of plans are placed one after another, where so many were kept before.
abbrev pub PlacesPlans : List ℕ → Bool → Parts → ℕ → List Kept → Files → List Files → Type 0
PlacesPlans base many parts before [] files steps = steps ≡ []
PlacesPlans base many parts before (plan ∷ plans) files steps =
    (first : List Files) × (rest : List Files) × (steps ≡ first ++ rest)
    × PlacesPlan {T = Unit {0}} {E = ReadError} (Ok tt) base many (before + 1) (plan_text parts plan.ops) files first
    × PlacesPlans base many parts (before + 1) plans (last_of files first) rest

-- Nothing follows them. But where a call of the folder failed, the text of one more plan may follow, or a part of its
-- placing: a plan of the task below the bound.
abbrev pub PlacesLast : {T : Type 0} → Result T ReadError → List ℕ → Bool → Parts → ℕ → Option ℕ → Files → List Files → Type 0
PlacesLast (Ok x) base many parts number bound files steps = steps ≡ []
PlacesLast (Err NoMemory) base many parts number bound files steps = steps ≡ []
PlacesLast (Err Failed) base many parts number bound files steps = (steps ≡ []) ⊎ ((plan : Kept)
    × IsPlanOf parts plan.ops plan.cost × (is_below bound plan.cost ≡ true)
    × PlacesPlan {T = Unit {0}} (Err Failed) base many number (plan_text parts plan.ops) files steps)

-- The steps of keeping plans, where so many were kept before and this is the bound after them.
abbrev pub PlacesKept : {T : Type 0} → Result T ReadError → List ℕ → Bool → Parts → ℕ → List Kept → Option ℕ → Files → List Files → Type 0
PlacesKept result base many parts before plans bound files steps =
    (placed : List Files) × (last : List Files) × (steps ≡ placed ++ last)
    × PlacesPlans base many parts before plans files placed
    × PlacesLast result base many parts (before + length plans + 1) bound (last_of files placed) last
