-- The folder holds just the plans, and the steps to there.
use Rattle.std.specs.Prelude.{◌≡◌, ◌≢◌, ℕ, zero, suc, ◌<◌, ◌≤◌, ◌^◌, List, [], length, Bool, true, false, slice_get, Option, Some, None, option_map, Result, OnOk, ◌⊎◌}
use Rattle.std.specs.FinMap.{get, remove}
use Rattle.lama_host.specs.Folder.{Files, last_of}
use Rattle.lama_num.specs.Names.{part_name}
use Rattle.sas_task.specs.declared.contents.Parts.{Parts}
use Rattle.sas_task.specs.declared.plans.Kept.{Kept}
use Rattle.plan_text.specs.PlanText.{plan_text}
use Rattle.plan_manager.specs.Family.{family_name}
use Rattle.plan_manager.specs.Keeping.{IsDraft, IsPlaced, Places}
use Rattle.lama_host.specs.Steps.{Each}
use Rattle.lama_num.specs.declared.names.TheConstants.{MOST_PLANS}

-- the plan of a name of the family: with many the n-th plan is that of base.n, without the only one is that of the base
unfoldable pub plan_at : Bool → List Kept → ℕ → Option Kept
plan_at true kept zero = None
plan_at true kept (suc n) = slice_get kept n
plan_at false kept zero = slice_get kept 0
plan_at false kept (suc n) = None

-- its text, where there is one
abbrev pub text_at : Bool → Parts → List Kept → ℕ → Option (List ℕ)
text_at many task kept k = option_map (λ plan. plan_text task plan.ops) (plan_at many kept k)

-- Each name of the family holds the text of its plan, or isn't there; nor is base.part.
pub record HoldsPlans (files : Files) (base : List ℕ) (many : Bool) (task : Parts) (kept : List Kept) : Type 0 where
  pub plans : (k : ℕ) → k ≤ MOST_PLANS → get files (family_name base k) ≡ text_at many task kept k
  pub part : get files (part_name base) ≡ None

-- each plan has fewer than 2^32 steps, so that its text ends below 2^63
abbrev pub HaveFewSteps : List Kept → Type 0
HaveFewSteps kept = (i : ℕ) (plan : Kept) → slice_get kept i ≡ Some plan → length plan.ops < 2 ^ 32

-- What one step of sealing does: base.part gets a front of a plan's text; a name of the family, which held something
-- else, gets its plan's text; a name without a plan is taken away; or base.part is.
pub data SealStep (base : List ℕ) (many : Bool) (task : Parts) (kept : List Kept) (before after : Files) : Type 0 where
  Draft : (k : ℕ) (text : List ℕ) → text_at many task kept k ≡ Some text → IsDraft (part_name base) text before after → SealStep base many task kept before after
  Place : (k : ℕ) (text : List ℕ) → k ≤ MOST_PLANS → text_at many task kept k ≡ Some text → get before (family_name base k) ≢ Some text → IsPlaced (part_name base) (family_name base k) text before after → SealStep base many task kept before after
  Take : (k : ℕ) → k ≤ MOST_PLANS → text_at many task kept k ≡ None → after ≡ remove before (family_name base k) → SealStep base many task kept before after
  TakePart : after ≡ remove before (part_name base) → SealStep base many task kept before after

-- Such steps; where no call failed, the folder holds just the plans in the end.
abbrev pub Seals : {T E : Type 0} → Result T E → List ℕ → Bool → Parts → List Kept → Files → List Files → Type 0
Seals result base many task kept files steps = Each (SealStep base many task kept) files steps × OnOk result (HoldsPlans (last_of files steps) base many task kept)

-- A text is placed where the target doesn't hold it.
abbrev pub Rewrites : {T E : Type 0} → Result T E → List ℕ → List ℕ → List ℕ → Files → List Files → Type 0
Rewrites result draft target text files steps =
    ((steps ≡ []) × OnOk result (get files target ≡ Some text))
    ⊎ ((get files target ≢ Some text) × Places result draft target text files steps)

-- Steps of sealing, after which each name from one number up to another holds its plan's text, or isn't there.
abbrev pub SealsBetween : {T E : Type 0} → Result T E → List ℕ → Bool → Parts → List Kept → ℕ → ℕ → Files → List Files → Type 0
SealsBetween result base many task kept from end files steps =
    Each (SealStep base many task kept) files steps
    × OnOk result ((k : ℕ) → from ≤ k → k < end → get (last_of files steps) (family_name base k) ≡ text_at many task kept k)
