-- One more plan.
use Rattle.std.proofs.Common.{◌≡◌, ℕ, true, List, [], ◌∷◌, ◌++◌, map, Option, Some}
use Rattle.std.specs.List.{last_or}
use Rattle.std.proofs.lemmas.List.Elements.{All-push}
use Rattle.sas_task.specs.declared.contents.Parts.{Parts}
use Rattle.sas_task.specs.declared.plans.Kept.{Kept}
use Rattle.lama_num.specs.Bounds.{is_below}
use Rattle.sas_task.specs.Runs.{IsPlanOf}
use Rattle.run_report.specs.Plans.{AreCheaper, ArePlans}

pub cheaper-push : (bound : Option ℕ) (kept : List Kept) (plan : Kept) → AreCheaper bound kept →
    is_below (last_or bound (map (λ (other : Kept). other.cost) kept)) plan.cost ≡ true → AreCheaper bound (kept ++ plan ∷ [])
cheaper-push bound [] plan all below = (below, tt)
cheaper-push bound (first ∷ kept) plan all below = (all.0, cheaper-push (Some first.cost) kept plan all.1 below)

pub more_plan : (parts : Parts) (bound : Option ℕ) (kept : List Kept) (plan : Kept) → ArePlans parts bound kept → IsPlanOf parts plan.ops plan.cost →
    is_below (last_or bound (map (λ (other : Kept). other.cost) kept)) plan.cost ≡ true → ArePlans parts bound (kept ++ plan ∷ [])
more_plan parts bound kept plan are is below = record {
  plans = All-push (λ (p : Kept). IsPlanOf parts p.ops p.cost) kept plan are.plans is;
  cheaper = cheaper-push bound kept plan are.cheaper below;
}
